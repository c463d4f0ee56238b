-- An expunge leaves no trace of its mail.
use Rattle.std.proofs.Common.{◌≡◌, refl, ap, ◌∙◌, ℕ, ◌<◌, true, false, not, cond, Result, List, [], ◌∷◌, map, arith}
use Rattle.std.specs.Prelude.{if◌then◌else◌, filter, max}
use Rattle.std.specs.List.{AllByRecursion}
use Rattle.std.proofs.lemmas.Bool.{eq-eqb, ne_eqb}
use Rattle.std.proofs.lemmas.List.Elements.{filter-append}
use Rattle.std.proofs.lemmas.List.{append-nil}
use Rattle.card_type.specs.declared.card.Card.{Card}
use Rattle.mailbox_model.specs.declared.change.Change.{Change}
use Rattle.mailbox_model.specs.declared.change.Change.TheVariants.{Arrive, ArriveFault, Expunge, Seen, At}
use Rattle.mailbox_model.specs.declared.change.Fault.{Fault}
use Rattle.mailbox_model.specs.Mailbox.{Mailbox, Entry, has_uid, new_entry, with_arrival, marked_at, mark_entry, after, after_all, IsMailbox, RiseBelow}
use Rattle.mailbox_model.specs.Answers.{Question, answer}
use Rattle.mailbox_model.proofs.AnswerLaws.{same_answer}
use Rattle.mailbox_model.proofs.UidLaws.{below}
use Rattle.model_laws.specs.Arrivals.{BringsNone, BringNone}
use Rattle.model_laws.proofs.Filters.{filter_turn}

abbrev but : ℕ → List Entry → List Entry
but uid entries = filter (λ entry. not (has_uid uid entry)) entries

-- ---- what changes make of the others

-- a mark keeps the uid
marked_uid : (uid marked now : ℕ) (e : Entry) → has_uid uid (mark_entry marked now e) ≡ has_uid uid e
marked_uid uid marked now e =
    elim (has_uid marked e) as (λ b. has_uid uid (if b then record e { seen = marked_at now e.seen } else e) ≡ has_uid uid e) [ true ↦ refl | false ↦ refl ]

but-marked : (uid marked now : ℕ) (es : List Entry)
    → but uid (map (mark_entry marked now) es) ≡ map (mark_entry marked now) (but uid es)
but-marked uid marked now [] = refl
but-marked uid marked now (e ∷ es) =
    ap (λ b. cond (not b) (mark_entry marked now e ∷ but uid (map (mark_entry marked now) es)) (but uid (map (mark_entry marked now) es))) (marked_uid uid marked now e)
    ∙ elim (has_uid uid e) as (λ b. cond (not b) (mark_entry marked now e ∷ but uid (map (mark_entry marked now) es)) (but uid (map (mark_entry marked now) es)) ≡ map (mark_entry marked now) (cond (not b) (e ∷ but uid es) (but uid es))) [
      | true ↦ but-marked uid marked now es
      | false ↦ ap (λ ys. mark_entry marked now e ∷ ys) (but-marked uid marked now es)
    ]

-- the second mailbox is the first without an entry
pub record IsWithout (uid : ℕ) (m n : Mailbox) : Type 0 where
  pub me : m.me ≡ n.me
  pub now : m.now ≡ n.now
  pub entries : but uid m.entries ≡ n.entries

change_without : (uid : ℕ) (m n : Mailbox) (change : Change) → BringsNone change → IsWithout uid m n
    → IsWithout uid (after m change) (after n change)
change_without uid m n (Arrive card) none w = absurd none
change_without uid m n (ArriveFault fault) none w = absurd none
change_without uid m n (Expunge gone) none w =
    record { me = w.me; now = w.now; entries = filter_turn (λ e. not (has_uid uid e)) (λ e. not (has_uid gone e)) m.entries ∙ ap (but gone) w.entries }
change_without uid m n (Seen marked) none w =
    record { me = w.me; now = w.now; entries = but-marked uid marked m.now m.entries ∙ (λ i. map (mark_entry marked (w.now i)) (w.entries i)) }
change_without uid m n (At moment) none w = record { me = w.me; now = ap (λ now. max now moment) w.now; entries = w.entries }

changes_without : (uid : ℕ) (m n : Mailbox) (changes : List Change) → BringNone changes → IsWithout uid m n
    → IsWithout uid (after_all m changes) (after_all n changes)
changes_without uid m n [] none w = w
changes_without uid m n (change ∷ changes) none w =
    changes_without uid (after m change) (after n change) changes none.1 (change_without uid m n change none.0 w)

-- ---- what came is the entry that is left out

all_kept : (uid : ℕ) (es : List Entry) → AllByRecursion (λ e. e.uid < uid) es → but uid es ≡ es
all_kept uid [] a = refl
all_kept uid (e ∷ es) a =
    let low : e.uid < uid = a.0 in
    rw (ne_eqb e.uid uid (λ k. omega (arith, k))) (ap (λ ys. e ∷ ys) (all_kept uid es a.1))

arrival_without : (m : Mailbox) (read : Result Card Fault) → RiseBelow 1 m.entries m.next_uid
    → IsWithout m.next_uid (with_arrival m read) m
arrival_without m read u =
    record {
      me = refl;
      now = refl;
      entries = filter-append (λ e. not (has_uid m.next_uid e)) m.entries (new_entry m read ∷ [])
          ∙ rw (eq-eqb m.next_uid m.next_uid refl) (append-nil (but m.next_uid m.entries))
          ∙ all_kept m.next_uid m.entries (below 1 m.next_uid m.entries u).1;
    }

pub undone : (m : Mailbox) (read : Result Card Fault) (changes : List Change) → IsMailbox m → BringNone changes
    → (question : Question)
    → answer (after (after_all (with_arrival m read) changes) (Expunge m.next_uid)) question ≡ answer (after_all m changes) question
undone m read changes k none question =
    let n = after_all (with_arrival m read) changes in
    let w = changes_without m.next_uid (with_arrival m read) m changes none (arrival_without m read k.uids) in
    same_answer (after n (Expunge m.next_uid)) (after_all m changes) w.me w.now w.entries question
