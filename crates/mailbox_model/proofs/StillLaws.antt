-- The turn is Nothing exactly where the present mails and the moment stay as they are.
use Rattle.std.proofs.Common.{◌≡◌, ◌↔◌, refl, sym, ap, ◌∙◌, subst, ℕ, ◌+◌, ◌≤◌, Bool, true, false, cond, Option, Some, None, List, [], ◌∷◌, length, map, arith}
use Rattle.std.specs.Prelude.{if◌then◌else◌, filter, IfSome, Result, Ok, Err}
use Rattle.std.specs.List.{AllByRecursion}
use Rattle.std.specs.Option.{option_or}
use Rattle.std.proofs.lemmas.Bool.{eq-eqb, ne_eqb}
use Rattle.std.proofs.lemmas.List.Sorted.{length_permutation, sum_by-IsPermutation}
use Rattle.std.proofs.lemmas.List.Sums.{length-filter}
use Rattle.std.proofs.lemmas.List.Elements.{All-from_recursion, All-contains}
use Rattle.card_type.specs.declared.card.Card.{Card}
use Rattle.mailbox_model.specs.declared.change.Fault.{Fault}
use Rattle.mailbox_model.specs.declared.change.Change.{Change}
use Rattle.mailbox_model.specs.declared.turn.Turn.{Turn}
use Rattle.mailbox_model.specs.declared.turn.Turn.TheVariants.{Nothing, Add, Remove, Replace, Marked, Moved}
use Rattle.mailbox_model.specs.Mailbox.{Mailbox, Entry, after, IsEntry, IsMailbox}
use Rattle.mailbox_model.specs.Present.{Mail, effective_date, mail_by, mail_of, mail_cmp, present}
use Rattle.mailbox_model.specs.Turns.{is_mail, mark_mail, with_mail, turn, Turns, MovesClock}
use Rattle.mailbox_model.proofs.PresentLaws.{permuted-insert_by}
use Rattle.mailbox_model.proofs.TurnLaws.{turn_law}
use Rattle.mailbox_model.proofs.UidLaws.{present_each}

-- ---- a mail inserted is one more

length-with : (t : Mail) (ts : List Mail) → length (with_mail t ts) ≡ length (t ∷ ts)
length-with t ts = length_permutation (t ∷ ts) (with_mail t ts) (permuted-insert_by mail_cmp t ts)

many-with : (p : Mail → Bool) (t : Mail) (ts : List Mail) → length (filter p (with_mail t ts)) ≡ length (filter p (t ∷ ts))
many-with p t ts =
    length-filter p (with_mail t ts)
    ∙ sum_by-IsPermutation (λ u. cond (p u) 1 0) (t ∷ ts) (with_mail t ts) (permuted-insert_by mail_cmp t ts)
    ∙ sym (length-filter p (t ∷ ts))

-- ---- every other turn moves something

fixed : {X : Type 0} (f : X → X) (xs : List X) → map f xs ≡ xs → AllByRecursion (λ x. f x ≡ x) xs
fixed f [] e = tt
fixed f (x ∷ xs) e = (cc, fixed f xs cc)

never_marked : (uid now : ℕ) (t : Mail) → t.placed.uid ≡ uid → t.seen ≡ None → mark_mail uid now t ≡ t → ⊥
never_marked uid now t is unseen same =
    let marked : option_or t.seen (Some now) ≡ t.seen = ap (λ (u : Mail). u.seen) (sym made ∙ same) in
    let some : Some now ≡ None = sym (ap (λ o. option_or o (Some now)) unseen) ∙ marked ∙ unseen in
    cc
  where
    made : mark_mail uid now t ≡ record t { seen = option_or t.seen (Some now) }
    made = ap (λ b. if b then record t { seen = option_or t.seen (Some now) } else t) (eq-eqb t.placed.uid uid is)

still : (before later : List Mail) (now old new : ℕ) (turn : Turn) → Turns before later now turn → MovesClock old new turn
    → later ≡ before → new ≡ old → turn ≡ Nothing
still before later now old new Nothing turns clock same alike = refl
still before later now old new (Add at) (t, is, e) clock same alike =
    absurd (omega (arith, length-with t before, ap (λ (ts : List Mail). length ts) (sym same ∙ e)))
still before later now old new (Remove at) (t, is, e) clock same alike =
    absurd (omega (arith, length-with t later, ap (λ (ts : List Mail). length ts) (same ∙ e)))
still before later now old new (Replace from to) (t, u, is, has, r) clock same alike =
    let p = is_mail t.placed.uid in
    let here : p t ≡ true = eq-eqb t.placed.uid t.placed.uid refl in
    let gone : p u ≡ false = ne_eqb u.placed.uid t.placed.uid (λ k. r.apart (sym k)) in
    let first : length (filter p before) ≡ 1 + length (filter p r.others) = ap (λ (ts : List Mail). length (filter p ts)) r.first ∙ many-with p t r.others ∙ ap (λ b. length (cond b (t ∷ filter p r.others) (filter p r.others))) here ∙ omega arith in
    let second : length (filter p later) ≡ length (filter p r.others) = ap (λ (ts : List Mail). length (filter p ts)) r.second ∙ many-with p u r.others ∙ ap (λ b. length (cond b (u ∷ filter p r.others) (filter p r.others))) gone in
    absurd (omega (arith, first, second, ap (λ (ts : List Mail). length (filter p ts)) same))
still before later now old new (Marked uid) (t, there, is, unseen, e) clock same alike =
    let all = fixed (mark_mail uid now) before (sym e ∙ same) in
    absurd (never_marked uid now t is unseen (All-contains (λ u. mark_mail uid now u ≡ u) before t (All-from_recursion (λ u. mark_mail uid now u ≡ u) before all) there))
still before later now old new (Moved moment) turns (lt, e) same alike = absurd (omega (arith, lt, e, alike))

pub nothing_stays : (m : Mailbox) (change : Change) → IsMailbox m
    → (turn m change ≡ Nothing) ↔ ((present (after m change) ≡ present m) × ((after m change).now ≡ m.now))
nothing_stays m change k =
    let law = turn_law m change k.uids in (
      λ e. (subst (Turns (present m) (present (after m change)) m.now) e law.present, subst (MovesClock m.now (after m change).now) e law.clock),
      λ s. still (present m) (present (after m change)) m.now m.now (after m change).now (turn m change) law.present law.clock s.0 s.1,
    )

-- ---- no effective date is to come

pub present_dates : (m : Mailbox) → IsMailbox m → AllByRecursion (λ t. t.placed.date ≤ m.now) (present m)
present_dates m k = present_each (λ t. t.placed.date ≤ m.now) m (dates m.entries k.each)
  where
    no_later : (date : Option ℕ) (arrival : ℕ) → effective_date date arrival ≤ arrival
    no_later None arrival = omega arith
    no_later (Some d) arrival = omega arith

    dates : (entries : List Entry) → AllByRecursion (IsEntry m.now) entries
        → AllByRecursion (λ e. IfSome (mail_of e) (λ t. t.placed.date ≤ m.now)) entries
    dates [] a = tt
    dates (e ∷ es) a = (by e.read, dates es a.1)
      where
        by : (read : Result Card Fault) → IfSome (mail_by e read) (λ t. t.placed.date ≤ m.now)
        by (Ok card) = let arrived = a.0.arrived in omega (arith, no_later card.date e.arrival, arrived)
        by (Err fault) = tt
