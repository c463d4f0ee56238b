-- A further copy of a mail changes no answer.
use Rattle.std.proofs.Common.{◌≡◌, refl, sym, ap, ◌∙◌, subst, ℕ, ◌<◌, ◌≤◌, Bool, true, false, not, ◌&&◌, ◌||◌, cond, Option, Some, None, Ok, List, [], ◌∷◌, arith, inl, inr}
use Rattle.std.specs.Prelude.{find, filter_map, Result, Err}
use Rattle.std.specs.List.{AllByRecursion, cons_option, list_any}
use Rattle.std.specs.Result.{result_ok}
use Rattle.std.specs.declared.cmp.Ordering.TheVariants.{Equal, Greater}
use Rattle.std.specs.Ordering.{is_lt, nat_cmp}
use Rattle.std.specs.Cmp.{nat_cmp_is, tied_itself}
use Rattle.std.specs.Cmp.Lexicographic.{bytes_decides}
use Rattle.std.proofs.lemmas.Cmp.{nat_list_cmp_total}
use Rattle.std.proofs.lemmas.Bool.{cases_eq}
use Rattle.std.proofs.lemmas.List.{append-nil}
use Rattle.std.proofs.lemmas.List.Elements.{filter_map-append}
use Rattle.std.proofs.lemmas.List.Sorted.{list_any-IsPermutation}
use Rattle.kit.specs.Options.{◌>>=◌}
use Rattle.lists.specs.Distinct.{firsts}
use Rattle.lists.proofs.Rising.{is_preceded}
use Rattle.card_type.specs.declared.card.Card.{Card}
use Rattle.mailbox_model.specs.declared.change.Change.TheVariants.{Arrive}
use Rattle.mailbox_model.specs.declared.change.Fault.{Fault}
use Rattle.mailbox_model.specs.Mailbox.{Mailbox, Entry, has_uid, new_entry, card_at, after, IsEntry, IsMailbox}
use Rattle.mailbox_model.specs.Present.{Mail, effective_date, placed_by, mail_by, mail_of, mail_cmp, mails, has_id, same_id, present}
use Rattle.mailbox_model.specs.Turns.{arriving}
use Rattle.mailbox_model.specs.ChatList.{fault_by, list_page}
use Rattle.mailbox_model.specs.Answers.{Question, answer}
use Rattle.mailbox_model.proofs.MailLaws.{order, is_alike, mails-arrive}
use Rattle.mailbox_model.proofs.PresentLaws.{mails_all}
use Rattle.mailbox_model.proofs.UidLaws.{below}
use Rattle.model_laws.proofs.InOrder.{firsts_hidden, found_present, mails_in_order}
use Rattle.model_laws.proofs.Parts.{same_parts}

-- a mail with a card adds no fault
pub faults-arrive : (m : Mailbox) (card : Card) → (list_page (after m (Arrive card))).faults ≡ (list_page m).faults
faults-arrive m card =
    let faults = filter_map (λ entry. fault_by entry.uid entry.read) m.entries in
    filter_map-append (λ entry. fault_by entry.uid entry.read) m.entries (new_entry m (Ok card) ∷ []) ∙ append-nil faults

-- what was found and is no later hides it
found_hides : (y t : Mail) (zs : List Mail) → find (same_id y) zs ≡ Some t → is_lt (mail_cmp y t) ≡ false
    → is_preceded same_id mail_cmp y zs ≡ true
found_hides y t [] e h = cc
found_hides y t (z ∷ zs) e h =
    elim (same_id y z) as (λ b. cond b (Some z) (find (same_id y) zs) ≡ Some t → ((b && not (is_lt (mail_cmp y z))) || is_preceded same_id mail_cmp y zs) ≡ true) [
      | true ↦ λ k. let same : z ≡ t = cc in rw (ap (λ x. is_lt (mail_cmp y x)) same ∙ h) refl
      | false ↦ λ k. found_hides y t zs k h
    ] e

-- what is hidden changes nothing
hidden_copy : (m : Mailbox) (card : Card) → is_preceded same_id mail_cmp (arriving m card) (mails m) ≡ true
    → (question : Question) → answer (after m (Arrive card)) question ≡ answer m question
hidden_copy m card h question =
    let stays : present (after m (Arrive card)) ≡ present m =
    ap (firsts same_id) (mails-arrive m card)
    ∙ firsts_hidden mail_cmp order same_id is_alike (arriving m card) (mails m) h (mails_in_order m) in
    same_parts (after m (Arrive card)) m refl refl stays (faults-arrive m card) question

pub later_copy : (m : Mailbox) (card : Card) (t : Mail) → find (has_id card.id) (present m) ≡ Some t
    → is_lt (mail_cmp (arriving m card) t) ≡ false
    → (question : Question) → answer (after m (Arrive card)) question ≡ answer m question
later_copy m card t e h question =
    let y = arriving m card in
    hidden_copy m card (found_hides y t (mails m) (sym (found_present y (mails m)) ∙ e) h) question

-- ---- a card that comes again

no_later : (date : Option ℕ) (before now : ℕ) → before ≤ now → effective_date date before ≤ effective_date date now
no_later None before now h = h
no_later (Some d) before now h = omega (arith, h)

equal_cmp : (a b : ℕ) → a ≡ b → nat_cmp a b ≡ Equal
equal_cmp a b e = sym (nat_cmp_is a b Equal e)

above_cmp : (a b : ℕ) → b < a → nat_cmp a b ≡ Greater
above_cmp a b lt = sym (nat_cmp_is a b Greater lt)

module _ (m : Mailbox) (card : Card) where
  abbrev y : Mail
  y = arriving m card

  -- it is not below what came by now, of a lower uid
  not_below : (e : Entry) → e.arrival ≤ m.now → e.uid < m.next_uid
      → is_lt (mail_cmp y (record { placed = placed_by e card; seen = e.seen })) ≡ false
  not_below e arrived uid =
      elim (cases_eq now before) [
        | inl same ↦ rw (equal_cmp now before same) (rw (tied_itself nat_list_cmp_total card.id) (rw (above_cmp m.next_uid e.uid uid) refl))
        | inr other ↦ rw (above_cmp now before (omega (arith, no_later card.date e.arrival m.now arrived, other))) refl
      ]
    where
      now : ℕ
      now = effective_date card.date m.now

      before : ℕ
      before = effective_date card.date e.arrival

  -- what hides it
  abbrev hides : Mail → Bool
  hides z = same_id y z && not (is_lt (mail_cmp y z))

  its_entry_hides : (e : Entry) → e.arrival ≤ m.now → e.uid < m.next_uid
      → hides (record { placed = placed_by e card; seen = e.seen }) ≡ true
  its_entry_hides e arrived uid =
      rw ((bytes_decides card.id card.id).1 refl, not_below e arrived uid) refl

  one_hides : (uid : ℕ) (es : List Entry) → (find (has_uid uid) es >>= λ e. result_ok e.read) ≡ Some card
      → AllByRecursion (IsEntry m.now) es → AllByRecursion (λ e. e.uid < m.next_uid) es
      → list_any hides (filter_map mail_of es) ≡ true
  one_hides uid [] h each low = cc
  one_hides uid (e ∷ es) h each low =
      elim (has_uid uid e) as (λ b. (cond b (Some e) (find (has_uid uid) es) >>= λ x. result_ok x.read) ≡ Some card → list_any hides (filter_map mail_of (e ∷ es)) ≡ true) [
        | true ↦ λ k. here e.read k
        | false ↦ λ k. later (mail_of e) (one_hides uid es k each.1 low.1)
      ] h
    where
      here : (read : Result Card Fault) → result_ok read ≡ Some card → list_any hides (cons_option (mail_by e read) (filter_map mail_of es)) ≡ true
      here (Ok c) k =
          let same : card ≡ c = cc in
          subst (λ c. list_any hides (cons_option (mail_by e (Ok c)) (filter_map mail_of es)) ≡ true) same
          (rw (its_entry_hides e each.0.arrived low.0) refl)
      here (Err fault) k = cc

      later : (o : Option Mail) → list_any hides (filter_map mail_of es) ≡ true → list_any hides (cons_option o (filter_map mail_of es)) ≡ true
      later None k = k
      later (Some z) k = elim (hides z) as (λ b. (b || list_any hides (filter_map mail_of es)) ≡ true) [ true ↦ refl | false ↦ k ]

  pub same_again : (uid : ℕ) → IsMailbox m → card_at m uid ≡ Some card
      → (question : Question) → answer (after m (Arrive card)) question ≡ answer m question
  same_again uid k e question =
      let all = sym (list_any-IsPermutation hides (filter_map mail_of m.entries) (mails m) (mails_all m)) ∙ one_hides uid m.entries e k.each (below 1 m.next_uid m.entries k.uids).1 in
      hidden_copy m card all question
