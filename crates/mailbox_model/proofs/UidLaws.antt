-- Uids: each entry and each mail is found by its own, and a uid never names a second card.
use Rattle.std.proofs.Common.{◌≡◌, refl, sym, ap, ◌∙◌, subst, ℕ, ◌+◌, ◌<◌, ◌≤◌, Bool, true, false, not, cond, Option, Some, None, Result, Ok, Err, List, [], ◌∷◌, ◌++◌, map, arith, inl, inr}
use Rattle.std.specs.Prelude.{if◌then◌else◌, filter_map, filter, find, IfSome}
use Rattle.std.specs.List.{AllByRecursion, IsDistinct, cons_option}
use Rattle.std.specs.Option.{option_and_then, option_or}
use Rattle.std.specs.Result.{result_ok}
use Rattle.std.proofs.lemmas.Bool.{cases_eq, eq-eqb, eqb-true, ne_eqb}
use Rattle.std.proofs.lemmas.List.Folds.{find-append}
use Rattle.std.proofs.lemmas.List.Elements.{All-from_recursion, recursion_from_All}
use Rattle.kit.specs.Options.{◌>>=◌}
use Rattle.lists.specs.Distinct.{firsts}
use Rattle.lists.specs.Sorted.{sorted_by}
use Rattle.lists.proofs.DistinctLaws.{IsDistinct-filter}
use Rattle.lists.proofs.Inserts.{None_of, none_found, filter_none, All-filter, All-firsts, found_all, found_passes, find-filter}
use Rattle.lists.proofs.Sorted.{All-sorted_by}
use Rattle.card_type.specs.declared.card.Card.{Card}
use Rattle.mailbox_model.specs.declared.change.Fault.{Fault}
use Rattle.mailbox_model.specs.declared.change.Change.{Change}
use Rattle.mailbox_model.specs.declared.change.Change.TheVariants.{Arrive, ArriveFault, Expunge, Seen, At}
use Rattle.mailbox_model.specs.Mailbox.{Mailbox, Entry, new_entry, has_uid, mark_entry, marked_at, entry_at, card_at, after, after_all, RiseBelow}
use Rattle.mailbox_model.specs.Present.{Mail, mail_by, mail_of, mail_at, mail_cmp, mails, same_id, present, same_uid}
use Rattle.mailbox_model.proofs.ChatLaws.{or_none}
use Rattle.mailbox_model.proofs.MailLaws.{line_of}

-- ---- each entry is found by its uid

above_more : (low more : ℕ) (entries : List Entry) → low ≤ more → AllByRecursion (λ e. more ≤ e.uid) entries
    → AllByRecursion (λ e. low ≤ e.uid) entries
above_more low more [] h a = tt
above_more low more (e ∷ es) h a = (let k : more ≤ e.uid = a.0 in omega arith, above_more low more es h a.1)

above : (low next : ℕ) (entries : List Entry) → RiseBelow low entries next → AllByRecursion (λ e. low ≤ e.uid) entries
above low next [] r = tt
above low next (e ∷ es) r =
    let first : low ≤ e.uid = r.0 in
    (first, above_more low (e.uid + 1) es (omega arith) (above (e.uid + 1) next es r.1))

pub below : (low next : ℕ) (entries : List Entry) → RiseBelow low entries next
    → (low ≤ next) × AllByRecursion (λ e. e.uid < next) entries
below low next [] r = (r, tt)
below low next (e ∷ es) r =
    let first : low ≤ e.uid = r.0 in
    let rest = below (e.uid + 1) next es r.1 in
    (omega (arith, rest.0), (omega (arith, rest.0), rest.1))

pub each_found : (low next : ℕ) (entries : List Entry) → RiseBelow low entries next
    → AllByRecursion (λ e. find (has_uid e.uid) entries ≡ Some e) entries
each_found low next [] r = tt
each_found low next (e ∷ es) r =
    (rw (eq-eqb e.uid e.uid refl) refl, further es (above (e.uid + 1) next es r.1) (each_found (e.uid + 1) next es r.1))
  where
    further : (xs : List Entry) → AllByRecursion (λ x. e.uid + 1 ≤ x.uid) xs
        → AllByRecursion (λ x. find (has_uid x.uid) es ≡ Some x) xs
        → AllByRecursion (λ x. find (has_uid x.uid) (e ∷ es) ≡ Some x) xs
    further [] a f = tt
    further (x ∷ xs) a f =
        (let later : e.uid + 1 ≤ x.uid = a.0 in rw (ne_eqb e.uid x.uid (λ k. omega (arith, k))) f.0, further xs a.1 f.1)

-- ---- what holds of the mail of each entry holds of each present mail

read_all : (P : Mail → Type 0) (entries : List Entry) → AllByRecursion (λ e. IfSome (mail_of e) P) entries
    → AllByRecursion P (filter_map mail_of entries)
read_all P [] a = tt
read_all P (e ∷ es) a = by (mail_of e) a.0 (read_all P es a.1)
  where
    by : (o : Option Mail) → IfSome o P → AllByRecursion P (filter_map mail_of es)
        → AllByRecursion P (cons_option o (filter_map mail_of es))
    by None h rest = rest
    by (Some t) h rest = (h, rest)

pub mails_each : (P : Mail → Type 0) (m : Mailbox) → AllByRecursion (λ e. IfSome (mail_of e) P) m.entries
    → AllByRecursion P (mails m)
mails_each P m a =
    let read = filter_map mail_of m.entries in
    recursion_from_All P (sorted_by mail_cmp read) (All-sorted_by mail_cmp P read (All-from_recursion P read (read_all P m.entries a)))

pub present_each : (P : Mail → Type 0) (m : Mailbox) → AllByRecursion (λ e. IfSome (mail_of e) P) m.entries
    → AllByRecursion P (present m)
present_each P m a = All-firsts P same_id (mails m) (mails_each P m a)

-- ---- each mail is that of the entry with its uid

pub mails_own : (m : Mailbox) → RiseBelow 1 m.entries m.next_uid
    → AllByRecursion (λ t. mail_at m t.placed.uid ≡ Some t) (mails m)
mails_own m u = mails_each (λ t. mail_at m t.placed.uid ≡ Some t) m (own m.entries (each_found 1 m.next_uid m.entries u))
  where
    own : (entries : List Entry) → AllByRecursion (λ e. entry_at m e.uid ≡ Some e) entries
        → AllByRecursion (λ e. IfSome (mail_of e) (λ t. mail_at m t.placed.uid ≡ Some t)) entries
    own [] a = tt
    own (e ∷ es) a = (by e.read refl, own es a.1)
      where
        by : (read : Result Card Fault) → e.read ≡ read → IfSome (mail_by e read) (λ t. mail_at m t.placed.uid ≡ Some t)
        by (Ok card) k = ap (λ o. o >>= mail_of) a.0 ∙ ap (mail_by e) k
        by (Err fault) k = tt

pub present_own : (m : Mailbox) → RiseBelow 1 m.entries m.next_uid
    → AllByRecursion (λ t. mail_at m t.placed.uid ≡ Some t) (present m)
present_own m u = All-firsts (λ t. mail_at m t.placed.uid ≡ Some t) same_id (mails m) (mails_own m u)

-- ---- and has it alone

once_firsts : (zs : List Mail) → IsDistinct same_uid zs → IsDistinct same_uid (firsts same_id zs)
unfolding IsDistinct
once_firsts [] d = tt
once_firsts (z ∷ zs) d =
    let other : Mail → Bool = λ y. not (same_id z y) in
    (All-filter (λ y. same_uid z y ≡ false) other (firsts same_id zs) (All-firsts (λ y. same_uid z y ≡ false) same_id zs d.0), IsDistinct-filter same_uid other (firsts same_id zs) (once_firsts zs d.1))

pub present_uids : (m : Mailbox) → RiseBelow 1 m.entries m.next_uid → IsDistinct same_uid (present m)
present_uids m u = once_firsts (mails m) (line_of m u).once

-- ---- a uid never names a second card

find-push : {X : Type 0} (p : X → Bool) (xs : List X) (y : X) → p y ≡ false → find p (xs ++ y ∷ []) ≡ find p xs
find-push p xs y h = find-append p xs (y ∷ []) ∙ ap (option_or (find p xs)) (rw h refl) ∙ or_none (find p xs)

abbrev card_in : Entry → Option Card
card_in entry = result_ok entry.read

pub card-marked : (uid marked now : ℕ) (entries : List Entry)
    → option_and_then card_in (find (has_uid uid) (map (mark_entry marked now) entries)) ≡ option_and_then card_in (find (has_uid uid) entries)
card-marked uid marked now [] = refl
card-marked uid marked now (e ∷ es) = by (has_uid marked e) (card-marked uid marked now es)
  where
    made : Bool → Entry
    made b = if b then record e { seen = marked_at now e.seen } else e

    -- what is found of the first entry, or of the others
    found : Bool → Entry → List Entry → Option Card
    found b first rest = option_and_then card_in (cond b (Some first) (find (has_uid uid) rest))

    same : (b : Bool) → found false e (map (mark_entry marked now) es) ≡ found false e es
        → found b (made true) (map (mark_entry marked now) es) ≡ found b e es
    same true h = refl
    same false h = h

    alike : (b : Bool) → found false e (map (mark_entry marked now) es) ≡ found false e es
        → found b e (map (mark_entry marked now) es) ≡ found b e es
    alike true h = refl
    alike false h = h

    by : (b : Bool) → found false e (map (mark_entry marked now) es) ≡ found false e es
        → found (has_uid uid (made b)) (made b) (map (mark_entry marked now) es) ≡ found (has_uid uid e) e es
    by true h = same (has_uid uid e) h
    by false h = alike (has_uid uid e) h

-- the uid was given, and names this card or none
record NamesOnly (uid : ℕ) (card : Card) (m : Mailbox) : Type 0 where
  pub given : uid < m.next_uid
  pub only : IfSome (card_at m uid) (λ other. other ≡ card)

module _ (uid : ℕ) (card : Card) where
  arrived_only : (m : Mailbox) (read : Result Card Fault) → NamesOnly uid card m
      → NamesOnly uid card (record m { next_uid = m.next_uid + 1; entries = m.entries ++ new_entry m read ∷ [] })
  arrived_only m read n =
      record {
        given = omega (arith, n.given);
        only = subst (λ o. IfSome (o >>= card_in) (λ other. other ≡ card)) (sym (find-push (has_uid uid) m.entries (new_entry m read) (ne_eqb m.next_uid uid (λ k. omega (arith, k, n.given))))) n.only;
      }

  expunged_only : (m : Mailbox) (gone : ℕ) → NamesOnly uid card m → NamesOnly uid card (after m (Expunge gone))
  expunged_only m gone n = record {
    given = n.given;
    only = elim (cases_eq uid gone) [
      | inl is ↦ subst (λ o. IfSome (o >>= card_in) (λ other. other ≡ card)) (sym (none_found (has_uid uid) (filter (λ e. not (has_uid gone e)) m.entries) (subst (λ u. None_of (has_uid u) (filter (λ e. not (has_uid gone e)) m.entries)) (sym is) (filter_none (has_uid gone) m.entries)))) tt
      | inr other ↦ subst (λ o. IfSome (o >>= card_in) (λ other. other ≡ card)) (sym (find-filter (has_uid uid) (λ e. not (has_uid gone e)) (λ e h. ap not (ne_eqb e.uid gone (λ k. other (sym (eqb-true e.uid uid h) ∙ k)))) m.entries)) n.only
    ];
  }

  change_only : (m : Mailbox) (change : Change) → NamesOnly uid card m → NamesOnly uid card (after m change)
  change_only m (Arrive new) n = arrived_only m (Ok new) n
  change_only m (ArriveFault fault) n = arrived_only m (Err fault) n
  change_only m (Expunge gone) n = expunged_only m gone n
  change_only m (Seen marked) n =
      record { given = n.given; only = subst (λ o. IfSome o (λ other. other ≡ card)) (sym (card-marked uid marked m.now m.entries)) n.only }
  change_only m (At moment) n = record { given = n.given; only = n.only }

  changes_only : (m : Mailbox) (changes : List Change) → NamesOnly uid card m → NamesOnly uid card (after_all m changes)
  changes_only m [] n = n
  changes_only m (change ∷ changes) n = changes_only (after m change) changes (change_only m change n)

pub one_card : (m : Mailbox) (changes : List Change) (uid : ℕ) (a b : Card) → RiseBelow 1 m.entries m.next_uid
    → card_at m uid ≡ Some a → card_at (after_all m changes) uid ≡ Some b → b ≡ a
one_card m changes uid a b u before later =
    subst (λ o. IfSome o (λ other. other ≡ a)) later (changes_only uid a m changes named).only
  where
    named : NamesOnly uid a m
    named = record { given = by (entry_at m uid) refl; only = subst (λ o. IfSome o (λ other. other ≡ a)) (sym before) refl }
      where
        by : (o : Option Entry) → entry_at m uid ≡ o → uid < m.next_uid
        by (Some e) k =
            let low : e.uid < m.next_uid = found_all (λ e. e.uid < m.next_uid) (has_uid uid) m.entries e (below 1 m.next_uid m.entries u).1 k in
            omega (arith, eqb-true e.uid uid (found_passes (has_uid uid) m.entries e k))
        by None k = let none : Some a ≡ None = sym before ∙ ap (λ o. o >>= card_in) k in absurd cc
