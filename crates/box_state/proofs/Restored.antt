-- A mailbox made again of its values, item by item.
use Rattle.std.proofs.Common.{◌≡◌, refl, sym, ap, ◌∙◌, subst, ℕ, zero, suc, ◌+◌, ◌≤◌, ◌<◌, true, Option, Some, List, [], ◌∷◌, ◌++◌, length, take, drop, get_or, length-append, append_assoc, arith}
use Rattle.std.specs.List.{AllByRecursion}
use Rattle.std.proofs.lemmas.List.Elements.{filter_map-append}
use Rattle.std.proofs.lemmas.List.Sums.{sum_by-append}
use Rattle.card_type.specs.declared.card.Card.{Card}
use Rattle.mailbox_model.specs.declared.item.Held.TheVariants as is_held
use Rattle.mailbox_model.specs.declared.item.Item.{Item}
use Rattle.mailbox_model.specs.Lists.{Bytes}
use Rattle.mailbox_model.specs.Mailbox.{Mailbox, Entry, entry_of, weight_read, IsEntry, IsMailbox, RiseBelow}
use Rattle.box_state.specs.Kept.{with_entry, is_beside, AreBeside, entries_of, mailbox_of}
use Rattle.box_state.specs.Entries.{with_item}

-- ---- one item

pub with_made : (m : Mailbox) (item : Item) (card : Option Card) (e : Entry) → Some e ≡ entry_of item card → with_item m item card ≡ with_entry m e
with_made m item card e is =
    let one : entries_of ((item, card) ∷ []) ≡ e ∷ [] = rw (sym is) refl in
    ap (λ es. record m { entries = m.entries ++ es }) one

-- ---- some of the items

-- the first entries of a mailbox keep the rules as well
rise_front : (low next : ℕ) (xs ys : List Entry) → RiseBelow low (xs ++ ys) next → RiseBelow low xs next
rise_front low next [] [] r = r
rise_front low next [] (y ∷ ys) r = (let rest = rise_front (y.uid + 1) next [] ys r.1 in let first : low ≤ y.uid = r.0 in let k : y.uid + 1 ≤ next = rest in omega arith)
rise_front low next (x ∷ xs) ys r = (r.0, rise_front (x.uid + 1) next xs ys r.1)

front_all : (P : Entry → Type 0) (xs ys : List Entry) → AllByRecursion P (xs ++ ys) → AllByRecursion P xs
front_all P [] ys a = tt
front_all P (x ∷ xs) ys a = (a.0, front_all P xs ys a.1)

pub front_keeps : (m : Mailbox) (xs ys : List Entry) → IsMailbox (record m { entries = xs ++ ys }) → IsMailbox (record m { entries = xs })
front_keeps m xs ys k = record {
  moment = k.moment;
  uids = rise_front 1 m.next_uid xs ys k.uids;
  next = k.next;
  each = front_all (IsEntry m.now) xs ys k.each;
  count_fits = omega (arith, k.count_fits, length-append xs ys);
  weight_fits = omega (arith, k.weight_fits, sum_by-append (λ e. weight_read e.read) xs ys);
}

-- the entries of some items, and of one more
pub entries_more : (items : List (Item × Option Card)) (item : Item) (card : Option Card)
    → entries_of (items ++ (item, card) ∷ []) ≡ entries_of items ++ entries_of ((item, card) ∷ [])
entries_more items item card = filter_map-append (λ p. entry_of p.0 p.1) items ((item, card) ∷ [])

-- ---- the items one after the other

split_at : {X : Type 0} (all : List X) (n : ℕ) (x : X) → n < length all → x ≡ get_or all n x → all ≡ take n all ++ x ∷ drop (suc n) all
split_at [] n x h e = absurd (omega (arith, h))
split_at (y ∷ ys) zero x h e = ap (λ z. z ∷ ys) (sym e)
split_at (y ∷ ys) (suc n) x h e = ap (λ zs. y ∷ zs) (split_at ys n x (omega (arith, h)) e)

of_one : {X : Type 0} (P : X → Type 0) (xs : List X) (x : X) (ys : List X) → AllByRecursion P (xs ++ x ∷ ys) → P x
of_one P [] x ys a = a.0
of_one P (z ∷ zs) x ys a = of_one P zs x ys a.1

pub record Goes (m : Mailbox) (item : Item) (card : Option Card) : Type 0 where
  pub beside : is_beside item.held card ≡ true
  pub rules : IsMailbox (with_item m item card)

-- the next item can be put back
pub next_goes : (me : Bytes) (moment next_uid : ℕ) (all taken : List (Item × Option Card)) (item : Item) (card : Option Card)
    → taken ≡ take (length taken) all → length taken < length all → (item, card) ≡ get_or all (length taken) (item, card)
    → AreBeside all → IsMailbox (mailbox_of me moment next_uid all) → Goes (mailbox_of me moment next_uid taken) item card
next_goes me moment next_uid all taken item card so_far below here beside rules =
    let rest = drop (suc (length taken)) all in
    let whole : all ≡ taken ++ (item, card) ∷ rest = split_at all (length taken) (item, card) below here ∙ ap (λ ts. ts ++ (item, card) ∷ rest) (sym so_far) in
    let parts : entries_of all ≡ (entries_of taken ++ entries_of ((item, card) ∷ [])) ++ entries_of rest =
    ap entries_of (whole ∙ sym (append_assoc taken ((item, card) ∷ []) rest)) ∙ filter_map-append (λ p. entry_of p.0 p.1) (taken ++ (item, card) ∷ []) rest ∙ ap (λ es. es ++ entries_of rest) (entries_more taken item card) in
    record {
      beside = of_one (λ p. is_beside p.0.held p.1 ≡ true) taken (item, card) rest (subst AreBeside whole beside);
      rules = front_keeps (mailbox_of me moment next_uid taken) (entries_of taken ++ entries_of ((item, card) ∷ [])) (entries_of rest) (subst (λ es. IsMailbox (record { me = me; now = moment; next_uid = next_uid; entries = es })) parts rules);
    }
