-- What a list in order has of each, when one takes its place there.
use Rattle.std.proofs.Common.{◌≡◌, refl, sym, ap, ◌∙◌, ℕ, Bool, true, false, not, Option, Some, List, [], ◌∷◌, arith}
use Rattle.std.specs.Prelude.{◌==◌, ◌&&◌, if◌then◌else◌, find, filter, is_some}
use Rattle.std.specs.Option.{option_map}
use Rattle.std.specs.Ordering.{is_lt}
use Rattle.std.specs.declared.cmp.Ordering.{Ordering}
use Rattle.std.proofs.lemmas.Bool.{both_ways, eqb-true}
use Rattle.lists.specs.Sorted.{insert_by}
use Rattle.lists.proofs.Inserts.{None_of, find-filter, find-insert_by}
use Rattle.card_type.specs.declared.key.ChatKey.{ChatKey}
use Rattle.card_type.specs.Keys.{key_eq}
use Rattle.mailbox_model.specs.ChatList.{Dated, dated_cmp}
use Rattle.mailbox_model.proofs.ListLaws.{key_same, key_turn}
use Rattle.chatlist.specs.Places.{with_place}
use Rattle.timers.specs.Deadlines.{deadline_cmp, with_deadline}
use Rattle.indexes.specs.Kept.{date_at, deadline_at}

find-passed : {X : Type 0} (cmp : X → X → Ordering) (p : X → Bool) (x : X) (ys : List X) → p x ≡ false
    → find p (insert_by cmp x ys) ≡ find p ys
find-passed cmp p x [] h = rw h refl
find-passed cmp p x (y ∷ ys) h =
    elim (is_lt (cmp x y)) as (λ b. find p (if b then x ∷ y ∷ ys else y ∷ insert_by cmp x ys) ≡ find p (y ∷ ys)) [
      | true ↦ rw h refl
      | false ↦ ap (λ o. if p y then Some y else o) (find-passed cmp p x ys h)
    ]

-- x takes the place of those that pass q, and these are the ones that p seeks where it seeks x
module _ {X : Type 0} (cmp : X → X → Ordering) (p q : X → Bool) (x : X) (alike : (y : X) → p y ≡ true → q y ≡ p x) where
  abbrev others : List X → List X
  others xs = filter (λ y. not (q y)) xs

  not_sought : p x ≡ true → (y : X) → q y ≡ false → p y ≡ false
  not_sought h y e =
      elim (p y) as (λ b. p y ≡ b → b ≡ false) [
        | true ↦ λ k. absurd (both_ways (q y) e (alike y k ∙ h))
        | false ↦ λ k. refl
      ] refl

  none_left : p x ≡ true → (xs : List X) → None_of p (others xs)
  none_left h [] = tt
  none_left h (y ∷ ys) =
      elim (q y) as (λ b. q y ≡ b → None_of p (if not b then y ∷ others ys else others ys)) [
        | true ↦ λ e. none_left h ys
        | false ↦ λ e. (not_sought h y e, none_left h ys)
      ] refl

  pub found_in_place : {Y : Type 0} (f : X → Y) (xs : List X)
      → option_map f (find p (insert_by cmp x (others xs))) ≡ (if p x then Some (f x) else option_map f (find p xs))
  found_in_place f xs =
      elim (p x) as (λ b. p x ≡ b → option_map f (find p (insert_by cmp x (others xs))) ≡ (if b then Some (f x) else option_map f (find p xs))) [
        | true ↦ λ h. ap (option_map f) (find-insert_by cmp p x (others xs) h (none_left h xs))
        | false ↦ λ h. ap (option_map f) (find-passed cmp p x (others xs) h ∙ find-filter p (λ y. not (q y)) (λ y k. ap not (alike y k ∙ h)) xs)
      ] refl

pub date_with : (key : ChatKey) (date : Option ℕ) (order : List Dated) (other : ChatKey)
    → date_at (with_place key date order) other ≡ (if key_eq other key then Some date else date_at order other)
date_with key date order other =
    found_in_place dated_cmp (λ d. key_eq other d.0) (λ d. key_eq key d.0) (key, date)
    (λ d h. ap (key_eq key) (sym (key_same other d.0 h)) ∙ key_turn key other) (λ d. d.1) order

pub deadline_with : (expiry uid : ℕ) (deadlines : List (ℕ × ℕ)) (other : ℕ)
    → deadline_at (with_deadline expiry uid deadlines) other ≡ (if uid == other then Some expiry else deadline_at deadlines other)
deadline_with expiry uid deadlines other =
    found_in_place deadline_cmp (λ d. d.1 == other) (λ d. d.1 == uid) (expiry, uid)
    (λ d h. ap (λ n. n == uid) (eqb-true d.1 other h) ∙ turned other uid) (λ d. d.0) deadlines
  where
    turned : (a b : ℕ) → (a == b) ≡ (b == a)
    turned a b = grind (arith)

-- it is that of a mail that has one
pub of_some : (own : Bool) (deadline before : Option ℕ) (at : ℕ) → deadline ≡ Some at
    → (if own then Some at else before) ≡ (if own && is_some deadline then deadline else before)
of_some true deadline before at k = rw k refl
of_some false deadline before at k = refl
