-- Mails that are put under the ids of a list one after the other, or taken out.
use Rattle.std.proofs.Common.{◌≡◌, refl, sym, ap, ◌∙◌, subst, ℕ, zero, suc, ◌+◌, ◌<◌, ◌≤◌, Bool, true, false, ◌||◌, List, [], ◌∷◌, ◌++◌, length, map, take, drop, get_or, arith}
use Rattle.std.specs.Prelude.{if◌then◌else◌}
use Rattle.std.specs.List.{list_any, insert, remove}
use Rattle.std.specs.Cmp.Lexicographic.{bytes_decides}
use Rattle.std.specs.Str.{bytes_eq}
use Rattle.std.proofs.Math.Seq.{take-suc}
use Rattle.std.proofs.lemmas.Cmp.{eq_by_cmp_equiv, nat_list_eq_equiv}
use Rattle.std.proofs.lemmas.List.{map-append}
use Rattle.std.proofs.lemmas.List.Folds.{list_any-append}
use Rattle.lists.specs.Sorted.{insert_by}
use Rattle.lists.proofs.Inserts.{list_any-insert_by, none_filtered, filter_none}
use Rattle.card_type.specs.declared.spot.Spot.{Spot}
use Rattle.card_type.specs.Effects.{is_among}
use Rattle.card_type.specs.Spots.{spot_cmp}
use Rattle.card_type.proofs.Orders.{spots_total}
use Rattle.mailbox_model.specs.Lists.{Bytes}
use Rattle.effects.specs.Named.{named, same_spot, put_once, without_spot}

-- ---- a map over a list into which a value is put, or out of which one is taken

module _ {X Y : Type 0} (f : X → Y) where
  map_take : (i : ℕ) (xs : List X) → map f (take i xs) ≡ take i (map f xs)
  map_take zero xs = refl
  map_take (suc i) [] = refl
  map_take (suc i) (x ∷ xs) = ap (λ ys. f x ∷ ys) (map_take i xs)

  map_drop : (i : ℕ) (xs : List X) → map f (drop i xs) ≡ drop i (map f xs)
  map_drop zero xs = refl
  map_drop (suc i) [] = refl
  map_drop (suc i) (x ∷ xs) = map_drop i xs

  pub map_insert : (xs : List X) (i : ℕ) (x : X) → map f (insert xs i x) ≡ insert (map f xs) i (f x)
  map_insert xs i x = map-append f (take i xs) (x ∷ drop i xs) ∙ (λ j. map_take i xs j ++ f x ∷ map_drop i xs j)

  pub map_remove : (xs : List X) (i : ℕ) → map f (remove xs i) ≡ remove (map f xs) i
  map_remove xs i = map-append f (take i xs) (drop (suc i) xs) ∙ (λ j. map_take i xs j ++ map_drop (suc i) xs j)

-- ---- twice is once

pub put_twice : (spot : Spot) (spots : List Spot) → put_once spot (put_once spot spots) ≡ put_once spot spots
put_twice spot spots =
    elim (list_any (same_spot spot) spots) as (λ b. list_any (same_spot spot) spots ≡ b → put_once spot (if b then spots else insert_by spot_cmp spot spots) ≡ (if b then spots else insert_by spot_cmp spot spots)) [
      | true ↦ λ e. rw e refl
      | false ↦ λ e. rw (list_any-insert_by spot_cmp (same_spot spot) spot spots, (eq_by_cmp_equiv spots_total).refl spot) refl
    ] refl

pub taken_twice : (spot : Spot) (spots : List Spot) → without_spot spot (without_spot spot spots) ≡ without_spot spot spots
taken_twice spot spots = none_filtered (same_spot spot) (without_spot spot spots) (filter_none (same_spot spot) spots)

-- ---- one id more

among_more : (xs : List Bytes) (i : ℕ) (x : Bytes) → i < length xs → x ≡ get_or xs i x → (q : Bytes)
    → is_among (take (i + 1) xs) q ≡ (is_among (take i xs) q || bytes_eq q x)
among_more xs i x lt is q =
    let next : i + 1 ≡ suc i = omega arith in
    ap (λ n. is_among (take n xs) q) next ∙ ap (λ ys. is_among ys q) (take-suc xs i x lt) ∙ list_any-append (bytes_eq q) (take i xs) (get_or xs i x ∷ [])
    ∙ ap (λ y. is_among (take i xs) q || (bytes_eq q y || false)) (sym is) ∙ ap (λ b. is_among (take i xs) q || b) (or_none (bytes_eq q x))
  where
    or_none : (b : Bool) → (b || false) ≡ b
    or_none true = refl
    or_none false = refl

-- what is done to the spots of an id, where it is one of these
abbrev pub done : (List Spot → List Spot) → List Bytes → Bytes → List Spot → List Spot
done f ids q spots = if is_among ids q then f spots else spots

-- where it is the same twice as once
module _ (f : List Spot → List Spot) (twice : (spots : List Spot) → f (f spots) ≡ f spots) where
  pub done_more : (old mid new : List (Bytes × List Spot)) (xs : List Bytes) (i : ℕ) (x : Bytes) → i < length xs → x ≡ get_or xs i x
      → ((q : Bytes) → named mid q ≡ done f (take i xs) q (named old q))
      → named new x ≡ f (named mid x) → ((q : Bytes) → bytes_eq x q ≡ false → named new q ≡ named mid q)
      → (q : Bytes) → named new q ≡ done f (take (i + 1) xs) q (named old q)
  done_more old mid new xs i x lt is before at others q =
      elim (bytes_eq x q) as (λ b. bytes_eq x q ≡ b → named new q ≡ done f (take (i + 1) xs) q (named old q)) [
        | true ↦ λ e.
            let same : x ≡ q = (bytes_decides x q).0 e in
            subst (λ y. named new y ≡ done f (take (i + 1) xs) y (named old y)) same (here (is_among (take i xs) x) refl)
        | false ↦ λ e.
            let more : is_among (take (i + 1) xs) q ≡ is_among (take i xs) q =
            among_more xs i x lt is q ∙ ap (λ b. is_among (take i xs) q || b) (nat_list_eq_equiv.symm q x ∙ e) ∙ or_false (is_among (take i xs) q) in
            others q e ∙ before q ∙ ap (λ b. if b then f (named old q) else named old q) (sym more)
      ] refl
    where
      or_false : (b : Bool) → (b || false) ≡ b
      or_false true = refl
      or_false false = refl

      or_true : (b : Bool) → (b || true) ≡ true
      or_true true = refl
      or_true false = refl

      once : (b : Bool) → f (if b then f (named old x) else named old x) ≡ f (named old x)
      once true = twice (named old x)
      once false = refl

      here : (b : Bool) → is_among (take i xs) x ≡ b → named new x ≡ done f (take (i + 1) xs) x (named old x)
      here b e =
          let more : is_among (take (i + 1) xs) x ≡ true =
          among_more xs i x lt is x ∙ ap (λ c. is_among (take i xs) x || c) ((bytes_decides x x).1 refl) ∙ or_true (is_among (take i xs) x) in
          at ∙ ap f (before x ∙ ap (λ c. if c then f (named old x) else named old x) e)
          ∙ once b ∙ ap (λ c. if c then f (named old x) else named old x) (sym more)

-- ---- all ids

pub take_whole : {X : Type 0} (xs : List X) (i : ℕ) → length xs ≤ i → take i xs ≡ xs
take_whole [] zero h = refl
take_whole [] (suc i) h = refl
take_whole (x ∷ xs) zero h = absurd (omega (arith, h))
take_whole (x ∷ xs) (suc i) h = ap (λ ys. x ∷ ys) (take_whole xs i (omega (arith, h)))

-- ---- a spot that is not there

pub put_new : (spot : Spot) (spots : List Spot) → list_any (same_spot spot) spots ≡ false → put_once spot spots ≡ insert_by spot_cmp spot spots
put_new spot spots absent = rw absent refl
