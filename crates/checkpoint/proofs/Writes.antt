-- The body of a slot: three writes behind the gate.
use Rattle.std.proofs.Common.{◌≡◌, Option, ℕ, ◌+◌, ◌≤◌, List, ◌++◌, length, refl, ◌∙◌, arith, length-append}
use Rattle.outside.specs.declared.shelf.Place.{Place}
use Rattle.outside.specs.declared.shelf.Place.TheVariants.{A, B, T}
use Rattle.outside.specs.Places.{Places, Changes, content}
use Rattle.outside.specs.Crash.{Holds, Torn, Follows}
use Rattle.outside.specs.Moments.{Reached, WhereKnown, KnownThen}
use Rattle.checkpoint.specs.Parts.{SameGate}
use Rattle.checkpoint.proofs.Lists.{torn_front, holds_then, length-holds}

-- changes of one place, one after another
pub changes_then : (place : Place) (P Q R : List ℕ → List ℕ → Type 0) → ((a b c : List ℕ) → P a b → Q b c → R a c) → (x y z : Places) → Changes place P x y → Changes place Q y z → Changes place R x z
changes_then A P Q R f x y z p q = (f x.a y.a z.a p.0 q.0, q.1 ∙ p.1, q.2 ∙ p.2)
changes_then B P Q R f x y z p q = (q.0 ∙ p.0, f x.b y.b z.b p.1 q.1, q.2 ∙ p.2)
changes_then T P Q R f x y z p q = (q.0 ∙ p.0, q.1 ∙ p.1, f x.t y.t z.t p.2 q.2)

-- what the change says of the place itself
pub change_at : (place : Place) (P : List ℕ → List ℕ → Type 0) (x y : Places) → Changes place P x y → P (content x place) (content y place)
change_at A P x y p = p.0
change_at B P x y p = p.1
change_at T P x y p = p.2

pub same_gate : (place : Place) (c : Places) → Changes place SameGate c c
same_gate A c = (refl, refl, refl)
same_gate B c = (refl, refl, refl)
same_gate T c = (refl, refl, refl)

-- one more write behind the gate
pub gate_kept : (place : Place) (at n : ℕ) (first old new : Places → Type 0) → 1 ≤ at → ((c : Places) → old c → Reached first (Changes place SameGate) c) → Follows (Changes place (Torn at n)) old new
    → (c : Places) → new c → Reached first (Changes place SameGate) c
gate_kept place at n first old new le so_far follows c left =
    let from = follows c left in
    let start = so_far from.0 from.1 in
    (start.0, start.1, changes_then place SameGate (Torn at n) SameGate (λ x y z p q. torn_front 1 at n y z le q ∙ p) start.0 from.0 c start.2 from.2)

module _ (place : Place) (xs ys image : List ℕ) (xs_len : length xs ≡ 8) (ys_len : length ys ≡ 8) where
  abbrev Sized : ℕ → List ℕ → List ℕ → List ℕ → Type 0
  Sized at bytes a b = (1 ≤ length a) × Holds at bytes a b

  with_size : (where_ : Place) (v w : Places) → Changes where_ (Holds 1 xs) v w → 1 ≤ length (content v where_) → Changes where_ (Sized 1 xs) v w
  with_size A v w s size = ((size, s.0), s.1, s.2)
  with_size B v w s size = (s.0, (size, s.1), s.2)
  with_size T v w s size = (s.0, s.1, (size, s.2))

  -- three writes, one behind another
  body_is : (x y z u : Places) → 1 ≤ length (content x place) → Changes place (Holds 1 xs) x y → Changes place (Holds 9 ys) y z → Changes place (Holds 17 image) z u → Changes place (Holds 1 (xs ++ ys ++ image)) x u
  body_is x y z u le p q r =
      let both_len : length (xs ++ ys) ≡ 16 = omega (arith, length-append xs ys) in
      let both = changes_then place (Sized 1 xs) (Holds 9 ys) (Sized 1 (xs ++ ys)) (λ a b c h k. (h.0, holds_then 1 xs ys a b c 9 h.0 (omega arith) h.1 k)) x y z (with_size place x y p le) q in
      changes_then place (Sized 1 (xs ++ ys)) (Holds 17 image) (Holds 1 (xs ++ ys ++ image)) (λ a b c h k. holds_then 1 (xs ++ ys) image a b c 17 h.0 (omega arith) h.1 k) x z u both r

  pub sizes : (at : ℕ) (bytes : List ℕ) (x y : Places) → at ≤ length (content x place) → Changes place (Holds at bytes) x y → at + length bytes ≤ length (content y place)
  sizes at bytes x y le step = length-holds at bytes (content x place) (content y place) le (change_at place (Holds at bytes) x y step)

  pub known_all : (o m1 m2 m3 : Option Places) → WhereKnown o (λ s. 1 ≤ length (content s place))
      → KnownThen o m1 (Changes place (Holds 1 xs)) → KnownThen m1 m2 (Changes place (Holds 9 ys)) → KnownThen m2 m3 (Changes place (Holds 17 image)) → KnownThen o m3 (Changes place (Holds 1 (xs ++ ys ++ image)))
  known_all o m1 m2 m3 size p q r =
      record {
        forth = λ s is. let a = p.forth s is in let b = q.forth a.places a.is in let c = r.forth b.places b.is in record { places = c.places; is = c.is; holds = body_is s a.places b.places c.places (size s is) a.holds b.holds c.holds };
        back = λ n is. let c = r.back n is in let b = q.back c.places c.is in let a = p.back b.places b.is in record { places = a.places; is = a.is; holds = body_is a.places b.places c.places n (size a.places a.is) a.holds b.holds c.holds };
      }
