-- Which slot is chosen.
use Rattle.std.proofs.Common.{◌≡◌, ◌⊎◌, inl, inr, ℕ, ◌<◌, List, Bool, true, false, Option, None, Some, cond, refl, ◌∙◌, ap, arith, nat_lt}
use Rattle.std.proofs.lemmas.Bool.Decides.{nat_tests}
use Rattle.outside.specs.declared.shelf.Place.{Place}
use Rattle.outside.specs.declared.shelf.Place.TheVariants.{A, B, T}
use Rattle.outside.specs.Places.{Places, Changes, content}
use Rattle.checkpoint.specs.Slots.{Slot, slot_of, chosen, chosen_of, other_place, next_place}
use Rattle.checkpoint.specs.Saves.{IsAbove}

abbrev pub either : Bool → Slot → Slot → Option (Place × Slot)
either b s u = cond b (Some (B, u)) (Some (A, s))

either_a : (b : Bool) (s u : Slot) → next_place (either b s u) ≡ A → Some (B, u) ≡ either b s u
either_a true s u t = refl
either_a false s u t = absurd (cc)

either_b : (b : Bool) (s u : Slot) → next_place (either b s u) ≡ B → Some (A, s) ≡ either b s u
either_b true s u t = absurd (cc)
either_b false s u t = refl

none_a : (x y : Option Slot) → next_place (chosen x y) ≡ A → chosen None y ≡ chosen x y
none_a None y t = refl
none_a (Some s) None t = absurd (cc)
none_a (Some s) (Some u) t = either_a (nat_lt s.number u.number) s u t

none_b : (x y : Option Slot) → next_place (chosen x y) ≡ B → chosen x None ≡ chosen x y
none_b x None t = refl
none_b None (Some u) t = absurd (cc)
none_b (Some s) (Some u) t = either_b (nat_lt s.number u.number) s u t

above_a : (b : Bool) (n : ℕ) (s u : Slot) → next_place (either b s u) ≡ A → IsAbove n (either b s u) → u.number < n
above_a true n s u t a = a
above_a false n s u t a = absurd (cc)

above_b : (b : Bool) (n : ℕ) (s u : Slot) → next_place (either b s u) ≡ B → IsAbove n (either b s u) → s.number < n
above_b true n s u t a = absurd (cc)
above_b false n s u t a = a

not_less : (m n : ℕ) → m < n → nat_lt n m ≡ false
not_less m n lt = grind (arith, nat_tests)

less : (m n : ℕ) → m < n → nat_lt m n ≡ true
less m n lt = grind (arith, nat_tests)

wins_a : (n u : Slot) → u.number < n.number → chosen (Some n) (Some u) ≡ Some (A, n)
wins_a n u lt = ap (λ (b : Bool). either b n u) (not_less u.number n.number lt)

wins_b : (s n : Slot) → s.number < n.number → chosen (Some s) (Some n) ≡ Some (B, n)
wins_b s n lt = ap (λ (b : Bool). either b s n) (less s.number n.number lt)

new_a : (x y : Option Slot) (n : Slot) → next_place (chosen x y) ≡ A → IsAbove n.number (chosen x y) → chosen (Some n) y ≡ Some (A, n)
new_a x None n t a = refl
new_a None (Some u) n t a = wins_a n u a
new_a (Some s) (Some u) n t a = wins_a n u (above_a (nat_lt s.number u.number) n.number s u t a)

new_b : (x y : Option Slot) (n : Slot) → next_place (chosen x y) ≡ B → IsAbove n.number (chosen x y) → chosen x (Some n) ≡ Some (B, n)
new_b None y n t a = refl
new_b (Some s) None n t a = wins_b s n a
new_b (Some s) (Some u) n t a = wins_b s n (above_b (nat_lt s.number u.number) n.number s u t a)

not_t : (p : Place) → other_place p ≡ T → ⊥
not_t A e = cc
not_t B e = cc
not_t T e = cc

pub target_not_t : (x : Option (Place × Slot)) → next_place x ≡ T → ⊥
target_not_t None e = cc
target_not_t (Some p) e = not_t p.0 e

-- a step of the place that isn't chosen, after which it holds no slot or the same one
pub same_at : (place : Place) (R : List ℕ → List ℕ → Type 0) (d c : Places) → next_place (chosen_of d) ≡ place → Changes place R d c
    → (slot_of (content c place) ≡ None) ⊎ (slot_of (content c place) ≡ slot_of (content d place)) → chosen_of c ≡ chosen_of d
same_at A R d c t s (inl e) = ap (λ (l : List ℕ). chosen (slot_of c.a) (slot_of l)) s.1 ∙ ap (λ (x : Option Slot). chosen x (slot_of d.b)) e ∙ none_a (slot_of d.a) (slot_of d.b) t
same_at A R d c t s (inr e) = ap (λ (l : List ℕ). chosen (slot_of c.a) (slot_of l)) s.1 ∙ ap (λ (x : Option Slot). chosen x (slot_of d.b)) e
same_at B R d c t s (inl e) = ap (λ (l : List ℕ). chosen (slot_of l) (slot_of c.b)) s.0 ∙ ap (λ (x : Option Slot). chosen (slot_of d.a) x) e ∙ none_b (slot_of d.a) (slot_of d.b) t
same_at B R d c t s (inr e) = ap (λ (l : List ℕ). chosen (slot_of l) (slot_of c.b)) s.0 ∙ ap (λ (x : Option Slot). chosen (slot_of d.a) x) e
same_at T R d c t s e = absurd (target_not_t (chosen_of d) t)

-- and one after which it holds a slot with a greater number
pub new_at : (place : Place) (R : List ℕ → List ℕ → Type 0) (n : Slot) (d c : Places) → next_place (chosen_of d) ≡ place → IsAbove n.number (chosen_of d) → Changes place R d c
    → slot_of (content c place) ≡ Some n → chosen_of c ≡ Some (place, n)
new_at A R n d c t a s e = ap (λ (l : List ℕ). chosen (slot_of c.a) (slot_of l)) s.1 ∙ ap (λ (x : Option Slot). chosen x (slot_of d.b)) e ∙ new_a (slot_of d.a) (slot_of d.b) n t a
new_at B R n d c t a s e = ap (λ (l : List ℕ). chosen (slot_of l) (slot_of c.b)) s.0 ∙ ap (λ (x : Option Slot). chosen (slot_of d.a) x) e ∙ new_b (slot_of d.a) (slot_of d.b) n t a
new_at T R n d c t a s e = absurd (target_not_t (chosen_of d) t)
