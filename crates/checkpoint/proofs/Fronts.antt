-- What the front of a place says.
use Rattle.std.proofs.Common.{◌≡◌, ◌≢◌, ◌⊎◌, inl, inr, ℕ, ◌+◌, ◌≤◌, ◌<◌, nat_le, nat_lt, ◌&&◌, List, [], ◌∷◌, length, take, drop, Bool, true, false, Option, None, Some, cond, eqb, min, refl, sym, ◌∙◌, ap, subst, arith, length-take, length-drop}
use Rattle.std.proofs.lemmas.List.{take_min, drop-take}
use Rattle.std.proofs.lemmas.Bool.{cases_eq, cases_Bool}
use Rattle.std.proofs.lemmas.Bool.Decides.{nat_tests}
use Rattle.std.specs.Int.{w64, from_be_bytes}
use Rattle.outside.specs.declared.shelf.Place.{Place}
use Rattle.outside.specs.declared.shelf.Place.TheVariants.{A, B}
use Rattle.outside.specs.Places.{Places}
use Rattle.checkpoint.specs.Slots.{Slot, slot_of, slot_after, chosen, chosen_of, is_closed}
use Rattle.checkpoint.specs.Parts.{IsFront, stated_in, with_image, IsStated, chosen_stated, HasChosen}
use Rattle.checkpoint.specs.declared.front.Stated.{Stated}
use Rattle.checkpoint.proofs.Lists.{take_take}

pub same_closed : (n : ℕ) (bytes : List ℕ) → n ≡ min 17 (length bytes) → is_closed (take n bytes) ≡ is_closed bytes
same_closed n [] is = let e : n ≡ 0 = omega (arith, is) in ap (λ (k : ℕ). is_closed (take k [])) e
same_closed n (g ∷ rest) is = ap (λ (k : ℕ). is_closed (take k (g ∷ rest))) is ∙ ap is_closed (take_min 17 (g ∷ rest))

abbrev len_after : List ℕ → ℕ
len_after rest = from_be_bytes w64 (take 8 (drop 8 rest))

abbrev stated_after : List ℕ → Stated
stated_after rest = record { number = from_be_bytes w64 (take 8 rest); length = len_after rest }

number_same : (g : ℕ) (rest : List ℕ) → take 8 (drop 1 (take 17 (g ∷ rest))) ≡ take 8 rest
number_same g rest = take_take 8 16 rest (omega arith)

len_same : (g : ℕ) (rest : List ℕ) → take 8 (drop 9 (take 17 (g ∷ rest))) ≡ take 8 (drop 8 rest)
len_same g rest = ap (take 8) (drop-take 8 8 rest) ∙ take_take 8 8 (drop 8 rest) (omega arith)

-- three tests and two, of which the slot hangs
all_true : {X : Type 0} (a b c : Bool) (x : Option X) → a ≡ true → b ≡ true → c ≡ true → cond (a && b && c) x None ≡ x
all_true true true true x p q r = refl
all_true true true false x p q r = absurd (cc)
all_true true false c x p q r = absurd (cc)
all_true false b c x p q r = absurd (cc)

both_true : {X : Type 0} (a b : Bool) (x : Option X) → a ≡ true → b ≡ true → cond (a && b) x None ≡ x
both_true true true x p q = refl
both_true true false x p q = absurd (cc)
both_true false b x p q = absurd (cc)

first_false : {X : Type 0} (a b : Bool) (x : Option X) → a ≡ false → cond (a && b) x None ≡ None
first_false true b x p = absurd (cc)
first_false false b x p = refl

second_false : {X : Type 0} (a b : Bool) (x : Option X) → b ≡ false → cond (a && b) x None ≡ None
second_false true true x p = absurd (cc)
second_false true false x p = refl
second_false false b x p = refl

third_false : {X : Type 0} (a b c : Bool) (x : Option X) → c ≡ false → cond (a && b && c) x None ≡ None
third_false true true true x p = absurd (cc)
third_false true true false x p = refl
third_false true false c x p = refl
third_false false b c x p = refl

middle_false : {X : Type 0} (a b c : Bool) (x : Option X) → b ≡ false → cond (a && b && c) x None ≡ None
middle_false true true c x p = absurd (cc)
middle_false true false c x p = refl
middle_false false b c x p = refl

at_most : (m n : ℕ) → m ≤ n → nat_le m n ≡ true
at_most m n le = grind (arith, nat_tests)

too_many : (m n : ℕ) → n < m → nat_le m n ≡ false
too_many m n lt = grind (arith, nat_tests)

is_1 : (g : ℕ) → g ≡ 1 → eqb g 1 ≡ true
is_1 g is = grind (arith, nat_tests)

not_1 : (g : ℕ) → g ≢ 1 → eqb g 1 ≡ false
not_1 g ne = grind (arith, nat_tests)

module _ (g : ℕ) (rest : List ℕ) where
  abbrev head : List ℕ
  head = take 17 (g ∷ rest)

  abbrev read_len : ℕ
  read_len = from_be_bytes w64 (take 8 (drop 9 head))

  read_is : read_len ≡ len_after rest
  read_is = ap (from_be_bytes w64) (len_same g rest)

  abbrev read_stated : Stated
  read_stated = record { number = from_be_bytes w64 (take 8 (drop 1 head)); length = read_len }

  stated_some : g ≡ 1 → 16 + len_after rest ≤ length rest → stated_in (length (g ∷ rest)) head ≡ Some (stated_after rest)
  stated_some is fits =
      all_true (nat_le 17 (length head)) (eqb g 1) (nat_le (17 + read_len) (length (g ∷ rest))) (Some read_stated) (at_most 17 (length head) (omega (arith, length-take 17 (g ∷ rest), fits))) (is_1 g is) (at_most (17 + read_len) (length (g ∷ rest)) (omega (arith, read_is, fits)))
      ∙ (λ i. Some (record { number = from_be_bytes w64 (number_same g rest i); length = read_is i }))

  stated_closed : g ≢ 1 → stated_in (length (g ∷ rest)) head ≡ None
  stated_closed ne = middle_false (nat_le 17 (length head)) (eqb g 1) (nat_le (17 + read_len) (length (g ∷ rest))) (Some read_stated) (not_1 g ne)

  stated_short : length rest < 16 + len_after rest → stated_in (length (g ∷ rest)) head ≡ None
  stated_short short = third_false (nat_le 17 (length head)) (eqb g 1) (nat_le (17 + read_len) (length (g ∷ rest))) (Some read_stated) (too_many (17 + read_len) (length (g ∷ rest)) (omega (arith, read_is, short)))

  abbrev the_slot : Slot
  the_slot = with_image (g ∷ rest) (stated_after rest)

  slot_some : g ≡ 1 → 16 + len_after rest ≤ length rest → slot_of (g ∷ rest) ≡ Some the_slot
  unfolding slot_after
  slot_some is fits =
      ap (λ (b : Bool). cond b (slot_after rest) None) (is_1 g is)
      ∙ both_true (nat_le 16 (length rest)) (nat_le (len_after rest) (length (drop 16 rest))) (Some the_slot) (at_most 16 (length rest) (omega (arith, fits))) (at_most (len_after rest) (length (drop 16 rest)) (omega (arith, length-drop 16 rest, fits)))

  slot_closed : g ≢ 1 → slot_of (g ∷ rest) ≡ None
  slot_closed ne = ap (λ (b : Bool). cond b (slot_after rest) None) (not_1 g ne)

  no_slot_after : length rest < 16 + len_after rest → slot_after rest ≡ None
  unfolding slot_after
  no_slot_after short = elim (cases_Bool (nat_le 16 (length rest))) [
    | inl long ↦ second_false (nat_le 16 (length rest)) (nat_le (len_after rest) (length (drop 16 rest))) (Some the_slot) (too_many (len_after rest) (length (drop 16 rest)) (let le : 16 ≤ length rest = grind (arith, nat_tests) in omega (arith, length-drop 16 rest, short, le)))
    | inr few ↦ first_false (nat_le 16 (length rest)) (nat_le (len_after rest) (length (drop 16 rest))) (Some the_slot) few
  ]

  slot_short : length rest < 16 + len_after rest → slot_of (g ∷ rest) ≡ None
  slot_short short = elim (cases_eq g 1) [ inl is ↦ ap (λ (b : Bool). cond b (slot_after rest) None) (is_1 g is) ∙ no_slot_after short | inr ne ↦ slot_closed ne ]

  fits_or_not : (16 + len_after rest ≤ length rest) ⊎ (length rest < 16 + len_after rest)
  fits_or_not = elim (cases_Bool (nat_le (16 + len_after rest) (length rest))) [
    | inl yes_ ↦ inl (grind (arith, nat_tests))
    | inr no_ ↦ inr (grind (arith, nat_tests))
  ]

  open_stated : g ≡ 1 → IsStated (g ∷ rest) (stated_in (length (g ∷ rest)) head)
  open_stated is = elim fits_or_not [
    | inl fits ↦ subst (IsStated (g ∷ rest)) (sym (stated_some is fits)) (slot_some is fits, omega (arith, fits))
    | inr short ↦ subst (IsStated (g ∷ rest)) (sym (stated_short short)) (slot_short short)
  ]

pub is_stated : (bytes : List ℕ) → IsStated bytes (stated_in (length bytes) (take 17 bytes))
is_stated [] = refl
is_stated (g ∷ rest) = elim (cases_eq g 1) [ inl is ↦ open_stated g rest is | inr ne ↦ subst (IsStated (g ∷ rest)) (sym (stated_closed g rest ne)) (slot_closed g rest ne) ]

-- what is looked at is the front of the place
pub front_is : (size n : ℕ) (buf bytes : List ℕ) (closed : Bool) (slot : Option Stated) → size ≡ length bytes → n ≡ min 17 (length bytes) → take n buf ≡ take n bytes → closed ≡ is_closed (take n buf) → slot ≡ stated_in size (take n buf)
    → IsFront (record { closed = closed; slot = slot }) bytes
front_is size n buf bytes closed slot size_is n_is same closed_is slot_is = record {
  closed = closed_is ∙ ap is_closed same ∙ same_closed n bytes n_is;
  slot = subst (IsStated bytes) (sym (slot_is ∙ (λ i. stated_in (size_is i) (same i)) ∙ (λ i. stated_in (length bytes) (take (n_is i) bytes)) ∙ ap (stated_in (length bytes)) (take_min 17 bytes))) (is_stated bytes);
}

-- ---- the chosen slot

chosen_pair : (places : Places) (b : Bool) (x y : Stated) (p : Option (Place × Slot)) → p ≡ cond b (Some (B, with_image places.b y)) (Some (A, with_image places.a x)) → chosen_of places ≡ p → 17 + x.length ≤ length places.a → 17 + y.length ≤ length places.b
    → HasChosen places (cond b (Some (B, y)) (Some (A, x)))
chosen_pair places true x y p is e le_a le_b = (e ∙ is, le_b)
chosen_pair places false x y p is e le_a le_b = (e ∙ is, le_a)

pub chosen_is : (places : Places) (a b : Option Stated) → IsStated places.a a → IsStated places.b b → HasChosen places (chosen_stated a b)
chosen_is places None None p q = (λ i. chosen (p i) (q i))
chosen_is places (Some x) None p q = ((λ i. chosen (p.0 i) (q i)), p.1)
chosen_is places None (Some y) p q = ((λ i. chosen (p i) (q.0 i)), q.1)
chosen_is places (Some x) (Some y) p q = chosen_pair places (nat_lt x.number y.number) x y (chosen_of places) (λ i. chosen (p.0 i) (q.0 i)) refl p.1 q.1
