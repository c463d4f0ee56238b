-- A change is read as it is spelled.
use Rattle.std.proofs.Common.{◌≡◌, ◌⊎◌, ℕ, suc, ◌+◌, ◌-◌, ◌^◌, ◌≤◌, Bool, true, false, cond, eqb, List, [], ◌∷◌, ◌++◌, length, drop, Option, Some, None, Result, Ok, Err, refl, sym, ap, subst, ◌∙◌, arith, inl, inr}
use Rattle.std.specs.Prelude.{⊤, nat_le}
use Rattle.std.specs.Int.{w32}
use Rattle.std.proofs.lemmas.Bool.{eqb-true}
use Rattle.std.proofs.lemmas.Bool.Decides.{nat_tests}
use Rattle.std.proofs.lemmas.List.{drop_at, drop-drop, length-append, length-drop}
use Rattle.kit.specs.Moments.{last_moment}
use Rattle.card_type.specs.Records as records
use Rattle.mailbox_model.specs.Mailbox.{IsValidChange}
use Rattle.mailbox_model.specs.declared.change.Fault.{Fault}
use Rattle.mailbox_model.specs.declared.change.Fault.TheVariants.{NoFields, NoFrom, CardTooLong, TooLong}
use Rattle.mailbox_model.specs.declared.change.Change.{Change}
use Rattle.mailbox_model.specs.declared.change.Change.TheVariants.{Arrive, ArriveFault, Expunge, Seen, At}
use Rattle.card_record.specs.Reading.{◌>>=◌, Read, number_at, moment_at}
use Rattle.card_record.specs.Cards.{record_at}
use Rattle.card_record.specs.Spelling.{IsBytes}
use Rattle.card_record.proofs.FieldLaws.{IsRead, IsBytes-drop, Takes, Takes-then, bind_ok, chosen, ok_is, number_law, wide32}
use Rattle.card_record.proofs.CardLaws.{record_law, moment_law, card_again}
use Rattle.state_image.specs.Faults.{code_of, fault_of}
use Rattle.state_image.specs.Changes.{change_spelled, FitsChange, IsSpelledAt, or_malformed, fault_at, change_at}

abbrev pub done : {A : Type 0} → A → Result A ℕ
done x = Ok x

abbrev failed : {A : Type 0} → ℕ → Result A ℕ
failed left = Err left

-- ---- faults

-- either this test was passed, or the others say what it is
passed : (n k : ℕ) (f g : Fault) (more : Option Fault) → cond (eqb n k) (Some f) more ≡ Some g → ((n ≡ k) × (f ≡ g)) ⊎ (more ≡ Some g)
passed n k f g more e = by_case (eqb n k) refl e
  where
    by_case : (b : Bool) → eqb n k ≡ b → cond b (Some f) more ≡ Some g → ((n ≡ k) × (f ≡ g)) ⊎ (more ≡ Some g)
    by_case true is e = inl (eqb-true n k is, cc)
    by_case false is e = inr e

none_left : {X : Type 0} (x : X) → None ≡ Some x → ⊥
none_left x e = cc

pub code_is : (n : ℕ) (g : Fault) → fault_of n ≡ Some g → n ≡ code_of g
code_is n g e =
    elim (passed n 1 NoFields g _ e) [
      | inl p ↦ p.0 ∙ ap code_of p.1
      | inr e2 ↦ elim (passed n 2 NoFrom g _ e2) [
        | inl p ↦ p.0 ∙ ap code_of p.1
        | inr e3 ↦ elim (passed n 3 CardTooLong g _ e3) [
          | inl p ↦ p.0 ∙ ap code_of p.1
          | inr e4 ↦ elim (passed n 4 TooLong g None e4) [
            | inl p ↦ p.0 ∙ ap code_of p.1
            | inr e5 ↦ absurd (none_left g e5)
          ]
        ]
      ]
    ]

pub fault_of_code : (f : Fault) → fault_of (code_of f) ≡ Some f
fault_of_code NoFields = refl
fault_of_code NoFrom = refl
fault_of_code CardTooLong = refl
fault_of_code TooLong = refl

pub known : {X : Type 0} (left : ℕ) (o : Option X) (bytes : List ℕ) (x : X) (rest : List ℕ) → or_malformed left o bytes ≡ Ok (x, rest) → (o ≡ Some x) × (bytes ≡ rest)
known left None bytes x rest e = absurd cc
known left (Some y) bytes x rest e =
    let is = ok_is (y, bytes) (x, rest) e in
    (ap (λ (p : _ × List ℕ). Some p.0) is, ap (λ (p : _ × List ℕ). p.1) is)

-- the first byte is taken
pub first_taken : (n k : ℕ) (bytes : List ℕ) → IsBytes (n ∷ bytes) → n ≡ k → Takes (n ∷ bytes) (k ∷ []) bytes
first_taken n k bytes fits is = record { parts = ap (λ (b : ℕ). b ∷ bytes) is; rest_fits = λ i. fits (suc i) }

fault_takes : (bytes : List ℕ) (f : Fault) (rest : List ℕ) → IsBytes bytes → fault_at bytes ≡ Ok (f, rest) → Takes bytes (records.b8 (code_of f)) rest × ⊤
unfolding fault_at
fault_takes [] f rest fits e = absurd cc
fault_takes (n ∷ bytes) f rest fits e =
    let k = known (suc (length bytes)) (fault_of n) bytes f rest e in
    (subst (λ (r : List ℕ). Takes (n ∷ bytes) (records.b8 (code_of f)) r) k.1 (first_taken n (code_of f) bytes fits (code_is n f k.0)), tt)

fault_again : (f : Fault) (rest : List ℕ) → fault_at (records.b8 (code_of f) ++ rest) ≡ Ok (f, rest)
unfolding fault_at
fault_again f rest = rw (fault_of_code f) refl

pub fault_law : IsRead (λ f. records.b8 (code_of f)) (λ _. ⊤) fault_at
fault_law = record { some = λ f. omega arith; takes = fault_takes; again = λ f rest t small. fault_again f rest }

-- ---- changes

abbrev of : {X : Type 0} → (X → Change) → X × List ℕ → Result (Change × List ℕ) ℕ
of kind x = Ok (kind x.0, x.1)

-- a change of one kind is what follows the byte that says so
of_kind : {X : Type 0} (spell : X → List ℕ) (Fits : X → Type 0) (read : List ℕ → Read X) (law : IsRead spell Fits read) (kind : X → Change)
    (n k : ℕ) (bytes : List ℕ) (c : Change) (rest : List ℕ)
    → IsBytes (n ∷ bytes) → eqb n k ≡ true → (read bytes >>= of kind) ≡ Ok (c, rest)
    → ((x : X) → k ∷ spell x ≡ change_spelled (kind x)) → ((x : X) → Fits x → FitsChange (kind x))
    → Takes (n ∷ bytes) (change_spelled c) rest × FitsChange c
of_kind spell Fits read law kind n k bytes c rest fits is e spelled suits =
    let b = bind_ok (read bytes) (of kind) (c, rest) e in
    let t = law.takes bytes b.0.0 b.0.1 (λ i. fits (suc i)) b.1 in
    let both = Takes-then (n ∷ bytes) (k ∷ []) bytes (spell b.0.0) b.0.1 (first_taken n k bytes fits (eqb-true n k is)) t.0 in
    let named = subst (λ (s : List ℕ). Takes (n ∷ bytes) s b.0.1) (spelled b.0.0) both in
    subst (λ (p : Change × List ℕ). Takes (n ∷ bytes) (change_spelled p.0) p.1 × FitsChange p.0) (ok_is (kind b.0.0, b.0.1) (c, rest) b.2) (named, suits b.0.0 t.1)

low_moment : (n : ℕ) → nat_le n last_moment ≡ true → n ≤ last_moment
low_moment n h = grind (arith, nat_tests)

moment_low : (n : ℕ) → n ≤ last_moment → nat_le n last_moment ≡ true
moment_low n h = grind (arith, nat_tests)

abbrev fifth : ℕ → List ℕ → Read Change
fifth n bytes = cond (eqb n 5) (moment_at bytes >>= of At) (failed (suc (length bytes)))

abbrev fourth : ℕ → List ℕ → Read Change
fourth n bytes = cond (eqb n 4) (number_at w32 bytes >>= of Seen) (fifth n bytes)

abbrev third : ℕ → List ℕ → Read Change
third n bytes = cond (eqb n 3) (number_at w32 bytes >>= of Expunge) (fourth n bytes)

abbrev second : ℕ → List ℕ → Read Change
second n bytes = cond (eqb n 2) (fault_at bytes >>= of ArriveFault) (third n bytes)

module _ (n : ℕ) (bytes : List ℕ) (c : Change) (rest : List ℕ) (fits : IsBytes (n ∷ bytes)) where
  abbrev Taken : Type 0
  Taken = Takes (n ∷ bytes) (change_spelled c) rest × FitsChange c

  fifth_takes : fifth n bytes ≡ Ok (c, rest) → Taken
  fifth_takes e =
      elim (chosen (eqb n 5) (moment_at bytes >>= of At) (failed (suc (length bytes))) (done (c, rest)) e) [
        | inl h ↦ of_kind records.b64 _ moment_at moment_law At n 5 bytes c rest fits h.0 h.1 (λ x. refl) (λ x f. low_moment x f)
        | inr h ↦ let wrong = h.1 in absurd cc
      ]

  fourth_takes : fourth n bytes ≡ Ok (c, rest) → Taken
  fourth_takes e =
      elim (chosen (eqb n 4) (number_at w32 bytes >>= of Seen) (fifth n bytes) (done (c, rest)) e) [
        | inl h ↦ of_kind records.b32 _ (number_at w32) (number_law w32 (2 ^ 32) wide32) Seen n 4 bytes c rest fits h.0 h.1 (λ x. refl) (λ x f. f)
        | inr h ↦ fifth_takes h.1
      ]

  third_takes : third n bytes ≡ Ok (c, rest) → Taken
  third_takes e =
      elim (chosen (eqb n 3) (number_at w32 bytes >>= of Expunge) (fourth n bytes) (done (c, rest)) e) [
        | inl h ↦ of_kind records.b32 _ (number_at w32) (number_law w32 (2 ^ 32) wide32) Expunge n 3 bytes c rest fits h.0 h.1 (λ x. refl) (λ x f. f)
        | inr h ↦ fourth_takes h.1
      ]

  second_takes : second n bytes ≡ Ok (c, rest) → Taken
  second_takes e =
      elim (chosen (eqb n 2) (fault_at bytes >>= of ArriveFault) (third n bytes) (done (c, rest)) e) [
        | inl h ↦ of_kind (λ f. records.b8 (code_of f)) _ fault_at fault_law ArriveFault n 2 bytes c rest fits h.0 h.1 (λ x. refl) (λ x f. tt)
        | inr h ↦ third_takes h.1
      ]

  first_takes : cond (eqb n 1) (record_at bytes >>= of Arrive) (second n bytes) ≡ Ok (c, rest) → Taken
  first_takes e =
      elim (chosen (eqb n 1) (record_at bytes >>= of Arrive) (second n bytes) (done (c, rest)) e) [
        | inl h ↦ of_kind records.record_of _ record_at record_law Arrive n 1 bytes c rest fits h.0 h.1 (λ x. refl) (λ x f. f)
        | inr h ↦ second_takes h.1
      ]

change_takes : (bytes : List ℕ) (c : Change) (rest : List ℕ) → IsBytes bytes → change_at bytes ≡ Ok (c, rest) → Takes bytes (change_spelled c) rest × FitsChange c
unfolding change_at
change_takes [] c rest fits e = absurd cc
change_takes (n ∷ bytes) c rest fits e = first_takes n bytes c rest fits e

pub change_again : (c : Change) (rest : List ℕ) → FitsChange c → change_at (change_spelled c ++ rest) ≡ Ok (c, rest)
unfolding change_at
change_again (Arrive card) rest valid = rw (card_again card rest valid) refl
change_again (ArriveFault fault) rest fits = rw (fault_again fault rest) refl
change_again (Expunge uid) rest fits = rw ((number_law w32 (2 ^ 32) wide32).again uid rest fits (omega arith)) refl
change_again (Seen uid) rest fits = rw ((number_law w32 (2 ^ 32) wide32).again uid rest fits (omega arith)) refl
change_again (At moment) rest low = rw (moment_law.again moment rest (moment_low moment low) (omega arith)) refl

pub change_taken : (bytes : List ℕ) (c : Change) (rest : List ℕ) → IsBytes bytes → change_at bytes ≡ Ok (c, rest) → FitsChange c × (bytes ≡ change_spelled c ++ rest)
change_taken bytes c rest fits e = let t = change_takes bytes c rest fits e in (t.1, t.0.parts)

pub change_once : (a b : Change) (r s : List ℕ) → FitsChange a → FitsChange b → change_spelled a ++ r ≡ change_spelled b ++ s → a ≡ b
change_once a b r s p q same =
    let both = sym (change_again a r p) ∙ (ap change_at same ∙ change_again b s q) in
    ap (λ (x : Change × List ℕ). x.0) (ok_is (a, r) (b, s) both)

-- ---- offsets

pub valid_change : (c : Change) → FitsChange c → IsValidChange c
valid_change (Arrive card) f = f
valid_change (ArriveFault fault) f = tt
valid_change (Expunge uid) f = tt
valid_change (Seen uid) f = tt
valid_change (At moment) f = f

pub spelled_at : (bytes : List ℕ) (at : ℕ) (text rest : List ℕ) → at ≤ length bytes → drop at bytes ≡ text ++ rest → IsSpelledAt bytes at text (length bytes - length rest)
spelled_at bytes at text rest le is =
    let len : length bytes - at ≡ length text + length rest = sym (length-drop at bytes) ∙ ap length is ∙ length-append text rest in
    let after : length bytes - length rest ≡ at + length text = omega arith in
    let left : drop (length bytes - length rest) bytes ≡ rest =
    ap (λ n. drop n bytes) after ∙ sym (drop-drop (length text) at bytes) ∙ ap (drop (length text)) is ∙ drop_at text rest (length text) refl in
    record { text_then = is ∙ ap (λ (r : List ℕ). text ++ r) (sym left); after_is = after }

-- ---- what is answered

pub change_answer : (bytes : List ℕ) (at : ℕ) (c : Change) (rest : List ℕ) → IsBytes bytes → at ≤ length bytes → change_at (drop at bytes) ≡ Ok (c, rest)
    → IsValidChange c × IsSpelledAt bytes at (change_spelled c) (length bytes - length rest)
change_answer bytes at c rest fits le e =
    let t = change_taken (drop at bytes) c rest (IsBytes-drop at bytes fits) e in
    (valid_change c t.0, spelled_at bytes at (change_spelled c) rest le t.1)
