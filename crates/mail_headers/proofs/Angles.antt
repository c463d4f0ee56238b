-- The angles of bytes, by where each begins and ends, and their white space.
use Rattle.std.proofs.Common.{◌≡◌, ℕ, ◌<◌, false, List, [], ◌∷◌, ◌++◌, length, Option, Some, None, refl, sym, ap, ◌∙◌, arith, append_assoc, inl, inr}
use Rattle.std.specs.Borrow.{Bor}
use Rattle.std.specs.Prelude.{◌==◌, option_map, IfSome, MatchOption}
use Rattle.std.proofs.lemmas.Bool.{cases_Bool, false≢true}
use Rattle.std.proofs.lemmas.List.{append-nil}
use Rattle.std.specs.List.{list_any}
use Rattle.kit.specs.Cuts.{split_once}
use Rattle.kit.specs.White.{is_white}
use Rattle.mail_headers.specs.Ids.{angles_from, angles, without_white}
use Rattle.mail_headers.proofs.SplitLemmas.{put_before, split_once-here, split_once-further}

-- the angles of bytes that were cut at a <
abbrev angles_after : Option (List ℕ × List ℕ) → List (List ℕ)
angles_after None = []
angles_after (Some p) = angles_from (Some []) p.1

angles_after-put_before : (b : ℕ) (parts : Option (List ℕ × List ℕ)) → angles_after (put_before b parts) ≡ angles_after parts
angles_after-put_before b None = refl
angles_after-put_before b (Some p) = refl

-- no angle begins before the first <
angles-open : (bs : List ℕ) → angles bs ≡ angles_after (split_once bs 60)
angles-open [] = refl
angles-open (b ∷ bs) = elim (cases_Bool (b == 60)) [
  | inl is ↦ (
      let opens : angles (b ∷ bs) ≡ angles_from (Some []) bs = rw is refl in
      opens ∙ ap angles_after (sym (split_once-here b bs 60 is)))
  | inr other ↦ (
      let goes_on : angles (b ∷ bs) ≡ angles bs = rw other refl in
      goes_on ∙ (angles-open bs ∙ (sym (angles_after-put_before b (split_once bs 60)) ∙ ap angles_after (sym (split_once-further b bs 60 other)))))
]

-- of bytes in an angle that were cut at a >: that angle, and those after it
abbrev angle_and_others : List ℕ → Option (List ℕ × List ℕ) → List (List ℕ)
angle_and_others inside None = []
angle_and_others inside (Some p) = (inside ++ p.0) ∷ angles p.1

angle_and_others-put_before : (inside : List ℕ) (b : ℕ) (parts : Option (List ℕ × List ℕ))
    → angle_and_others (inside ++ b ∷ []) parts ≡ angle_and_others inside (put_before b parts)
angle_and_others-put_before inside b None = refl
angle_and_others-put_before inside b (Some p) = ap (λ (xs : List ℕ). xs ∷ angles p.1) (append_assoc inside (b ∷ []) p.0)

-- an angle that is open ends at the first >
angles-close : (inside bs : List ℕ) → angles_from (Some inside) bs ≡ angle_and_others inside (split_once bs 62)
angles-close inside [] = refl
angles-close inside (b ∷ bs) = elim (cases_Bool (b == 62)) [
  | inl is ↦ (
      let ends : angles_from (Some inside) (b ∷ bs) ≡ inside ∷ angles bs = rw is refl in
      ends ∙ (ap (λ (xs : List ℕ). xs ∷ angles bs) (sym (append-nil inside)) ∙ ap (angle_and_others inside) (sym (split_once-here b bs 62 is))))
  | inr other ↦ (
      let goes_on : angles_from (Some inside) (b ∷ bs) ≡ angles_from (Some (inside ++ b ∷ [])) bs = rw other refl in
      goes_on ∙ (angles-close (inside ++ b ∷ []) bs
      ∙ (angle_and_others-put_before inside b (split_once bs 62) ∙ ap (angle_and_others inside) (sym (split_once-further b bs 62 other)))))
]

abbrev texts : Bor (List ℕ) × Bor (List ℕ) → List ℕ × List ℕ
texts p = (p.0.now, p.1.now)

-- there is no angle without a <
pub no_open : (bytes : List ℕ) → None ≡ split_once bytes 60 → angles bytes ≡ []
no_open bytes none = angles-open bytes ∙ ap angles_after (sym none)

angles-cut : (bytes outside opened : List ℕ) → Some (outside, opened) ≡ split_once bytes 60 → angles bytes ≡ angle_and_others [] (split_once opened 62)
angles-cut bytes outside opened cut = angles-open bytes ∙ (ap angles_after (sym cut) ∙ angles-close [] opened)

-- the first angle, if there is one, is what precedes the first > after the first <
pub first_angle : (bytes outside opened : List ℕ) (found : Option (Bor (List ℕ) × Bor (List ℕ))) → Some (outside, opened) ≡ split_once bytes 60
    → option_map texts found ≡ split_once opened 62 → IfSome found (λ p. length p.1.now < length opened) → length opened < length bytes
    → MatchOption found (angles bytes ≡ []) (λ p. (angles bytes ≡ p.0.now ∷ angles p.1.now) × (length p.1.now < length bytes))
first_angle bytes outside opened None cut parts shorter len = angles-cut bytes outside opened cut ∙ ap (angle_and_others []) (sym parts)
first_angle bytes outside opened (Some p) cut parts shorter len =
    (angles-cut bytes outside opened cut ∙ ap (angle_and_others []) (sym parts), omega arith)

-- bytes without white space stay
pub without_white-none : (bytes : List ℕ) → list_any is_white bytes ≡ false → without_white bytes ≡ bytes
without_white-none [] none = refl
without_white-none (b ∷ bs) none = elim (cases_Bool (is_white b)) [
  | inl white ↦ absurd (false≢true (sym none ∙ rw white refl))
  | inr other ↦ rw other (ap (λ (xs : List ℕ). b ∷ xs) (without_white-none bs (rw other at none)))
]
