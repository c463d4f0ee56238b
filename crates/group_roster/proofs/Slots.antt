-- What is said in turn, each time at a spot, where the last that says something counts.
use Rattle.std.proofs.Common.{◌≡◌, refl, sym, ap, ◌∙◌, Bool, true, false, not, ◌⊎◌, inl, inr, Option, Some, None, is_some, List, [], ◌∷◌}
use Rattle.std.specs.Prelude.{if◌then◌else◌, unwrap_or}
use Rattle.std.specs.List.{AllByRecursion}
use Rattle.std.proofs.lemmas.Bool.{false≢true, eq-eqb}
use Rattle.card_type.specs.declared.spot.Spot.{Spot}
use Rattle.card_type.specs.Spots.{spot_eq}
use Rattle.mailbox_model.proofs.ChatLaws.{same_bytes}
use Rattle.group_roster.specs.Setters.{is_before, is_kept}

pub same_spot : (s : Spot) → spot_eq s s ≡ true
same_spot s = rw (eq-eqb s.date s.date refl, same_bytes s.id, eq-eqb s.uid s.uid refl) refl

module _ {V : Type 0} where
  -- the value that counts in the end
  abbrev pub value_after : V → List (Option V × Spot) → V
  value_after v [] = v
  value_after v (y ∷ ys) = value_after (unwrap_or y.0 v) ys

  -- and where it was said
  abbrev pub spot_after : Option Spot → List (Option V × Spot) → Option Spot
  spot_after s [] = s
  spot_after s (y ∷ ys) = spot_after (if is_some y.0 then Some y.1 else s) ys

  -- where the last spot is another than at first, what was there at first does not count
  over : (p : Option Spot → Bool) (ys : List (Option V × Spot)) (v w : V) (s t : Option Spot) → p s ≡ true → p (spot_after s ys) ≡ false
      → (value_after v ys ≡ value_after w ys) × (spot_after s ys ≡ spot_after t ys)
  over p [] v w s t h k = absurd (false≢true (sym k ∙ h))
  over p ((None, spot) ∷ ys) v w s t h k = over p ys v w s t h k
  over p ((Some x, spot) ∷ ys) v w s t h k = (refl, refl)

  -- a test of the spots that all answer alike
  pub all_answer : (p : Option Spot → Bool) (b : Bool) (ys : List (Option V × Spot)) (s : Option Spot)
      → AllByRecursion (λ y. p (Some y.1) ≡ b) ys → p s ≡ b → p (spot_after s ys) ≡ b
  all_answer p b [] s a h = h
  all_answer p b ((None, spot) ∷ ys) s a h = all_answer p b ys s a.1 h
  all_answer p b ((Some x, spot) ∷ ys) s a h = all_answer p b ys (Some spot) a.1 a.0

  -- one more at first changes nothing where it says nothing, or where the last spot is after it
  pub one_more : (spot : Spot) (o : Option V) (ys : List (Option V × Spot)) (v : V) (s : Option Spot)
      → (o ≡ None) ⊎ (is_before spot (spot_after s ys) ≡ true) → is_before spot s ≡ false
      → (value_after v ((o, spot) ∷ ys) ≡ value_after v ys) × (spot_after s ((o, spot) ∷ ys) ≡ spot_after s ys)
  one_more spot o ys v s (inl e) h = (ap (λ x. value_after (unwrap_or x v) ys) e, ap (λ (x : Option V). spot_after (if is_some x then Some spot else s) ys) e)
  one_more spot o ys v s (inr k) h =
      let same = over (λ t. not (is_before spot t)) ys v (unwrap_or o v) s (if is_some o then Some spot else s) (ap not h) (ap not k) in
      (sym same.0, sym same.1)

  -- one less at first changes nothing where the last spot is not its own
  pub one_less : (spot : Spot) (o : Option V) (ys : List (Option V × Spot)) (v : V) (s : Option Spot)
      → is_kept spot (spot_after s ((o, spot) ∷ ys)) ≡ false
      → (value_after v ((o, spot) ∷ ys) ≡ value_after v ys) × (spot_after s ((o, spot) ∷ ys) ≡ spot_after s ys)
  one_less spot None ys v s h = (refl, refl)
  one_less spot (Some x) ys v s h = over (is_kept spot) ys x v (Some spot) s (same_spot spot) h
