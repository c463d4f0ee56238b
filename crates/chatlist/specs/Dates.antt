-- The dates of chats in order, of which those that are none come last.
use Rattle.std.specs.Prelude.{◌≡◌, ℕ, zero, suc, Option, Some, None, true, false, List, [], ◌∷◌, take, drop, is_some}
use Rattle.std.specs.List.{AllByRecursion}

-- so many of them, where these are known
unfoldable pub padded : List ℕ → ℕ → List (Option ℕ)
padded known zero = []
padded [] (suc n) = None ∷ padded [] n
padded (date ∷ known) (suc n) = Some date ∷ padded known n

-- a date that is known follows others that are, and none is followed by none
pub record IsDateFit (date : Option ℕ) (i : ℕ) (dates : List (Option ℕ)) : Type 0 where
  pub known : is_some date ≡ true → AllByRecursion (λ d. is_some d ≡ true) (take i dates)
  pub none : is_some date ≡ false → AllByRecursion (λ d. is_some d ≡ false) (drop i dates)
