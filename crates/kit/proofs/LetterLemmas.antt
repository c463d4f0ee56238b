-- Bytes that stay as they are when letters are lowered.
use Rattle.std.proofs.Common.{◌≡◌, ℕ, Bool, true, List, [], ◌∷◌, refl}
use Rattle.std.proofs.lemmas.Bool.{and_parts}
use Rattle.std.specs.Char.{to_ascii_lowercase}
use Rattle.std.specs.List.{list_all}
use Rattle.kit.specs.Letters.{lowered}

pub lowered-all : (test : ℕ → Bool) → ((b : ℕ) → test b ≡ true → to_ascii_lowercase b ≡ b) → (bs : List ℕ) → list_all test bs ≡ true → lowered bs ≡ bs
lowered-all test same [] all = refl
lowered-all test same (b ∷ bs) all =
    let both = and_parts (test b) (list_all test bs) all in
    rw (same b both.0, lowered-all test same bs both.1) refl
