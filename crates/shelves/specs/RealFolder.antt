-- What the library of the language tells of a file of the system.
use Rattle.std.specs.Prelude.{◌≡◌, ◌<◌, ℕ, List, take, IfSome, Some}
use Rattle.std.specs.declared.option.Option.{Option}
use Rattle.std.specs.Io.KnownBytes.{Consumes, IsAtEnd}

-- it was moved to this offset, where its position is known
abbrev pub IsMoved : ℕ → Option ℕ → Option ℕ → Type 0
IsMoved at before there = IfSome before (λ _. there ≡ Some at)

-- these bytes were read from it, and it ended where they are fewer than the buffer has room for
pub record ReadsOn (buf : List ℕ) (n room : ℕ) (there after : Option (List ℕ)) : Type 0 where
  pub bytes : Consumes there after (take n buf)
  pub end : n < room → IsAtEnd after
