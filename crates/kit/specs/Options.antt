-- Steps that may give nothing.
use Rattle.std.specs.declared.option.Option.{Option}
use Rattle.std.specs.Prelude.{option_and_then}

-- the first step that gives nothing ends it
infixl 10 ◌>>=◌
abbrev pub ◌>>=◌ : {A B : Type 0} → Option A → (A → Option B) → Option B
o >>= f = option_and_then f o
