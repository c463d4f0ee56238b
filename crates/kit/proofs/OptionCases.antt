-- Of an option's two cases each alone.
use Rattle.std.proofs.Common.{Option, Some, None, IfSome, IfNone}
use Rattle.std.specs.Prelude.{MatchOption}

pub some_from_match : {A : Type 0} (o : Option A) (P : Type 0) (Q : A → Type 0) → MatchOption o P Q → IfSome o Q
some_from_match None P Q h = tt
some_from_match (Some x) P Q h = h

pub none_from_match : {A : Type 0} (o : Option A) (P : Type 0) (Q : A → Type 0) → MatchOption o P Q → IfNone o P
none_from_match None P Q h = h
none_from_match (Some x) P Q h = tt
