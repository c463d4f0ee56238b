-- What several clauses say of one answer.
use Rattle.std.proofs.Common.{Ok, Err}
use Rattle.std.specs.Prelude.{Result, IfOk}

-- what two clauses say of one answer
pub both_clauses : {T E : Type 0} (r : Result T E) (P Q R : T → Type 0) → ((x : T) → P x → Q x → R x) → IfOk r P → IfOk r Q → IfOk r R
both_clauses (Ok x) P Q R f p q = f x p q
both_clauses (Err e) P Q R f p q = tt
