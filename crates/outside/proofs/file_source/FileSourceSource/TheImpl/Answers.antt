-- Of bytes that are not known the clauses of a source say nothing.
use Rattle.std.proofs.Common.{ℕ, List, Result, Ok, Err}
use Rattle.std.specs.Prelude.{None}
use Rattle.std.specs.Io.KnownBytes.{ReadConsumes}
use Rattle.outside.proofs.file_source.FileSourceSource.TheImpl.Goals as goal

unknown : {E : Type 0} (r : Result ℕ E) (buf : List ℕ) → ReadConsumes None None r buf
unknown (Ok n) buf = (tt, λ none room. tt)
unknown (Err e) buf = tt

pub take-tells : goal.take-tells
take-tells g c = record {
  bound = c.ensures.bound;
  bytes = unknown c.result _;
  cause = c.ensures.cause;
}
