-- Of contents and of crash outcomes that are not known the clauses of a shelf say nothing.
use Rattle.std.proofs.Common.{Result, Ok, Err, IfOk, OnOk, arith}
use Rattle.std.specs.Prelude.{⊤}
use Rattle.outside.specs.Crash.{SameOutcomes, Elapses}
use Rattle.shelves.proofs.file_shelf.FileShelfShelf.TheImpl.Goals as goal

if_ok : {T E : Type 0} (r : Result T E) → IfOk r (λ _. ⊤)
if_ok (Ok x) = tt
if_ok (Err e) = tt

on_ok : {T E : Type 0} (r : Result T E) → OnOk r ⊤
on_ok (Ok x) = tt
on_ok (Err e) = tt

no_outcomes : SameOutcomes (λ _. ⊥) (λ _. ⊥)
no_outcomes = record { none_more = λ c left. left; none_less = λ c left. left }

no_clock : Elapses 0 0 (λ _ _. ⊥) (λ _ _. ⊥) (λ _. ⊥)
no_clock = record { later = omega arith; nothing_else = λ t c le left. absurd left; keeps = λ t c le left. left }

pub size-tells : goal.size-tells
size-tells g c = record {
  size = if_ok c.result;
  reads = tt;
  crash = no_outcomes;
  clock = no_clock;
  written = c.ensures.written;
  cause = c.ensures.cause;
}

pub read-tells : goal.read-tells
read-tells g c = record {
  bound = c.ensures.bound;
  count = if_ok c.result;
  bytes = if_ok c.result;
  reads = tt;
  crash = no_outcomes;
  clock = no_clock;
  written = c.ensures.written;
  cause = c.ensures.cause;
}

pub write_at-tells : goal.write_at-tells
write_at-tells g c = record {
  holds = on_ok c.result;
  others = tt;
  crash = λ x left. absurd left;
  clock = no_clock;
  written = c.ensures.written;
  cause = c.ensures.cause;
}

pub cut-tells : goal.cut-tells
cut-tells g c = record {
  cut = on_ok c.result;
  others = tt;
  crash = λ x left. absurd left;
  clock = no_clock;
  written = c.ensures.written;
  cause = c.ensures.cause;
}

pub sync-tells : goal.sync-tells
sync-tells g c = record {
  durable = on_ok c.result;
  reads = tt;
  crash = λ x left. left;
  clock = no_clock;
  written = c.ensures.written;
  cause = c.ensures.cause;
}
