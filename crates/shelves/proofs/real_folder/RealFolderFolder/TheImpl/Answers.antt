-- Of names and contents that are not known the clauses of a folder say nothing.
use Rattle.std.proofs.Common.{Result, Ok, Err, IfOk, OnOk, refl}
use Rattle.std.specs.Prelude.{⊤}
use Rattle.shelves.proofs.real_folder.RealFolderFolder.TheImpl.Goals as goal

if_ok : {T E : Type 0} (r : Result T E) → IfOk r (λ _. ⊤)
if_ok (Ok x) = tt
if_ok (Err e) = tt

on_ok : {T E : Type 0} {P : Type 0} (r : Result T E) → P → OnOk r P
on_ok (Ok x) p = p
on_ok (Err e) p = tt

pub size-tells : goal.size-tells
size-tells g x c = record {
  size = if_ok c.result;
  content = refl;
  name = refl;
  kept = refl;
  cause = c.ensures.cause;
}

pub read-tells : goal.read-tells
read-tells g x c = record {
  bound = c.ensures.bound;
  count = if_ok c.result;
  bytes = if_ok c.result;
  content = refl;
  name = refl;
  kept = refl;
  cause = c.ensures.cause;
}

pub write-tells : goal.write-tells
write-tells g x c = record {
  content = on_ok c.result (λ reaches. refl);
  name = refl;
  kept = refl;
  cause = c.ensures.cause;
}

pub cut-tells : goal.cut-tells
cut-tells g x c = record {
  content = on_ok c.result (λ reaches. refl);
  name = refl;
  kept = refl;
  cause = c.ensures.cause;
}

pub sync-tells : goal.sync-tells
sync-tells g x c = record {
  durable = on_ok c.result refl;
  content = refl;
  name = refl;
  kept = refl;
  cause = c.ensures.cause;
}
