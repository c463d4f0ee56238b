use Rattle.std.proofs.Common.{◌≡◌, Option, Some, Result, Ok, Err, IfOk, IfSome, sym, subst}
use Rattle.outside.specs.Places.{Places}
use Rattle.shelves.specs.declared.memory_shelf.MemoryShelf.{MemoryShelf}
use Rattle.shelves.specs.MemoryShelf.{seen_of, left_of, outcome_of}
use Rattle.shelves.proofs.Went.{picked_leaves}
use Rattle.shelves.proofs.memory_shelf.MemoryShelf.crash.Goals as goal

known : {E : Type 0} (r : Result MemoryShelf E) (e : Places) (P : Places → Type 0) → P e → IfOk r (λ shelf. seen_of shelf ≡ Some e) → IfOk r (λ shelf. IfSome (seen_of shelf) P)
known (Ok shelf) e P left is = subst (λ (o : Option Places). IfSome o P) (sym is) left
known (Err fault) e P left is = tt

pub returns-clause-outcome : goal.returns-clause-outcome
returns-clause-outcome c =
    let shelf = c.args.self.now in
    let same : outcome_of c.args.pick shelf ≡ record { a = c.outcome.result.now; b = c.outcome-2.result.now; t = c.outcome-3.result.now } =
    λ i. record { a = sym c.outcome.ensures.outcome i; b = sym c.outcome-2.ensures.outcome i; t = sym c.outcome-3.ensures.outcome i } in
    known c.new.result (record { a = c.outcome.result.now; b = c.outcome-2.result.now; t = c.outcome-3.result.now }) (left_of shelf) (subst (left_of shelf) same (picked_leaves c.args.pick shelf.disk)) c.new.ensures.seen
