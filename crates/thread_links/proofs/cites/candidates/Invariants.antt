use Rattle.std.proofs.Common.{◌≡◌, ◌++◌, map}
use Rattle.thread_links.proofs.cites.candidates.Given as goal

abbrev pub invariant-loop-id : goal.invariant-loop-id
invariant-loop-id l = l.candidates ≡ l.fn.card.replies ++ map (λ id. id.now) l.yielded
