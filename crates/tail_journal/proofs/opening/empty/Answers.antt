use Rattle.std.proofs.Common.{◌≡◌, None, List, ℕ, take}
use Rattle.outside.specs.declared.shelf.Place.TheVariants.{T}
use Rattle.outside.specs.Places.{Changes}
use Rattle.outside.proofs.Known.{known_as}
use Rattle.tail_journal.specs.Read.{SameReading}
use Rattle.tail_journal.proofs.opening.empty.Goals as goal

pub returns-clause-same : goal.returns-clause-same
returns-clause-same g c =
    known_as (g.H.Shelf.seen c.args.shelf.now) (g.H.Shelf.seen c.cut_and_sync.new.shelf) (Changes T (λ (old new : List ℕ). new ≡ take 0 old)) (Changes T (SameReading None))
    (λ x y is h. (h.0, h.1, tt)) c.in_ok-cut_and_sync.ensures.cut

pub returns-clause-ends : goal.returns-clause-ends
returns-clause-ends g c places is = (c.in_ok-cut_and_sync.ensures.cut.back places is).holds.2
