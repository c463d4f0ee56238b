use Rattle.std.proofs.Common.{◌≡◌, ◌||◌, take}
use Rattle.std.specs.BTreeSet.{contains}
use Rattle.card_type.specs.declared.spot.Spot.{Spot}
use Rattle.card_type.specs.Spots.{spot_cmp}
use Rattle.thread_links.specs.Work.{is_later_of}
use Rattle.thread_links.proofs.work.push_later.Given as goal

abbrev pub invariant-loop-spot : goal.invariant-loop-spot
invariant-loop-spot l =
    (s : Spot) → contains spot_cmp l.work s ≡ (contains spot_cmp l.fn.work s || is_later_of (take l.spot-index l.spots) l.from s)
