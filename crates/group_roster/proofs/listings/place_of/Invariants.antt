use Rattle.std.proofs.Common.{◌≡◌, ◌≤◌, take}
use Rattle.group_roster.specs.Setters.{place_of}
use Rattle.group_roster.proofs.listings.place_of.Given as goal

abbrev pub invariant-loop-listing : goal.invariant-loop-listing
invariant-loop-listing l = (l.place ≡ place_of (take l.listing-index l.listings) l.spot) × (l.place ≤ l.listing-index)
