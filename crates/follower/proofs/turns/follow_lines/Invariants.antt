use Rattle.std.proofs.Common.{◌≡◌, ◌≤◌, ◌-◌, ℕ, List, Option, false}
use Rattle.mboxrd.specs.Reading as mbox_reading
use Rattle.outside.specs.Moments.{LeavesOnly, WhereKnown}
use Rattle.state_store.specs.Stored.{IsStored}
use Rattle.steps_file.specs.Reading as steps_reading
use Rattle.state_store.specs.States.{max_changes}
use Rattle.keeper.specs.Keeping.{IsKept}
use Rattle.follower.specs.Committing.{LinesToCome, OnWay, Outset, Prefix}
use Rattle.follower.specs.Following.{IsFedFrom}
use Rattle.follower.specs.Spending.{counts}
use Rattle.follower.specs.Feed.{Feed, Files}
use Rattle.follower.proofs.turns.follow_lines.Given as goal

abbrev pub invariant-loop : goal.invariant-loop
invariant-loop g l = record {
  usable : l.follower.failed ≡ false;
  few : l.follower.keeper.pending.count ≤ 256;
  place : l.follower.lines.place ≡ l.follower.keeper.state.position.steps;
  kept : WhereKnown (g.H.Shelf.seen l.shelf) (IsKept l.follower.keeper);
  stored : WhereKnown (g.H.Shelf.seen l.shelf) (IsStored l.follower.keeper.store (g.H.Shelf.may_leave l.shelf));
  mbox_later : g.M.Source.faults l.fn.mbox ≤ g.M.Source.faults l.mbox;
  steps_later : g.S.Source.faults l.fn.steps_file ≤ g.S.Source.faults l.steps_file;
  shelf_later : g.H.Shelf.faults l.fn.shelf ≤ g.H.Shelf.faults l.shelf;
  mbox_took : (bytes : List ℕ) × mbox_reading.Takes (g.M.Source.left l.fn.mbox) (g.M.Source.left l.mbox) l.fn.follower.mbox l.follower.mbox bytes;
  steps_took : (bytes : List ℕ) × steps_reading.Takes (g.S.Source.left l.fn.steps_file) (g.S.Source.left l.steps_file) l.fn.follower.lines l.follower.lines bytes;
  fed : IsFedFrom l.fn.follower.keeper.state l.follower;
  goes : (files : Files) (last : Option ℕ) (start : Outset) (feed : Feed)
      → OnWay start feed (LinesToCome files last l.fn.follower (g.M.Source.left l.fn.mbox) (g.S.Source.left l.fn.steps_file)) l.fn.follower.keeper
      (counts l.fn.steps (g.H.Shelf.written l.fn.shelf)) (g.H.Shelf.seen l.fn.shelf)
      → LeavesOnly g.H.Shelf.moment g.H.Shelf.left_since l.fn.shelf l.shelf (Prefix start.state feed)
      × OnWay start feed (LinesToCome files last l.follower (g.M.Source.left l.mbox) (g.S.Source.left l.steps_file)) l.follower.keeper
      (counts l.steps (g.H.Shelf.written l.shelf)) (g.H.Shelf.seen l.shelf);
}

abbrev pub decreases-loop : goal.decreases-loop
decreases-loop g l = max_changes - l.follower.keeper.state.position.count
