use Rattle.std.proofs.Common.{refl, ◌∷◌}
use Rattle.std.specs.List.Sorted.{IsStrictlySortedBy}
use Rattle.timers.specs.Deadlines.{deadline_cmp, AreKnown}
use Rattle.timers.proofs.Kept.{none_due, known_rest, none_left, popped}
use Rattle.timers.proofs.timers.Timers.due.Goals as goal

pub returns-then-now-expiry-clause-none : goal.returns-then-now-expiry-clause-none
returns-then-now-expiry-clause-none c =
    let due = none_due c.args.now c.in_ok-expiry.field-0.now.0 c.in_ok-expiry.field-0.now.1 c.self.inside.deadlines.keys c.if-now-expiry.true c.in_ok-expiry.ensures.all_from in
    (refl, rw c.self.view_is at due)

pub invariant_of-self : goal.invariant_of-self
invariant_of-self c =
    let expiries = c.self.inside.expiries.entries in
    let left = c.pop_first.new.self.keys in
    let least = c.in_ok-expiry.field-0.now in
    let first = popped c.pop_first.result least c.self.inside.deadlines.keys left c.pop_first.ensures.removal c.pop_first.ensures.variant c.in_ok-expiry.ensures.first in
    let known : AreKnown expiries (least ∷ left) = rw first at c.self.invariant.1 in
    let rises : IsStrictlySortedBy deadline_cmp (least ∷ left) = rw first at c.self.invariant.0 in
    (c.pop_first.ensures.ordered, known_rest expiries c.remove.new.self.entries left least c.remove.ensures.updates.0 known rises)

pub returns-clause-once : goal.returns-clause-once
returns-clause-once c =
    let left = c.pop_first.new.self.keys in
    let least = c.in_ok-expiry.field-0.now in
    let first = popped c.pop_first.result least c.self.inside.deadlines.keys left c.pop_first.ensures.removal c.pop_first.ensures.variant c.in_ok-expiry.ensures.first in
    let known : AreKnown c.self.inside.expiries.entries (least ∷ left) = rw first at c.self.invariant.1 in
    none_left c.self.inside.expiries.entries least left known (rw first at c.self.invariant.0)
