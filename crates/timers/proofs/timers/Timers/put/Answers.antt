use Rattle.std.proofs.Common.{ap, ◌∙◌}
use Rattle.lists.specs.Sorted.{insert_by}
use Rattle.lists.proofs.Inserts.{None_of, filter_none}
use Rattle.timers.specs.Deadlines.{deadline_cmp}
use Rattle.timers.proofs.Kept.{of_uid, insert_deadline, known_before, known_with}
use Rattle.timers.proofs.timers.Timers.put.Goals as goal

pub invariant_of-self-in_err-insert-2 : goal.invariant_of-self-in_err-insert-2
invariant_of-self-in_err-insert-2 c =
    let deadlines = c.self.inside.deadlines.keys in
    let none : None_of (of_uid c.args.uid) deadlines = rw (c.self.view_is, c.drop_of.ensures) (filter_none (of_uid c.args.uid) c.args.self.now) in
    let known = known_before c.self.inside.expiries.entries c.insert.new.self.entries deadlines c.args.expiry c.args.uid c.in_ok-insert.ensures.updates.0 c.self.invariant.1 none in
    (c.insert-2.ensures.ordered, rw c.in_err-insert-2.ensures.err known)

pub invariant_of-self-2 : goal.invariant_of-self-2
invariant_of-self-2 c =
    let deadlines = c.self.inside.deadlines.keys in
    let none : None_of (of_uid c.args.uid) deadlines = rw (c.self.view_is, c.drop_of.ensures) (filter_none (of_uid c.args.uid) c.args.self.now) in
    let known = known_with c.self.inside.expiries.entries c.insert.new.self.entries deadlines c.args.expiry c.args.uid c.in_ok-insert.ensures.updates.0 c.self.invariant.1 none in
    let kept = c.in_ok-insert-2.ensures.keys ∙ insert_deadline deadlines c.args.expiry c.args.uid none in
    (c.insert-2.ensures.ordered, rw kept known)

pub returns : goal.returns
returns c =
    let deadlines = c.self.inside.deadlines.keys in
    let none : None_of (of_uid c.args.uid) deadlines = rw (c.self.view_is, c.drop_of.ensures) (filter_none (of_uid c.args.uid) c.args.self.now) in
    c.in_ok-insert-2.ensures.keys ∙ insert_deadline deadlines c.args.expiry c.args.uid none
    ∙ ap (insert_by deadline_cmp (c.args.expiry, c.args.uid)) (c.self.view_is ∙ c.drop_of.ensures)
