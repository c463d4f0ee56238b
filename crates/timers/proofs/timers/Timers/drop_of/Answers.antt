use Rattle.std.proofs.Common.{sym, ap, ◌∙◌}
use Rattle.timers.specs.Deadlines.{without_uid}
use Rattle.timers.proofs.Kept.{remove_deadline, known_without, none_without}
use Rattle.timers.proofs.timers.Timers.drop_of.Goals as goal

pub invariant_of-self : goal.invariant_of-self
invariant_of-self c =
    let expiries = c.self.inside.expiries.entries in
    let deadlines = c.self.inside.deadlines.keys in
    let left = c.remove-in-Some.ensures.keys ∙ remove_deadline expiries deadlines c.in-Some.expiry c.args.uid (sym c.remove.ensures.value ∙ c.in-Some.is) c.self.invariant.1 c.self.invariant.0 in
    (c.remove-in-Some.ensures.ordered, rw left (known_without expiries c.remove.new.self.entries deadlines c.args.uid c.remove.ensures.updates.0 c.self.invariant.1))

pub returns-in-Some : goal.returns-in-Some
returns-in-Some c =
    c.remove-in-Some.ensures.keys
    ∙ remove_deadline c.self.inside.expiries.entries c.self.inside.deadlines.keys c.in-Some.expiry c.args.uid (sym c.remove.ensures.value ∙ c.in-Some.is) c.self.invariant.1 c.self.invariant.0
    ∙ ap (without_uid c.args.uid) c.self.view_is

pub returns-in_default : goal.returns-in_default
returns-in_default c =
    none_without c.self.inside.expiries.entries c.remove.new.self.entries c.self.inside.deadlines.keys c.args.uid c.remove.ensures.updates.0 c.self.invariant.1
    (sym c.remove.ensures.value ∙ c.in_default.is)
    ∙ ap (without_uid c.args.uid) c.self.view_is
