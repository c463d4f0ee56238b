use Rattle.std.proofs.Common.{ap, ◌∙◌}
use Rattle.std.specs.Prelude.{is_some}
use Rattle.kit.specs.Chains.{value_of}
use Rattle.mboxrd.specs.Reading.{Reading}
use Rattle.follower.specs.Following.{Following}
use Rattle.follower.proofs.Turning.{next_makes}
use Rattle.follower.proofs.follower.Follower.change_of.Goals as goal

pub returns-in-Next-clause-makes : goal.returns-in-Next-clause-makes
returns-in-Next-clause-makes g c = λ files.
    let reader = ap (λ (f : Following). f.mbox) c.self.view_is in
    let placed = c.at_mail-position.ensures
    ∙ (λ i. record c.args.position { mbox = (c.place.ensures ∙ ap (λ (r : Reading). r.place) reader) i; mbox_trace = (c.trace.ensures.value ∙ ap (λ (r : Reading). value_of r.trace) reader) i }) in
    next_makes files _ _ c.args.self.now c.next_arrival.new.self c.args.step c.args.position c.at_mail-position.result _ c.in-Some.change c.in-Next.is c.in-Some.is c.in_ok-change-in-Next.ensures.next
    (c.in_ok-change-in-Next.ensures.stands (ap is_some c.in-Some.is)) placed
