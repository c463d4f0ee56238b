use Rattle.std.proofs.Common.{ap, ◌∙◌}
use Rattle.mailbox_model.specs.Present.{spot_of}
use Rattle.box_state.specs.Inside.{mailbox_in}
use Rattle.box_state.proofs.Planned.{first_is}
use Rattle.box_state.proofs.mailbox.Mailbox.spot_of.Goals as goal

pub returns : goal.returns
returns c =
    c.first.ensures ∙ first_is (mailbox_in c.self.inside) c.self.invariant.rules.uids c.self.inside.spots c.self.invariant.spots c.args.id.now
    ∙ ap (λ k. spot_of k.mailbox c.args.id.now) c.self.view_is
