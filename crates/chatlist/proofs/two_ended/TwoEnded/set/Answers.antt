use Rattle.std.proofs.Common.{refl, ap, ◌∙◌, slice_set}
use Rattle.chatlist.proofs.Ends.{set_after}
use Rattle.chatlist.proofs.two_ended.TwoEnded.set.Goals as goal

pub returns : goal.returns
returns g c =
    set_after c.self.inside.start c.args.index _ c.self.inside.items.items c.args.value refl c.self.invariant
    ∙ ap (λ e. slice_set e.values c.args.index c.args.value) c.self.view_is
