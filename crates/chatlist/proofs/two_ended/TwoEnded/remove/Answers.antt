use Rattle.std.proofs.Common.{refl, ap, ◌∙◌}
use Rattle.std.specs.List.{remove}
use Rattle.chatlist.proofs.Ends.{remove_after}
use Rattle.chatlist.proofs.two_ended.TwoEnded.remove.Goals as goal

pub returns : goal.returns
returns g c =
    let items = c.self.inside.items.items in
    rw c.remove.ensures.items (remove_after c.self.inside.start c.args.index _ items refl c.self.invariant ∙ ap (λ e. remove e.values c.args.index) c.self.view_is)
