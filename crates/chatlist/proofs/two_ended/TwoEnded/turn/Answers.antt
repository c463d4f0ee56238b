use Rattle.std.proofs.Common.{◌≡◌, rules, ap, ◌∙◌, length, get_or}
use Rattle.std.specs.List.{insert, remove}
use Rattle.chatlist.proofs.Ends.{turned_after}
use Rattle.chatlist.proofs.two_ended.TwoEnded.turn.Goals as goal

pub returns : goal.returns
returns g c d =
    let items = c.self.inside.items in
    let values = ap (λ e. e.values) c.self.view_is in
    let moved = rw c.deref_mut.ensures.value at (c.turn.ensures d) in
    let all : items.len ≡ length items.items = search rules in
    turned_after c.self.inside.start items.len c.args.from c.args.to items.items c.turn.new.values d moved c.self.invariant
    (rw values c.requires.from) (rw values c.requires.to) all
    ∙ ap (λ vs. insert (remove vs c.args.from) c.args.to (get_or vs c.args.from d)) values
