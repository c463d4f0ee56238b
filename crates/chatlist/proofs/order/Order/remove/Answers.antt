use Rattle.std.proofs.Common.{ap, arith}
use Rattle.chatlist.proofs.Kept.{kept_at, kept_without, take_out}
use Rattle.chatlist.proofs.order.Order.remove.Goals as goal

pub remove-requires : goal.remove-requires
remove-requires c =
    kept_at c.self.inside.keys.values c.self.inside.dates.values c.args.self.now.chats c.args.key.now c.args.date c.place_of-place.result c.self.invariant.0 (ap (λ o. o.chats) c.self.view_is) c.requires c.self.invariant.1 c.self.invariant.2 c.place_of-place.ensures.place

pub remove-requires-2 : goal.remove-requires-2
remove-requires-2 c =
    let at = kept_at c.self.inside.keys.values c.self.inside.dates.values c.args.self.now.chats c.args.key.now c.args.date c.place_of-place.result c.self.invariant.0 (ap (λ o. o.chats) c.self.view_is) c.requires c.self.invariant.1 c.self.invariant.2 c.place_of-place.ensures.place in
    omega (arith, at, c.self.invariant.0)

pub invariant_of-self : goal.invariant_of-self
invariant_of-self c =
    rw (c.remove.ensures, c.remove-2.ensures)
    (kept_without c.self.inside.keys.values c.self.inside.dates.values c.args.self.now.chats c.args.key.now c.args.date c.place_of-place.result c.self.invariant (ap (λ o. o.chats) c.self.view_is) c.requires c.place_of-place.ensures.place)

pub returns : goal.returns
returns c =
    rw (c.remove.ensures, c.remove-2.ensures)
    (take_out c.self.inside.keys.values c.self.inside.dates.values c.args.self.now.chats c.args.key.now c.args.date c.place_of-place.result c.self.invariant.0 (ap (λ o. o.chats) c.self.view_is) c.requires c.self.invariant.1 c.self.invariant.2 c.place_of-place.ensures.place)
