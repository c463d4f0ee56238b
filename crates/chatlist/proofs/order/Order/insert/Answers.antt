use Rattle.std.proofs.Common.{ap, arith}
use Rattle.chatlist.proofs.Fits.{fits}
use Rattle.chatlist.proofs.Kept.{length_chats, kept_with, put_in}
use Rattle.chatlist.proofs.order.Order.insert.Goals as goal

pub insert-requires-clause-within : goal.insert-requires-clause-within
insert-requires-clause-within c =
    let all = length_chats c.self.inside.keys.values c.self.inside.dates.values c.args.self.now.chats c.self.invariant.0 (ap (λ o. o.chats) c.self.view_is) in
    omega (arith, all, c.place_of-place.ensures.bound)

pub insert-requires-2-clause-within : goal.insert-requires-2-clause-within
insert-requires-2-clause-within c =
    let all = length_chats c.self.inside.keys.values c.self.inside.dates.values c.args.self.now.chats c.self.invariant.0 (ap (λ o. o.chats) c.self.view_is) in
    omega (arith, all, c.self.invariant.0, c.place_of-place.ensures.bound)

pub insert-requires-2-clause-fit : goal.insert-requires-2-clause-fit
insert-requires-2-clause-fit c =
    fits c.args.key c.args.date c.self.inside.keys.values c.self.inside.dates.values c.place_of-place.result c.self.invariant.0 (ap (λ o. o.chats) c.self.view_is) c.place_of-place.ensures.place

pub invariant_of-self : goal.invariant_of-self
invariant_of-self c =
    let chats = ap (λ o. o.chats) c.self.view_is in
    rw (c.insert.ensures, c.insert-2.ensures) (kept_with c.self.inside.keys.values c.self.inside.dates.values c.args.self.now.chats c.args.key c.args.date c.place_of-place.result c.self.invariant chats c.requires.absent c.place_of-place.ensures.bound c.place_of-place.ensures.place)

pub returns : goal.returns
returns c =
    let chats = ap (λ o. o.chats) c.self.view_is in
    rw (c.insert.ensures, c.insert-2.ensures) (put_in c.self.inside.keys.values c.self.inside.dates.values c.args.self.now.chats c.args.key c.args.date c.place_of-place.result c.self.invariant.0 chats c.requires.absent c.place_of-place.ensures.place)
