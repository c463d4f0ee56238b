use Rattle.std.proofs.Common.{◌≡◌, ◌-◌, arith}
use Rattle.std.specs.List.{count_by}
use Rattle.std.specs.Str.{bytes_eq}
use Rattle.contacts.specs.Kept.{mentions_at}
use Rattle.contacts.proofs.ByAddr.{one_less, times_are}
use Rattle.contacts.proofs.mentions.Mentions.remove.Goals as goal

pub returns : goal.returns
returns c other =
    let card = c.args.card.now in
    let from = one_less c.args.self.now c.take_one.new.self card.from c.take_one.ensures.others c.take_one.ensures.at other in
    let kept = c.drop_none.ensures other in
    let to : mentions_at c.remove_each.new.self other ≡ mentions_at c.drop_none.new.self other - count_by (bytes_eq other) card.to =
    rw (← c.as_slice.ensures) (c.remove_each.ensures other) in
    let cc : mentions_at c.remove_each-2.new.self other ≡ mentions_at c.remove_each.new.self other - count_by (bytes_eq other) card.cc =
    rw (← c.as_slice-2.ensures) (c.remove_each-2.ensures other) in
    omega (arith, from, kept, to, cc, times_are card other)
