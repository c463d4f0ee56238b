use Rattle.std.proofs.Common.{arith}
use Rattle.std.specs.Str.{bytes_eq}
use Rattle.contacts.proofs.ByAddr.{one_less, counted}
use Rattle.contacts.proofs.mentions.Mentions.remove_each.Goals as goal

pub loop-addr-preserved : goal.loop-addr-preserved
loop-addr-preserved c other =
    let addr = c.addr-item.result in
    let less = one_less c.loop-addr.self c.take_one.new.self addr c.take_one.ensures.others c.take_one.ensures.at other in
    let count = counted (bytes_eq other) c.args.addrs.now c.loop-addr.addr-index addr c.loop-addr-test.true c.addr-item.is in
    let before = c.loop-addr.invariant other in
    let kept = c.drop_none.ensures other in
    omega (arith, less, count, before, kept)
