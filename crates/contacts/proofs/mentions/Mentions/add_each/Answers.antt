use Rattle.std.proofs.Common.{◌∙◌, sym, ap, ◌+◌, cond, take}
use Rattle.std.specs.List.{count_by}
use Rattle.std.specs.Str.{bytes_eq}
use Rattle.card_type.specs.Records.{capped}
use Rattle.contacts.specs.Kept.{mentions_at}
use Rattle.contacts.proofs.ByAddr.{one_more, more_still, counted}
use Rattle.contacts.proofs.mentions.Mentions.add_each.Goals as goal

pub loop-addr-preserved : goal.loop-addr-preserved
loop-addr-preserved c other =
    let addr = c.addr-item.result in
    let more = one_more c.loop-addr.self c.add_one.new.self addr c.in_ok-add_one.ensures.others c.in_ok-add_one.ensures.at other in
    let count = counted (bytes_eq other) c.args.addrs.now c.loop-addr.addr-index addr c.loop-addr-test.true c.addr-item.is in
    let before = mentions_at c.args.self.now other in
    more_still before (mentions_at c.loop-addr.self other) (mentions_at c.add_one.new.self other) (count_by (bytes_eq other) (take c.loop-addr.addr-index c.args.addrs.now)) (cond (bytes_eq other addr) 1 0) (c.loop-addr.invariant other) more
    ∙ sym (ap (λ n. capped (before + n)) count)
