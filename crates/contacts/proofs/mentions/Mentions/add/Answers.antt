use Rattle.std.proofs.Common.{◌≡◌, ◌∙◌, sym, ap, ◌+◌, cond}
use Rattle.std.specs.List.{count_by}
use Rattle.std.specs.Str.{bytes_eq}
use Rattle.card_type.specs.Records.{capped}
use Rattle.contacts.specs.Kept.{mentions_at}
use Rattle.contacts.proofs.ByAddr.{one_more, more_still, times_are}
use Rattle.contacts.proofs.mentions.Mentions.add.Goals as goal

pub returns : goal.returns
returns c other =
    let card = c.args.card.now in
    let old = mentions_at c.args.self.now other in
    let one = cond (bytes_eq other card.from) 1 0 in
    let tos = count_by (bytes_eq other) card.to in
    let ccs = count_by (bytes_eq other) card.cc in
    let from = one_more c.args.self.now c.add_one.new.self card.from c.in_ok-add_one.ensures.others c.in_ok-add_one.ensures.at other in
    let to : capped (mentions_at c.add_each.new.self other) ≡ capped (mentions_at c.add_one.new.self other + tos) =
    rw (← c.as_slice.ensures) (c.in_ok-add_each.ensures other) in
    let cc : capped (mentions_at c.add_each-2.new.self other) ≡ capped (mentions_at c.add_each.new.self other + ccs) =
    rw (← c.as_slice-2.ensures) (c.in_ok-add_each-2.ensures other) in
    let first = more_still old (mentions_at c.add_one.new.self other) (mentions_at c.add_each.new.self other) one tos from to in
    more_still old (mentions_at c.add_each.new.self other) (mentions_at c.add_each-2.new.self other) (one + tos) ccs first cc
    ∙ sym (ap (λ n. capped (old + n)) (times_are card other))
