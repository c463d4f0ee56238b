use Rattle.std.proofs.Common.{◌∙◌, sym}
use Rattle.repair.proofs.Contents.{place_lent, spot_lent}
use Rattle.repair.proofs.place.place_before.Goals as goal

pub unwrap-spot-requires : goal.unwrap-spot-requires
unwrap-spot-requires c =
    spot_lent c.args.mailbox.now.mailbox c.keeps_rules.ensures c.args.id.now c.in_ok-chat.chat (sym c.requires ∙ c.in_ok-chat.was) c.spot_of.result
    c.spot_of.ensures

pub returns : goal.returns
returns c =
    place_lent c.args.mailbox.now.mailbox c.keeps_rules.ensures c.args.id.now c.in_ok-chat.chat (sym c.requires ∙ c.in_ok-chat.was) c.spot_of.result
    c.spot_of.ensures c.unwrap-spot.result c.unwrap-spot.ensures
