use Rattle.std.proofs.Common.{sym, ◌∙◌, arith}
use Rattle.indexes.proofs.Mails.{lent}
use Rattle.indexes.proofs.Updated.{asked, lent_asked, none_shown, spot_is_asked}
use Rattle.indexes.proofs.indexes.Indexes.updates.Goals as goal

pub returns-then-is_none-clause-updates : goal.returns-then-is_none-clause-updates
returns-then-is_none-clause-updates g c =
    none_shown c.args.mailbox.now.mailbox c.args.id.now c.args.self.now.links.cites c.requires.kept.cards.links (sym c.chat_of.ensures.kept ∙ c.if-is_none.ensures)

pub unwrap-spot-requires : goal.unwrap-spot-requires
unwrap-spot-requires g c =
    let m = c.args.mailbox.now.mailbox in
    let id = c.args.id.now in
    let cites = c.args.self.now.links.cites in
    let there = sym c.chat_of.ensures.kept ∙ c.if-is_none.ensures in
    lent c.spot_of.result (asked m id c.keeps_rules.ensures cites c.requires.kept.cards.links there) (c.spot_of.ensures ∙ spot_is_asked m id c.keeps_rules.ensures cites c.requires.kept.cards.links there)

pub row_at-requires-clause-there : goal.row_at-requires-clause-there
row_at-requires-clause-there g c =
    let m = c.args.mailbox.now.mailbox in
    let id = c.args.id.now in
    (lent_asked m id c.keeps_rules.ensures c.args.self.now.links.cites c.requires.kept.cards.links (sym c.chat_of.ensures.kept ∙ c.if-is_none.ensures) c.spot_of.result c.unwrap-spot.result c.spot_of.ensures c.unwrap-spot.ensures).there

pub returns-in_err-row_at-clause-cost : goal.returns-in_err-row_at-clause-cost
returns-in_err-row_at-clause-cost g c =
    let m = c.args.mailbox.now.mailbox in
    let id = c.args.id.now in
    let here = lent_asked m id c.keeps_rules.ensures c.args.self.now.links.cites c.requires.kept.cards.links (sym c.chat_of.ensures.kept ∙ c.if-is_none.ensures) c.spot_of.result c.unwrap-spot.result c.spot_of.ensures c.unwrap-spot.ensures in
    omega (arith, c.row_at.ensures.cost, here.named)

pub returns-clause-updates : goal.returns-clause-updates
returns-clause-updates g c =
    let m = c.args.mailbox.now.mailbox in
    let id = c.args.id.now in
    let here = lent_asked m id c.keeps_rules.ensures c.args.self.now.links.cites c.requires.kept.cards.links (sym c.chat_of.ensures.kept ∙ c.if-is_none.ensures) c.spot_of.result c.unwrap-spot.result c.spot_of.ensures c.unwrap-spot.ensures in
    c.updates_of.ensures ∙ here.answer c.in_ok-row_at.field-0 c.in_ok-row_at.ensures.row

pub returns-clause-cost : goal.returns-clause-cost
returns-clause-cost g c =
    let m = c.args.mailbox.now.mailbox in
    let id = c.args.id.now in
    let here = lent_asked m id c.keeps_rules.ensures c.args.self.now.links.cites c.requires.kept.cards.links (sym c.chat_of.ensures.kept ∙ c.if-is_none.ensures) c.spot_of.result c.unwrap-spot.result c.spot_of.ensures c.unwrap-spot.ensures in
    omega (arith, c.row_at.ensures.cost, here.named)
