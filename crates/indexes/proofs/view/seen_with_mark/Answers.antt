use Rattle.std.proofs.Common.{sym, ap, ◌∙◌, Some}
use Rattle.std.specs.Prelude.{if◌then◌else◌, unwrap_or}
use Rattle.std.specs.Option.{option_or}
use Rattle.std.proofs.lemmas.Bool.{eq-eqb, ne_eqb}
use Rattle.mailbox_model.specs.Mailbox.{item_at}
use Rattle.indexes.proofs.Viewed.{item_there, marked_item, seen_or}
use Rattle.indexes.proofs.view.seen_with_mark.Goals as goal

pub returns-then-marked-uid : goal.returns-then-marked-uid
returns-then-marked-uid c =
    let m = c.args.mailbox.now.mailbox in
    let item = c.in_ok-item.item.now in
    let there = item_there c.item.result c.in_ok-item.item (item_at m c.args.uid) c.item.ensures c.in_ok-item.was in
    ap Some (c.unwrap_or.ensures ∙ ap (unwrap_or item.seen) c.now.ensures)
    ∙ seen_or item.seen m.now
    ∙ ap (λ b. if b then option_or item.seen (Some m.now) else item.seen) (sym (eq-eqb c.args.uid c.args.marked (sym c.if-marked-uid.true)))
    ∙ sym (marked_item m c.args.marked c.args.uid m.now item there)

pub returns-else-marked-uid : goal.returns-else-marked-uid
returns-else-marked-uid c =
    let m = c.args.mailbox.now.mailbox in
    let item = c.in_ok-item.item.now in
    let there = item_there c.item.result c.in_ok-item.item (item_at m c.args.uid) c.item.ensures c.in_ok-item.was in
    ap (λ b. if b then option_or item.seen (Some m.now) else item.seen) (sym (ne_eqb c.args.uid c.args.marked (λ e. c.if-marked-uid.false (sym e))))
    ∙ sym (marked_item m c.args.marked c.args.uid m.now item there)
