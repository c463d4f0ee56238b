use Rattle.std.proofs.Common.{sym, ap, ◌∙◌, Some}
use Rattle.std.specs.Option.{option_map}
use Rattle.mailbox_model.specs.Present.{present}
use Rattle.mailbox_model.specs.States.{shown_as}
use Rattle.indexes.specs.Kept.{deadline_among, deadline_at}
use Rattle.indexes.proofs.Grown.{shown_is}
use Rattle.indexes.proofs.Mails.{lent, lent_is}
use Rattle.repair.proofs.Contents.{card_there, deadline_there, mail_there, spot_there}
use Rattle.repair.proofs.Deadlines.{renewed_by}
use Rattle.repair.proofs.settle.show.Goals as goal

pub unwrap-card-requires : goal.unwrap-card-requires
unwrap-card-requires g c =
    let n = c.args.view.now in
    let s = c.args.spot.now in
    let t = c.requires.there in
    lent c.card.result t.0.placed.card (c.card.ensures.card ∙ card_there n c.keeps_rules.ensures s.id t.0 t.1 s t.2)

pub shown_at-requires-clause-there : goal.shown_at-requires-clause-there
shown_at-requires-clause-there g c =
    let t = c.requires.there in
    spot_there c.args.view.now c.keeps_rules.ensures c.args.spot.now.id t.0 t.1 c.args.spot.now t.2

pub returns-clause-shown : goal.returns-clause-shown
returns-clause-shown g c =
    let n = c.args.view.now in
    let s = c.args.spot.now in
    let t = c.requires.there in
    let rules = c.keeps_rules.ensures in
    let own = lent_is c.card.result t.0.placed.card c.unwrap-card.result (c.card.ensures.card ∙ card_there n rules s.id t.0 t.1 s t.2) c.unwrap-card.ensures in
    ap (option_map (shown_as n)) t.1
    ∙ ap Some (sym (shown_is n t.0 s c.unwrap-card.result.now c.in_ok-shown.shown.mark (sym t.2) own (c.in_ok-shown.ensures.mark t.0 (mail_there n rules s.id t.0 t.1 s t.2))))

pub returns-clause-timers : goal.returns-clause-timers
returns-clause-timers g c uid =
    let n = c.args.view.now in
    let s = c.args.spot.now in
    let t = c.requires.there in
    let rules = c.keeps_rules.ensures in
    let own = c.in_ok-shown.ensures.deadline t.0 (mail_there n rules s.id t.0 t.1 s t.2) ∙ sym (deadline_there n rules s.id t.0 t.1 s t.2) in
    c.in_ok-renew_deadline.ensures uid
    ∙ renewed_by (deadline_among n (present n)) s.uid uid c.in_ok-shown.shown.deadline (deadline_at c.args.timers.now uid) own
