use Rattle.std.proofs.Common.{sym, ap, ◌∙◌, subst, Ok}
use Rattle.mailbox_model.specs.Mailbox.{IsMailbox}
use Rattle.box_state.specs.Kept.{with_entry}
use Rattle.box_state.proofs.mailbox.Mailbox.put_back.Goals as goal

pub put_card-requires-clause-rules : goal.put_card-requires-clause-rules
put_card-requires-clause-rules c =
    let e = c.args.entry in
    let rules = subst (λ read. IsMailbox (with_entry c.args.self.now.mailbox (record { uid = e.uid; arrival = e.arrival; seen = e.seen; read = read }))) c.in-Ok.is c.requires.rules in
    subst (λ m. IsMailbox (with_entry m (record { uid = e.uid; arrival = e.arrival; seen = e.seen; read = Ok c.in-Ok.card }))) (sym c.in_ok-reserve_card-in-Ok.ensures.same) rules

pub returns-in_ok-reserve_card-in-Ok-clause-mailbox : goal.returns-in_ok-reserve_card-in-Ok-clause-mailbox
returns-in_ok-reserve_card-in-Ok-clause-mailbox c =
    let e = c.args.entry in
    c.put_card.ensures.mailbox
    ∙ ap (λ m. with_entry m (record { uid = e.uid; arrival = e.arrival; seen = e.seen; read = Ok c.in-Ok.card })) c.in_ok-reserve_card-in-Ok.ensures.same
    ∙ ap (λ read. with_entry c.args.self.now.mailbox (record { uid = e.uid; arrival = e.arrival; seen = e.seen; read = read })) (sym c.in-Ok.is)
