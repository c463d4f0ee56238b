use Rattle.std.proofs.Common.{sym, ap, ◌∙◌, arith}
use Rattle.std.specs.Option.{option_copied}
use Rattle.indexes.specs.Kept.{deadline_at}
use Rattle.indexes.proofs.Mails.{lent}
use Rattle.repair.proofs.Draining.{none_drained, due_card, read_more, drained_more, timers_left, ids_noted}
use Rattle.repair.proofs.due.drain.Goals as goal

pub loop-uid-init : goal.loop-uid-init
loop-uid-init g c =
    none_drained c.args.mailbox.now.mailbox c.args.now c.args.timers.now c.args.ids.now.keys c.args.steps.now

pub unwrap-card-requires : goal.unwrap-card-requires
unwrap-card-requires g c =
    lent c.card.result _
    (c.card.ensures.card
    ∙ due_card c.args.mailbox.now.mailbox c.args.now c.keeps_rules.ensures c.args.timers.now c.requires.kept c.loop-uid.invariant
    c.due.new.self c.in-Some.uid c.in-Some.ensures.some c.in-Some.ensures.once)

pub loop-uid-preserved : goal.loop-uid-preserved
loop-uid-preserved g c =
    drained_more c.args.mailbox.now.mailbox c.args.now c.keeps_rules.ensures c.args.timers.now c.requires.kept c.loop-uid.invariant
    c.due.new.self c.in-Some.uid c.in-Some.ensures.some c.in-Some.ensures.once
    c.unwrap-card.result.now (sym c.card.ensures.card ∙ ap option_copied c.unwrap-card.ensures) c.note.new.ids.keys c.in_ok-note.ensures
    c.card.new.steps (omega (arith, c.card.ensures.cost))

pub returns-in_err-note-clause-cost : goal.returns-in_err-note-clause-cost
returns-in_err-note-clause-cost g c =
    read_more c.args.mailbox.now.mailbox c.args.now c.keeps_rules.ensures c.args.timers.now c.requires.kept c.loop-uid.invariant
    c.due.new.self c.in-Some.uid c.in-Some.ensures.some c.in-Some.ensures.once c.card.new.steps (omega (arith, c.card.ensures.cost))

pub returns-clause-ids : goal.returns-clause-ids
returns-clause-ids g c =
    ids_noted c.args.mailbox.now.mailbox c.args.now c.keeps_rules.ensures c.args.timers.now c.requires.kept c.loop-uid.invariant
    c.in_default.ensures.none.1

pub returns-clause-timers : goal.returns-clause-timers
returns-clause-timers g c uid =
    ap (λ timers. deadline_at timers uid) c.in_default.ensures.none.0
    ∙ timers_left c.args.mailbox.now.mailbox c.args.now c.keeps_rules.ensures c.args.timers.now c.requires.kept c.loop-uid.invariant
    c.in_default.ensures.none.1 uid
