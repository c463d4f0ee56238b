use Rattle.std.proofs.lemmas.Result.{err_from_is_err_and}
use Rattle.card_record.proofs.Loop.{ends, goes_on, is_done}
use Rattle.tail_journal.specs.Groups.{next_change, changes_at}
use Rattle.tail_journal.proofs.body.read_changes.Goals as goal

pub returns-in_err-next_change : goal.returns-in_err-next_change
returns-in_err-next_change c =
    let p = err_from_is_err_and c.from_residual.result c.from_residual.ensures.1 in
    rw (p.1, p.2)
    (ends (λ _ rest. next_change c.args.end rest) c.args.count (changes_at c.args.end c.args.count c.args.rest.now) c.in_err-next_change.field-0.0
    c.loop.changes.items c.loop.counter c.loop.rest c.loop-test.true c.in_err-next_change.ensures c.loop.invariant)

pub loop-preserved : goal.loop-preserved
loop-preserved c =
    rw c.in_ok-push.ensures.items
    (goes_on (λ _ rest. next_change c.args.end rest) c.args.count (changes_at c.args.end c.args.count c.args.rest.now) c.loop.changes.items c.loop.counter c.loop.rest
    c.in_ok-next_change.field-0 c.next_change.new.rest c.loop-test.true c.in_ok-next_change.ensures c.loop.invariant)

pub returns : goal.returns
returns c =
    is_done (λ _ rest. next_change c.args.end rest) c.args.count (changes_at c.args.end c.args.count c.args.rest.now) c.loop.changes.items c.loop.counter c.loop.rest
    c.loop-test.false c.loop.invariant
