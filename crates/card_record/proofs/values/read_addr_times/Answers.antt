use Rattle.std.proofs.Common.{◌≡◌, ◌++◌, ◌∷◌, []}
use Rattle.std.proofs.lemmas.Result.{err_from_is_err_and}
use Rattle.card_record.specs.Reading.{times_of, new_addr}
use Rattle.card_record.proofs.Loop.{ends, goes_on, is_done}
use Rattle.card_record.proofs.values.read_addr_times.Goals as goal

pub returns-in_err-addr : goal.returns-in_err-addr
returns-in_err-addr c =
    let p = err_from_is_err_and c.from_residual.result c.from_residual.ensures.1 in
    rw (p.1, p.2) (ends new_addr c.args.count (times_of new_addr [] c.args.count c.args.rest.now) c.in_err-addr.field-0.0 c.loop.values c.loop.counter c.loop.rest c.loop-test.true (rw (← c.as_slice.ensures) c.in_err-addr.ensures) c.loop.invariant)

pub loop-preserved : goal.loop-preserved
loop-preserved c =
    let value = c.in_ok-addr.addr in
    let e : c.push.new.self ≡ c.loop.values ++ value ∷ [] = c.in_ok-push.ensures.ok in
    rw e (goes_on new_addr c.args.count (times_of new_addr [] c.args.count c.args.rest.now) c.loop.values c.loop.counter c.loop.rest value c.read_new_addr.new.rest c.loop-test.true (rw (← c.as_slice.ensures) c.in_ok-addr.ensures) c.loop.invariant)

pub returns : goal.returns
returns c = is_done new_addr c.args.count (times_of new_addr [] c.args.count c.args.rest.now) c.loop.values c.loop.counter c.loop.rest c.loop-test.false c.loop.invariant
