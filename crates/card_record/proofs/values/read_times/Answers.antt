use Rattle.std.proofs.Common.{◌≡◌, ◌++◌, ◌∷◌, []}
use Rattle.std.proofs.lemmas.Result.{err_from_is_err_and}
use Rattle.card_record.specs.Reading.{times_of}
use Rattle.card_record.proofs.Loop.{ends, goes_on, is_done}
use Rattle.card_record.proofs.values.read_times.Goals as goal

pub returns-in_err-read : goal.returns-in_err-read
returns-in_err-read g c =
    let p = err_from_is_err_and c.from_residual.result c.from_residual.ensures.1 in
    rw (p.1, p.2) (ends (λ _. g.T.Field.at) c.args.count (times_of (λ _. g.T.Field.at) [] c.args.count c.args.rest.now) c.in_err-read.field-0.0 c.loop.values c.loop.counter c.loop.rest c.loop-test.true c.in_err-read.ensures c.loop.invariant)

pub loop-preserved : goal.loop-preserved
loop-preserved g c =
    let value = c.in_ok-read.field-0 in
    let e : c.push.new.self ≡ c.loop.values ++ value ∷ [] = c.in_ok-push.ensures.ok in
    rw e (goes_on (λ _. g.T.Field.at) c.args.count (times_of (λ _. g.T.Field.at) [] c.args.count c.args.rest.now) c.loop.values c.loop.counter c.loop.rest value c.read.new.rest c.loop-test.true c.in_ok-read.ensures c.loop.invariant)

pub returns : goal.returns
returns g c = is_done (λ _. g.T.Field.at) c.args.count (times_of (λ _. g.T.Field.at) [] c.args.count c.args.rest.now) c.loop.values c.loop.counter c.loop.rest c.loop-test.false c.loop.invariant
