use Rattle.std.proofs.Common.{◌≡◌, ◌-◌, []}
use Rattle.card_record.specs.Reading.{times_of}
use Rattle.card_record.proofs.values.read_times.Given as goal

abbrev pub invariant-loop : goal.invariant-loop
invariant-loop g l = times_of (λ _. g.T.Field.at) l.values (l.count - l.counter) l.rest ≡ times_of (λ _. g.T.Field.at) [] l.count l.fn.rest
