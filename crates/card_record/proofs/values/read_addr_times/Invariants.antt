use Rattle.std.proofs.Common.{◌≡◌, ◌-◌, []}
use Rattle.card_record.specs.Reading.{times_of, new_addr}
use Rattle.card_record.proofs.values.read_addr_times.Given as goal

abbrev pub invariant-loop : goal.invariant-loop
invariant-loop l = times_of new_addr l.values (l.count - l.counter) l.rest ≡ times_of new_addr [] l.count l.fn.rest
