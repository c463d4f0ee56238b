use Rattle.std.proofs.Common.{◌≡◌, ◌-◌}
use Rattle.card_record.specs.Reading.{times_of}
use Rattle.tail_journal.specs.Groups.{next_change, changes_at}
use Rattle.tail_journal.proofs.body.read_changes.Given as goal

-- what is left to read leads to what all leads to
abbrev pub invariant-loop : goal.invariant-loop
invariant-loop l =
    times_of (λ _ rest. next_change l.end rest) l.changes.items (l.count - l.counter) l.rest ≡ changes_at l.end l.count l.fn.rest
