use Rattle.std.proofs.Common.{◌≡◌, ◌≤◌, ◌-◌, length, drop}
use Rattle.tail_journal.specs.Frames.{frames}
use Rattle.tail_journal.specs.Groups.{reading_on, reading}
use Rattle.tail_journal.proofs.Steps.{so_far}
use Rattle.tail_journal.proofs.reading.read_groups.Given as goal

-- what is left to read leads to what all leads to
abbrev pub invariant-loop-groups : goal.invariant-loop-groups
invariant-loop-groups l =
    record {
      leads : so_far l.groups.items (reading_on l.at l.count (frames (drop l.at l.bytes))) ≡ reading l.fn.count l.bytes;
      within : l.at ≤ length l.bytes;
    }

abbrev pub decreases-loop-groups : goal.decreases-loop-groups
decreases-loop-groups l = length l.bytes - l.at
