use Rattle.std.proofs.Common.{◌≡◌, ◌+◌, length, drop}
use Rattle.std.specs.List.{common_prefix_len}
use Rattle.app_listener.specs.Hearing.{is_origin}
use Rattle.app_listener.proofs.heard.count_unmoved.Given as goal

-- those so far are the same
abbrev pub invariant-loop-origin : goal.invariant-loop-origin
invariant-loop-origin l =
    record {
      next : (goal.iterator-loop-origin).can_next l.origin-iterator;
      finite : (goal.iterator-loop-origin).is_finite l.origin-iterator;
      count : l.count ≡ length l.yielded;
      same : common_prefix_len is_origin l.heard l.rows ≡ l.count + common_prefix_len is_origin (drop l.count l.heard) (drop l.count l.rows);
    }
