use Rattle.std.proofs.Common.{◌≡◌, map, Ok}
use Rattle.tail_journal.specs.Read.{applied_of}
use Rattle.state_store.specs.Stands.{after_groups}
use Rattle.state_store.specs.States.{IsWithin, state_of}
use Rattle.state_store.proofs.restoring.make_groups.Given as goal

-- the groups so far are made
abbrev pub invariant-loop-group : goal.invariant-loop-group
invariant-loop-group l = record {
  made : after_groups (state_of (l.fn.mailbox, l.fn.position)) (map applied_of l.yielded) ≡ Ok (state_of (l.mailbox, l.position));
  within : IsWithin l.position;
}
