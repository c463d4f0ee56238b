use Rattle.std.proofs.Common.{◌≡◌, Ok}
use Rattle.state_store.specs.Stands.{made}
use Rattle.state_store.proofs.restoring.make_changes.Given as goal

-- the changes so far are made
abbrev pub invariant-loop-at : goal.invariant-loop-at
invariant-loop-at l = made l.fn.mailbox.mailbox l.yielded ≡ Ok l.mailbox.mailbox
