use Rattle.std.proofs.Common.{◌≡◌}
use Rattle.box_state.specs.Kept.{mailbox_of}
use Rattle.box_state.specs.declared.ready.Ready.TheVariants.{Unready}
use Rattle.box_state.proofs.mailbox.Mailbox.restore.Given as goal

-- the items so far are put back
abbrev pub invariant-loop-item : goal.invariant-loop-item
invariant-loop-item l = record {
  made : l.mailbox.mailbox ≡ mailbox_of l.fn.me l.fn.now l.fn.next_uid l.yielded;
  ready : l.mailbox.ready ≡ Unready;
}
