use Rattle.std.proofs.Common.{◌≡◌, ◌≤◌, ◌+◌, false, length}
use Rattle.touched_chats.specs.Costs.{change_costs}
use Rattle.trial.specs.Trials.{after_allowed, arrivals}
use Rattle.trial.proofs.made.arrive_all.Given as goal

-- what is still to arrive leads to the same mailbox, and costs what is left
abbrev pub invariant-loop-change : goal.invariant-loop-change
invariant-loop-change g l = record {
  current : l.engine.stale ≡ false;
  usable : l.mails.refused ≡ false;
  same : after_allowed l.fn.engine.mailbox (arrivals l.fn.engine.mailbox.next_uid l.fn.mails.mails)
      ≡ after_allowed l.engine.mailbox (arrivals l.engine.mailbox.next_uid l.mails.mails);
  cost : l.steps + change_costs l.engine.mailbox (arrivals l.engine.mailbox.next_uid l.mails.mails)
      ≤ l.fn.steps + change_costs l.fn.engine.mailbox (arrivals l.fn.engine.mailbox.next_uid l.fn.mails.mails);
}

abbrev pub decreases-loop-change : goal.decreases-loop-change
decreases-loop-change g l = length l.mails.mails
