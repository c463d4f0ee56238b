use Rattle.std.proofs.Common.{◌≡◌, ◌≤◌, ◌+◌, length, take}
use Rattle.mailbox_model.specs.Present.{present}
use Rattle.indexes.specs.Costs.{pairs}
use Rattle.indexes.specs.Kept.{AreDeadlines, AreStates, contents_of}
use Rattle.indexes.proofs.indexes.Indexes.add_rows.Given as goal

-- the states and the deadlines are those of the present mails so far
abbrev pub invariant-loop-spot : goal.invariant-loop-spot
invariant-loop-spot g l =
    let m = l.mailbox.mailbox in
    let so_far = take (length l.yielded) (present m) in
    record {
      states : AreStates m so_far l.self.chats;
      deadlines : AreDeadlines m so_far l.self.timers;
      rest : l.self ≡ record l.fn.self { chats = l.self.chats; timers = l.self.timers };
      read : l.steps ≤ l.fn.steps + (length (contents_of so_far) + pairs m (contents_of so_far));
    }
