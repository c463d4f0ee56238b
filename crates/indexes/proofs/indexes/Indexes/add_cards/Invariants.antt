use Rattle.std.proofs.Common.{◌≡◌, ◌+◌, length, take}
use Rattle.mailbox_model.specs.Present.{present}
use Rattle.indexes.specs.Kept.{AreOf}
use Rattle.indexes.proofs.indexes.Indexes.add_cards.Given as goal

-- they are of the present mails so far, each of which is read once
abbrev pub invariant-loop-spot : goal.invariant-loop-spot
invariant-loop-spot g l =
    let m = l.mailbox.mailbox in
    record {
      cards : AreOf m.me (take (length l.yielded) (present m)) l.self;
      rest : l.self ≡ record l.fn.self { links = l.self.links; effects = l.self.effects; contacts = l.self.contacts };
      read : l.steps ≡ l.fn.steps + length l.yielded;
    }
