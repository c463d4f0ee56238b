use Rattle.std.proofs.Common.{◌≡◌}
use Rattle.contacts.proofs.mentions.Mentions.share_each.Given as goal

-- the addresses stay
abbrev pub invariant-loop-index : goal.invariant-loop-index
invariant-loop-index l = l.addrs ≡ l.fn.addrs
