use Rattle.std.proofs.Common.{◌≡◌, map}
use Rattle.std.specs.Map.Iter.{deref_pair}
use Rattle.contacts.proofs.Pages.{mentioned_but}
use Rattle.contacts.proofs.mentions.Mentions.others.Given as goal

-- of the entries so far the addresses are there that are mentioned but for one
abbrev pub invariant-loop-addr : goal.invariant-loop-addr
invariant-loop-addr l = l.addrs.items ≡ mentioned_but l.fn.me (map deref_pair l.yielded)
