use Rattle.std.proofs.Common.{◌≡◌, ◌++◌, take}
use Rattle.thread_links.proofs.cites.push_copies.Given as goal

abbrev pub invariant-loop-addr : goal.invariant-loop-addr
invariant-loop-addr l = l.people.items ≡ l.fn.people.items ++ take l.addr-index l.addrs
