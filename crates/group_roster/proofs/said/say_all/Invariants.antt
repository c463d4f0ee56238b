use Rattle.std.proofs.Common.{◌≡◌, ◌++◌, List, take}
use Rattle.lists.specs.Distinct.{each_once}
use Rattle.mailbox_model.specs.Lists.{Bytes}
use Rattle.group_roster.proofs.said.say_all.Given as goal

abbrev pub invariant-loop-addr : goal.invariant-loop-addr
invariant-loop-addr l = (before : List Bytes) → l.fn.said.keys ≡ each_once before → l.said.keys ≡ each_once (before ++ take l.addr-index l.addrs)
