use Rattle.std.proofs.Common.{◌≡◌, ◌-◌, ℕ, List, take}
use Rattle.std.specs.List.{count_by}
use Rattle.std.specs.Str.{bytes_eq}
use Rattle.contacts.specs.Kept.{mentions_at}
use Rattle.contacts.proofs.mentions.Mentions.remove_each.Given as goal

-- the mentions so far are taken away
abbrev pub invariant-loop-addr : goal.invariant-loop-addr
invariant-loop-addr l =
    (other : List ℕ) → mentions_at l.self other ≡ mentions_at l.fn.self other - count_by (bytes_eq other) (take l.addr-index l.addrs)
