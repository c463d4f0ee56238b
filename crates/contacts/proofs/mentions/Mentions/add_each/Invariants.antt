use Rattle.std.proofs.Common.{◌≡◌, ◌+◌, ℕ, List, take}
use Rattle.std.specs.List.{count_by}
use Rattle.std.specs.Str.{bytes_eq}
use Rattle.card_type.specs.Records.{capped}
use Rattle.contacts.specs.Kept.{mentions_at}
use Rattle.contacts.proofs.mentions.Mentions.add_each.Given as goal

-- the mentions so far are counted
abbrev pub invariant-loop-addr : goal.invariant-loop-addr
invariant-loop-addr l =
    (other : List ℕ) → capped (mentions_at l.self other) ≡ capped (mentions_at l.fn.self other + count_by (bytes_eq other) (take l.addr-index l.addrs))
