use Rattle.std.proofs.Common.{◌≡◌, ◌+◌, false, drop}
use Rattle.mail_address.specs.Tokens.{quoted_len}
use Rattle.mail_address.proofs.token.quoted_len.Given as goal

abbrev pub invariant-loop-at : goal.invariant-loop-at
invariant-loop-at l = l.at + quoted_len l.escaped (drop l.at l.bytes) ≡ quoted_len false l.bytes
