use Rattle.std.proofs.Common.{◌≡◌, take}
use Rattle.std.specs.List.{count_by}
use Rattle.transfer_code.specs.Base64.{is_symbol}
use Rattle.transfer_code.proofs.sextets.count_few.Given as goal

abbrev pub invariant-loop-b : goal.invariant-loop-b
invariant-loop-b l = l.count ≡ count_by is_symbol (take l.b-index l.bytes)
