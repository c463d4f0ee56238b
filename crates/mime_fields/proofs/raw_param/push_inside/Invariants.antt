use Rattle.std.proofs.Common.{◌≡◌, ◌++◌, drop}
use Rattle.mime_fields.specs.RawParams.{inside, inside_from}
use Rattle.mime_fields.proofs.raw_param.push_inside.Given as goal

abbrev pub invariant-loop-byte : goal.invariant-loop-byte
invariant-loop-byte l = l.out.items ++ inside_from l.escaped (drop l.byte-index l.bytes) ≡ l.fn.out.items ++ inside l.bytes
