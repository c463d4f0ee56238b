use Rattle.std.proofs.Common.{◌≡◌, ◌++◌, length, map}
use Rattle.kit.specs.Lines.{content, raw_lines}
use Rattle.mail_headers.specs.Fields.{continuation}
use Rattle.mail_headers.proofs.field.push_continuation.Given as goal

abbrev pub invariant-loop-line : goal.invariant-loop-line
invariant-loop-line l =
    l.body.items ++ continuation (map content (raw_lines l.left)) ≡ l.fn.body.items ++ continuation (map content (raw_lines l.following))

abbrev pub decreases-loop-line : goal.decreases-loop-line
decreases-loop-line l = length l.left
