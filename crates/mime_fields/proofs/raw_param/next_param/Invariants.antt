use Rattle.std.proofs.Common.{◌≡◌, length}
use Rattle.mime_fields.specs.Views.{params_in, segments_in}
use Rattle.mime_fields.proofs.raw_param.next_param.Given as goal

abbrev pub invariant-loop-segment : goal.invariant-loop-segment
invariant-loop-segment l = params_in l.left ≡ params_in l.fn.segments

abbrev pub decreases-loop-segment : goal.decreases-loop-segment
decreases-loop-segment l = length (segments_in l.left)
