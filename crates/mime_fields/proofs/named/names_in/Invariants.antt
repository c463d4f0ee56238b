use Rattle.std.proofs.Common.{◌≡◌, ◌++◌, length}
use Rattle.std.specs.String.{string_bytes}
use Rattle.mime_fields.specs.RawParams.{raw_params}
use Rattle.mime_fields.specs.Views.{names_text, params_in}
use Rattle.mime_fields.proofs.named.names_in.Given as goal

abbrev pub invariant-loop-raw_param : goal.invariant-loop-raw_param
invariant-loop-raw_param l = string_bytes l.names ++ names_text (params_in l.left) ≡ names_text (raw_params l.body)

abbrev pub decreases-loop-raw_param : goal.decreases-loop-raw_param
decreases-loop-raw_param l = length (params_in l.left)
