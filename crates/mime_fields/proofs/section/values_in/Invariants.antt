use Rattle.std.proofs.Common.{◌≡◌, ◌+◌, ℕ, List, length}
use Rattle.std.specs.Option.{option_or}
use Rattle.mime_fields.specs.RawParams.{raw_params}
use Rattle.mime_fields.specs.Views.{AreNamed, first_value_under, held, params_in}
use Rattle.mime_fields.proofs.section.values_in.Given as goal

-- what was put before what is left
abbrev pub invariant-loop-firsts : goal.invariant-loop-firsts
invariant-loop-firsts l = record {
  named : AreNamed l.left;
  firsts : (q : List ℕ) → option_or (held l.firsts q) (first_value_under l.prefix (params_in l.left.left) q) ≡ first_value_under l.prefix (raw_params l.body) q;
  counted : l.count + length (params_in l.left.left) ≡ length (raw_params l.body);
}

abbrev pub decreases-loop-firsts : goal.decreases-loop-firsts
decreases-loop-firsts l = length (params_in l.left.left)
