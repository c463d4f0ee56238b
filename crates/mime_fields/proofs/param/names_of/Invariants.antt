use Rattle.std.proofs.Common.{◌≡◌, ◌++◌, ℕ, List, length, map}
use Rattle.std.specs.List.{list_any}
use Rattle.std.specs.Prelude.{bytes_eq}
use Rattle.lists.specs.Distinct.{each_once}
use Rattle.mime_fields.specs.Params.{base_name}
use Rattle.mime_fields.specs.RawParams.{RawParam, raw_params}
use Rattle.mime_fields.specs.Views.{AreNamed, known, params_in, shown_names}
use Rattle.mime_fields.proofs.param.names_of.Given as goal

-- the names of the parameters that were read
abbrev pub invariant-loop-seen : goal.invariant-loop-seen
invariant-loop-seen l =
    (before : List RawParam) × (before ++ params_in l.left.left ≡ raw_params l.body)
    × ((q : List ℕ) → known l.seen q ≡ list_any (λ x. bytes_eq x q) (map (λ param. base_name param.name) before))
    × (shown_names l.found.items ≡ each_once (map (λ param. base_name param.name) before))
    × AreNamed l.left

abbrev pub decreases-loop-seen : goal.decreases-loop-seen
decreases-loop-seen l = length (params_in l.left.left)
