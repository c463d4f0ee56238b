use Rattle.std.proofs.Common.{◌≡◌}
use Rattle.std.specs.Prelude.{filter_map}
use Rattle.mime_fields.specs.Params.{param_in}
use Rattle.mime_fields.specs.RawParams.{raw_params}
use Rattle.mime_fields.specs.Views.{shown_names}
use Rattle.mime_fields.proofs.param.params.Given as goal

abbrev pub invariant-loop-name : goal.invariant-loop-name
invariant-loop-name l = record {
  can_next : (goal.iterator-loop-name).can_next l.name-iterator;
  ends : (goal.iterator-loop-name).is_finite l.name-iterator;
  so_far : l.found.items ≡ filter_map (param_in (raw_params l.body)) (shown_names l.yielded);
}
