use Rattle.std.proofs.Common.{◌++◌, ◌∷◌, ◌∙◌, [], List, ap, sym}
use Rattle.std.specs.List.{filter_map}
use Rattle.std.proofs.lemmas.List.{map_push}
use Rattle.mime_fields.specs.declared.param.Param.{Param}
use Rattle.mime_fields.specs.RawParams.{first_value, raw_params}
use Rattle.mime_fields.specs.Sections.{param_value}
use Rattle.mime_fields.specs.Params.{param_in}
use Rattle.mime_fields.specs.Views.{shown_names}
use Rattle.mime_fields.proofs.ParamLemmas.{param_none, param_some}
use Rattle.mime_fields.proofs.param.params.Goals as goal

pub loop-name-preserved-in_ok-push : goal.loop-name-preserved-in_ok-push
loop-name-preserved-in_ok-push c =
    let written = raw_params c.args.body.now in
    let name = c.in-Some.name.now in
    let names = shown_names c.loop-name.yielded in
    let found = c.loop-name.found.items in
    let text = c.in_ok-value.ensures
    ∙ ap (λ values. param_value values c.in_ok-values.values.count name) c.in_ok-values.ensures.firsts
    ∙ ap (λ count. param_value (first_value written) count name) c.in_ok-values.ensures.count in
    record {
      can_next = tt;
      ends = tt;
      so_far = c.in_ok-push.ensures.items
          ∙ ap (λ n. found ++ record { name = n; value = c.in-Some-2.value } ∷ []) (c.from-name.ensures ∙ c.in_ok-from_str.ensures.ok)
          ∙ ap (λ (ps : List Param). ps ++ record { name = name; value = c.in-Some-2.value } ∷ []) c.loop-name.invariant.so_far
          ∙ param_some written names name c.in-Some-2.value (sym text ∙ c.in-Some-2.is)
          ∙ ap (filter_map (param_in written)) (sym (map_push (λ n. n.now) c.loop-name.yielded c.in-Some.name));
    }

pub loop-name-preserved : goal.loop-name-preserved
loop-name-preserved c =
    let written = raw_params c.args.body.now in
    let name = c.in-Some.name.now in
    let names = shown_names c.loop-name.yielded in
    let text = c.in_ok-value.ensures
    ∙ ap (λ values. param_value values c.in_ok-values.values.count name) c.in_ok-values.ensures.firsts
    ∙ ap (λ count. param_value (first_value written) count name) c.in_ok-values.ensures.count in
    record {
      can_next = tt;
      ends = tt;
      so_far = c.loop-name.invariant.so_far
          ∙ param_none written names name (sym text ∙ c.in_default.is)
          ∙ ap (filter_map (param_in written)) (sym (map_push (λ n. n.now) c.loop-name.yielded c.in-Some.name));
    }
