use Rattle.std.proofs.Common.{◌≡◌, ◌∙◌, ℕ, List, Option, ap, length, subst}
use Rattle.std.specs.Prelude.{IfOk}
use Rattle.mime_fields.specs.RawParams.{raw_params}
use Rattle.mime_fields.specs.Sections.{param_value}
use Rattle.mime_fields.specs.Views.{first_value_under}
use Rattle.mime_fields.proofs.ParamLemmas.{value_under_name}
use Rattle.mime_fields.proofs.param.value_in.Goals as goal

pub returns : goal.returns
returns c =
    let P : Option (List ℕ) → Type 0 = λ text. IfOk c.param_value.result (λ value. value ≡ text) in
    let written = raw_params c.args.body.now in
    let name = c.args.name.now in
    subst P
    (ap (λ values. param_value values c.in_ok-values.values.count name) (c.in_ok-values.ensures.firsts ∙ ap (λ prefix. first_value_under prefix written) c.as_bytes.ensures.value)
    ∙ ap (λ count. param_value (first_value_under name written) count name) c.in_ok-values.ensures.count
    ∙ value_under_name written (length written) name)
    c.param_value.ensures
