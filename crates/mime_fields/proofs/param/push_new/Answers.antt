use Rattle.std.proofs.Common.{cond, true, ap, ◌∙◌}
use Rattle.std.proofs.lemmas.Map.Text.{is_eq-slice_cmp}
use Rattle.mime_fields.specs.Views.{known}
use Rattle.mime_fields.proofs.param.push_new.Goals as goal

pub returns-in_ok-push-clause-seen : goal.returns-in_ok-push-clause-seen
returns-in_ok-push-clause-seen c = λ q.
    c.in_ok-insert.ensures.updates.0 (record { ref_ptr = (0, 0); now = q })
    ∙ ap (λ same. cond same true (known c.args.seen.now q)) (is_eq-slice_cmp c.args.name.now q)
