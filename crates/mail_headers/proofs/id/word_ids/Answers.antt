use Rattle.std.proofs.Common.{◌==◌, filter, rules, tests, ap, ◌∙◌}
use Rattle.std.specs.List.{list_any}
use Rattle.std.proofs.lemmas.Iterator.Consumers.{YieldsList-from_filter, YieldsList-end}
use Rattle.std.proofs.lemmas.Iterator.Splits.{YieldsList-from_slice_split}
use Rattle.kit.specs.Ids.{is_id}
use Rattle.mail_headers.proofs.id.word_ids.Goals as goal

pub returns : goal.returns
returns c =
    let words =
    YieldsList-from_filter _ (list_any (λ b. b == 64))
    (YieldsList-from_slice_split _ _ c.args.body.now (cc) (cc) (cc) (λ x r q k. search (rules, tests)))
    (cc) (λ x r q k. search (rules, tests)) in
    c.loop-word.invariant ∙ ap (filter is_id) (YieldsList-end words c.loop-word.yielded _ c.loop-word.yielded_by _ _ c.in-None.is c.next.ensures.steps).0
