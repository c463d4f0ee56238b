use Rattle.std.proofs.Common.{◌∙◌, sym, ap, Some, None, refl}
use Rattle.std.specs.Option.{option_copied}
use Rattle.thread_links.proofs.KeptLaws.{looked, is_parent, is_no_parent}
use Rattle.thread_links.proofs.kept.parent.Goals as goal
use Rattle.thread_links.proofs.kept.parent.Goals.{in-Some+else-lt, in_default}

pub returns-then-lt : goal.returns-then-lt
returns-then-lt c =
    let es = c.args.kept.now.entries in
    let found = sym (looked es c.id-item.result) ∙ sym c.get.ensures.value ∙ ap option_copied c.in-Some.is in
    is_parent es c.args.cites.now c.as_slice-id-items.result.now c.loop-id.id-index c.id-item.result c.loop-id-test.true c.id-item.is c.loop-id.invariant c.in-Some.candidate.now found (sym c.lt.ensures ∙ c.if-lt.true)

pub loop-id-preserved : goal.loop-id-preserved
loop-id-preserved c =
    let es = c.args.kept.now.entries in
    let found = sym (looked es c.id-item.result) ∙ sym c.get.ensures.value in
    elim c.match-get.branch [
      | in-Some+else-lt w ↦ is_no_parent es c.args.cites.now c.as_slice-id-items.result.now c.loop-id.id-index c.id-item.result c.loop-id-test.true c.id-item.is c.loop-id.invariant (Some w.in-Some.candidate.now) (found ∙ ap option_copied w.in-Some.is) (sym w.lt.ensures ∙ w.if-lt.false)
      | in_default w ↦ is_no_parent es c.args.cites.now c.as_slice-id-items.result.now c.loop-id.id-index c.id-item.result c.loop-id-test.true c.id-item.is c.loop-id.invariant None (found ∙ ap option_copied w.in_default.is) refl
    ]
