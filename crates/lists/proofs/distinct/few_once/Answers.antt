use Rattle.std.proofs.Common.{ap, false, sym, true, ◌∙◌}
use Rattle.std.specs.List.{list_any}
use Rattle.lists.proofs.DistinctLaws.{firsts_next}
use Rattle.lists.proofs.distinct.few_once.Goals as goal

pub loop-value-preserved-in-Continue-1 : goal.loop-value-preserved-in-Continue-1
loop-value-preserved-in-Continue-1 g c =
    let eq = g.T.PartialEq.eq in
    let value = c.in-Some.value in
    let new = sym c.if-not-contains.true ∙ c.contains.ensures.value ∙ ap (list_any (λ x. eq x value)) c.deref.ensures.value in
    c.in_ok-push.ensures.items
    ∙ sym (firsts_next eq (λ x y z h k. g.met.T.Eq.laws.congr x y z h ∙ k) c.loop-value.yielded c.loop-value.once.items value false c.loop-value.invariant new)

pub loop-value-preserved : goal.loop-value-preserved
loop-value-preserved g c =
    let eq = g.T.PartialEq.eq in
    let value = c.in-Some.value in
    let known = sym c.if-not-contains.false ∙ c.contains.ensures.value ∙ ap (list_any (λ x. eq x value)) c.deref.ensures.value in
    sym (firsts_next eq (λ x y z h k. g.met.T.Eq.laws.congr x y z h ∙ k) c.loop-value.yielded c.loop-value.once.items value true c.loop-value.invariant known)
