use Rattle.std.proofs.Common.{◌∙◌, map-id, rules, sym, ap}
use Rattle.std.specs.BTreeSet.{contains}
use Rattle.std.proofs.lemmas.Bool.{not-false, not-true}
use Rattle.std.proofs.lemmas.Iterator.Adapters.{YieldsList-from_vec}
use Rattle.std.proofs.lemmas.Iterator.Consumers.{YieldsList-end}
use Rattle.lists.specs.Distinct.{firsts}
use Rattle.lists.proofs.DistinctLaws.{firsts_more, member_more}
use Rattle.lists.proofs.distinct.many_once.Goals as goal

pub loop-value-preserved-in_ok-push : goal.loop-value-preserved-in_ok-push
loop-value-preserved-in_ok-push g c =
    let eq = g.T.PartialEq.eq in
    let value = c.in-Some.value in
    let before = c.loop-value.invariant in
    let key = g.met.T.Exact.same value c.in_ok-clone.field-0 c.in_ok-clone.ensures.cases in
    let new = sym (before.members value) ∙ ap (contains g.T.Ord.cmp c.loop-value.seen) (sym key)
    ∙ not-true _ (sym c.in_ok-insert.ensures.added ∙ c.if-branch.true) in
    record {
      members = λ q. c.in_ok-insert.ensures.updates.0 q
          ∙ member_more eq c.loop-value.yielded value q _ _ (sym (g.met.T.Ord.matches_eq c.in_ok-clone.field-0 q) ∙ ap (λ k. eq k q) key) (before.members q);
      so_far = c.in_ok-push.ensures.items ∙ sym (firsts_more eq (λ x y z h k. g.met.T.Eq.laws.congr x y z h ∙ k) c.loop-value.yielded c.loop-value.once.items value _ before.so_far (sym new));
    }

pub loop-value-preserved : goal.loop-value-preserved
loop-value-preserved g c =
    let eq = g.T.PartialEq.eq in
    let value = c.in-Some.value in
    let before = c.loop-value.invariant in
    let key = g.met.T.Exact.same value c.in_ok-clone.field-0 c.in_ok-clone.ensures.cases in
    let known = sym (before.members value) ∙ ap (contains g.T.Ord.cmp c.loop-value.seen) (sym key)
    ∙ not-false _ (sym c.in_ok-insert.ensures.added ∙ c.if-branch.false) in
    record {
      members = λ q. c.in_ok-insert.ensures.updates.0 q
          ∙ member_more eq c.loop-value.yielded value q _ _ (sym (g.met.T.Ord.matches_eq c.in_ok-clone.field-0 q) ∙ ap (λ k. eq k q) key) (before.members q);
      so_far = sym (firsts_more eq (λ x y z h k. g.met.T.Eq.laws.congr x y z h ∙ k) c.loop-value.yielded c.loop-value.once.items value _ before.so_far (sym known));
    }

pub returns : goal.returns
returns g c =
    let road = YieldsList-from_vec {s = c.into_iter-value-iterator.result} c.args.values.items c.into_iter-value-iterator.ensures.into_iter_gives.0 (search rules) in
    let all = (YieldsList-end road c.loop-value.yielded c.loop-value.value-iterator c.loop-value.yielded_by c.next.result c.next.new.self c.in-None.is c.next.ensures.steps).0 in
    c.loop-value.invariant.so_far ∙ ap (firsts g.T.PartialEq.eq) (sym (map-id c.loop-value.yielded) ∙ all)
