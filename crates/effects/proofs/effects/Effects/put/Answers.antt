use Rattle.std.proofs.Common.{◌∙◌, refl, sym, ap, Some}
use Rattle.std.specs.Option.{IsSome, option_copied_mut}
use Rattle.std.specs.Ordering.{nat_cmp}
use Rattle.std.specs.Cmp.Lexicographic.{slice_cmp}
use Rattle.std.specs.BTreeMap.{get_by}
use Rattle.effects.specs.Named.{named, put_once}
use Rattle.effects.proofs.ById.{spots_of, looked, here, elsewhere}
use Rattle.effects.proofs.effects.Effects.put.Goals as goal

pub returns-in-Some-clause-at : goal.returns-in-Some-clause-at
returns-in-Some-clause-at c =
    let id = c.args.id.now in
    let given = c.put.new.self in
    let found = sym c.get_mut.ensures.value ∙ ap option_copied_mut c.in-Some.is in
    let some : IsSome (get_by (slice_cmp nat_cmp id) c.self.inside.by_id) = rw found refl in
    let before = ap spots_of (sym found ∙ looked c.self.inside.by_id.entries id) ∙ ap (λ spots. named spots id) c.self.view_is in
    ap spots_of (here c.self.inside.by_id.entries (c.get_mut.follows.lender given).entries id (Some given) ((c.get_mut.follows.holds given).3 some).0)
    ∙ c.in_ok-put.ensures ∙ ap (put_once c.args.spot) before

pub returns-in-Some-clause-others : goal.returns-in-Some-clause-others
returns-in-Some-clause-others c other h =
    let id = c.args.id.now in
    let given = c.put.new.self in
    let found = sym c.get_mut.ensures.value ∙ ap option_copied_mut c.in-Some.is in
    let some : IsSome (get_by (slice_cmp nat_cmp id) c.self.inside.by_id) = rw found refl in
    ap spots_of (elsewhere c.self.inside.by_id.entries (c.get_mut.follows.lender given).entries id (Some given) ((c.get_mut.follows.holds given).3 some).0 other h)
    ∙ ap (λ spots. named spots other) c.self.view_is

pub returns-clause-at : goal.returns-clause-at
returns-clause-at c =
    let key = c.in_ok-copy.field-0 in
    let id = c.args.id.now in
    let entries = c.get_mut.follows.lender-at-none.entries in
    let given = c.put-2.new.self in
    let found = sym c.get_mut.ensures.value ∙ ap option_copied_mut c.in_default.is in
    let none = ap (λ spots. named spots id) (sym c.self.view_is) ∙ ap spots_of (sym (looked c.self.inside.by_id.entries id) ∙ found) in
    ap (λ other. named c.insert.new.self.entries other) (sym c.in_ok-copy.ensures)
    ∙ ap spots_of (here entries c.insert.new.self.entries key (Some given) c.in_ok-insert.ensures.updates.0)
    ∙ c.in_ok-put-2.ensures ∙ ap (put_once c.args.spot) (c.new-named.ensures ∙ sym none)

pub returns-clause-others : goal.returns-clause-others
returns-clause-others c other h =
    let key = c.in_ok-copy.field-0 in
    let entries = c.get_mut.follows.lender-at-none.entries in
    let given = c.put-2.new.self in
    ap spots_of (elsewhere entries c.insert.new.self.entries key (Some given) c.in_ok-insert.ensures.updates.0 other (rw c.in_ok-copy.ensures h))
    ∙ ap (λ m. named m.entries other) c.get_mut.follows.holds-at-none ∙ ap (λ spots. named spots other) c.self.view_is
