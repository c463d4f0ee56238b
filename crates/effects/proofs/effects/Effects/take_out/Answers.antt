use Rattle.std.proofs.Common.{◌∙◌, refl, sym, ap, Some}
use Rattle.std.specs.Option.{IsSome, option_copied_mut}
use Rattle.std.specs.Ordering.{nat_cmp}
use Rattle.std.specs.Cmp.Lexicographic.{slice_cmp}
use Rattle.std.specs.BTreeMap.{get_by}
use Rattle.effects.specs.Named.{named, without_spot}
use Rattle.effects.proofs.ById.{spots_of, looked, here, elsewhere}
use Rattle.effects.proofs.effects.Effects.take_out.Goals as goal
use Rattle.effects.proofs.effects.Effects.take_out.Goals.{in-Some, in_default}

pub returns-clause-at : goal.returns-clause-at
returns-clause-at c = elim c.match-get_mut.branch [
  | in-Some w ↦ (
      let id = c.args.id.now in
      let given = w.remove.new.self in
      let found = sym c.get_mut.ensures.value ∙ ap option_copied_mut w.in-Some.is in
      let some : IsSome (get_by (slice_cmp nat_cmp id) c.self.inside.by_id) = rw found refl in
      let before = ap spots_of (sym found ∙ looked c.self.inside.by_id.entries id) ∙ ap (λ spots. named spots id) c.self.view_is in
      rw w.self-inside-is
      (ap spots_of (here c.self.inside.by_id.entries (c.get_mut.follows.lender given).entries id (Some given) ((c.get_mut.follows.holds given).3 some).0)
      ∙ w.remove.ensures ∙ ap (without_spot c.args.spot.now) before)
      )
  | in_default w ↦ (
      let id = c.args.id.now in
      let found = sym c.get_mut.ensures.value ∙ ap option_copied_mut w.in_default.is in
      let none = ap (λ spots. named spots id) (sym c.self.view_is) ∙ ap spots_of (sym (looked c.self.inside.by_id.entries id) ∙ found) in
      rw w.self-inside-is
      (ap (λ m. named m.entries id) c.get_mut.follows.holds-at-none ∙ ap (λ spots. named spots id) c.self.view_is
      ∙ none ∙ ap (without_spot c.args.spot.now) (sym none))
      )
]

pub returns-clause-others : goal.returns-clause-others
returns-clause-others c other h = elim c.match-get_mut.branch [
  | in-Some w ↦ (
      let id = c.args.id.now in
      let given = w.remove.new.self in
      let found = sym c.get_mut.ensures.value ∙ ap option_copied_mut w.in-Some.is in
      let some : IsSome (get_by (slice_cmp nat_cmp id) c.self.inside.by_id) = rw found refl in
      rw w.self-inside-is
      (ap spots_of (elsewhere c.self.inside.by_id.entries (c.get_mut.follows.lender given).entries id (Some given) ((c.get_mut.follows.holds given).3 some).0 other h)
      ∙ ap (λ spots. named spots other) c.self.view_is)
      )
  | in_default w ↦ rw w.self-inside-is (ap (λ m. named m.entries other) c.get_mut.follows.holds-at-none ∙ ap (λ spots. named spots other) c.self.view_is)
]
