use Rattle.std.proofs.Common.{◌∙◌, refl, sym, ap, not, Some}
use Rattle.std.specs.Prelude.{filter}
use Rattle.std.specs.Option.{IsSome, option_copied_mut}
use Rattle.std.specs.Ordering.{nat_cmp, eq_by_cmp}
use Rattle.std.specs.Cmp.Lexicographic.{slice_cmp}
use Rattle.std.specs.BTreeMap.{get_by}
use Rattle.lists.specs.Ordered.{values_at}
use Rattle.lists.proofs.ById.{values_of, values_are, values_here, values_elsewhere}
use Rattle.lists.proofs.by_id.SortedById.take_out.Goals as goal
use Rattle.lists.proofs.by_id.SortedById.take_out.Goals.{in-Some, in_default}

pub returns-clause-at : goal.returns-clause-at
returns-clause-at g c = elim c.match-get_mut.branch [
  | in-Some w ↦ (
      let id = c.args.id.now in
      let list = w.remove.new.self in
      let found = sym c.get_mut.ensures.value ∙ ap option_copied_mut w.in-Some.is in
      let some : IsSome (get_by (slice_cmp nat_cmp id) c.self.inside.lists) = rw found refl in
      let values = ap values_of (sym found) ∙ sym (values_are c.self.inside.lists.entries id) ∙ ap (λ lists. values_at lists id) c.self.view_is in
      rw w.self-inside-is
      (values_here c.self.inside.lists.entries (c.get_mut.follows.lender list).entries id (Some list) ((c.get_mut.follows.holds list).3 some).0
      ∙ w.remove.ensures.values ∙ ap (filter (λ other. not (eq_by_cmp g.T.Ord.cmp c.args.value.now other))) values)
      )
  | in_default w ↦ (
      let id = c.args.id.now in
      let found = sym c.get_mut.ensures.value ∙ ap option_copied_mut w.in_default.is in
      let none = ap (λ lists. values_at lists id) (sym c.self.view_is) ∙ values_are c.self.inside.lists.entries id ∙ ap values_of found in
      rw w.self-inside-is
      (ap (λ m. values_at m.entries id) c.get_mut.follows.holds-at-none ∙ ap (λ lists. values_at lists id) c.self.view_is
      ∙ none ∙ ap (filter (λ other. not (eq_by_cmp g.T.Ord.cmp c.args.value.now other))) (sym none))
      )
]

pub returns-clause-others : goal.returns-clause-others
returns-clause-others g c other h = elim c.match-get_mut.branch [
  | in-Some w ↦ (
      let id = c.args.id.now in
      let list = w.remove.new.self in
      let found = sym c.get_mut.ensures.value ∙ ap option_copied_mut w.in-Some.is in
      let some : IsSome (get_by (slice_cmp nat_cmp id) c.self.inside.lists) = rw found refl in
      rw w.self-inside-is
      (values_elsewhere c.self.inside.lists.entries (c.get_mut.follows.lender list).entries id (Some list) ((c.get_mut.follows.holds list).3 some).0 other h
      ∙ ap (λ lists. values_at lists other) c.self.view_is)
      )
  | in_default w ↦ rw w.self-inside-is (ap (λ m. values_at m.entries other) c.get_mut.follows.holds-at-none ∙ ap (λ lists. values_at lists other) c.self.view_is)
]
