use Rattle.std.proofs.Common.{◌∙◌, refl, sym, ap, Some, arith}
use Rattle.std.specs.Option.{IsSome, option_copied_mut}
use Rattle.std.specs.Ordering.{nat_cmp}
use Rattle.std.specs.Cmp.Lexicographic.{slice_cmp}
use Rattle.std.specs.BTreeMap.{get_by}
use Rattle.lists.specs.Sorted.{insert_by}
use Rattle.lists.specs.Ordered.{values_at, spare_at}
use Rattle.lists.proofs.ById.{values_of, spare_of, values_are, spare_is, values_here, values_elsewhere}
use Rattle.lists.proofs.by_id.SortedById.insert.Goals as goal
use Rattle.lists.proofs.by_id.SortedById.insert.Goals.{in-Some, in_default}

pub insert-requires-clause-room : goal.insert-requires-clause-room
insert-requires-clause-room g c =
    let found = sym c.get_mut.ensures.value ∙ ap option_copied_mut c.in-Some.is in
    let spare = ap (λ lists. spare_at lists c.args.id.now) (sym c.self.view_is) ∙ spare_is c.self.inside.lists.entries c.args.id.now ∙ ap spare_of found in
    rw (sym spare) c.requires.room

pub insert-requires-clause-absent : goal.insert-requires-clause-absent
insert-requires-clause-absent g c =
    let found = sym c.get_mut.ensures.value ∙ ap option_copied_mut c.in-Some.is in
    let values = ap (λ lists. values_at lists c.args.id.now) (sym c.self.view_is) ∙ values_are c.self.inside.lists.entries c.args.id.now ∙ ap values_of found in
    rw (sym values) c.requires.absent

pub returns-clause-at : goal.returns-clause-at
returns-clause-at g c = elim c.match-get_mut.branch [
  | in-Some w ↦ (
      let id = c.args.id.now in
      let list = w.insert.new.self in
      let found = sym c.get_mut.ensures.value ∙ ap option_copied_mut w.in-Some.is in
      let some : IsSome (get_by (slice_cmp nat_cmp id) c.self.inside.lists) = rw found refl in
      let values = ap values_of (sym found) ∙ sym (values_are c.self.inside.lists.entries id) ∙ ap (λ lists. values_at lists id) c.self.view_is in
      rw w.self-inside-is
      (values_here c.self.inside.lists.entries (c.get_mut.follows.lender list).entries id (Some list) ((c.get_mut.follows.holds list).3 some).0
      ∙ w.insert.ensures.values ∙ ap (insert_by g.T.Ord.cmp c.args.value) values)
      )
  | in_default w ↦ (
      let id = c.args.id.now in
      let found = sym c.get_mut.ensures.value ∙ ap option_copied_mut w.in_default.is in
      let spare = ap (λ lists. spare_at lists id) (sym c.self.view_is) ∙ spare_is c.self.inside.lists.entries id ∙ ap spare_of found in
      absurd (omega (arith, spare, c.requires.room))
      )
]

pub returns-clause-others : goal.returns-clause-others
returns-clause-others g c other h = elim c.match-get_mut.branch [
  | in-Some w ↦ (
      let id = c.args.id.now in
      let list = w.insert.new.self in
      let found = sym c.get_mut.ensures.value ∙ ap option_copied_mut w.in-Some.is in
      let some : IsSome (get_by (slice_cmp nat_cmp id) c.self.inside.lists) = rw found refl in
      rw w.self-inside-is
      (values_elsewhere c.self.inside.lists.entries (c.get_mut.follows.lender list).entries id (Some list) ((c.get_mut.follows.holds list).3 some).0 other h
      ∙ ap (λ lists. values_at lists other) c.self.view_is)
      )
  | in_default w ↦ rw w.self-inside-is (ap (λ m. values_at m.entries other) c.get_mut.follows.holds-at-none ∙ ap (λ lists. values_at lists other) c.self.view_is)
]
