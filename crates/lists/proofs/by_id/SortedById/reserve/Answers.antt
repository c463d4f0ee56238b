use Rattle.std.proofs.Common.{◌∙◌, refl, sym, ap, subst, Some, ◌<◌}
use Rattle.std.specs.Option.{IsSome, option_copied_mut}
use Rattle.std.specs.Ordering.{nat_cmp}
use Rattle.std.specs.Cmp.Lexicographic.{slice_cmp}
use Rattle.std.specs.BTreeMap.{get_by}
use Rattle.lists.specs.Ordered.{values_at, spare_at}
use Rattle.lists.proofs.ById.{values_of, values_are, values_same, spare_here}
use Rattle.lists.proofs.by_id.SortedById.reserve.Goals as goal

pub returns-in-Some-clause-room : goal.returns-in-Some-clause-room
returns-in-Some-clause-room g c =
    let id = c.args.id.now in
    let list = c.reserve.new.self in
    let found = sym c.get_mut.ensures.value ∙ ap option_copied_mut c.in-Some.is in
    let some : IsSome (get_by (slice_cmp nat_cmp id) c.self.inside.lists) = rw found refl in
    rw (spare_here c.self.inside.lists.entries (c.get_mut.follows.lender list).entries id (Some list) ((c.get_mut.follows.holds list).3 some).0) c.reserve.ensures.room

pub returns-in-Some-clause-same : goal.returns-in-Some-clause-same
returns-in-Some-clause-same g c other =
    let id = c.args.id.now in
    let list = c.reserve.new.self in
    let found = sym c.get_mut.ensures.value ∙ ap option_copied_mut c.in-Some.is in
    let some : IsSome (get_by (slice_cmp nat_cmp id) c.self.inside.lists) = rw found refl in
    let same = c.reserve.ensures.same ∙ sym (ap values_of found) ∙ sym (values_are c.self.inside.lists.entries id) in
    values_same c.self.inside.lists.entries (c.get_mut.follows.lender list).entries id (Some list) ((c.get_mut.follows.holds list).3 some).0 same other
    ∙ ap (λ lists. values_at lists other) c.self.view_is

pub returns-clause-room : goal.returns-clause-room
returns-clause-room g c =
    let lists = c.get_mut.follows.lender-at-none.entries in
    let here = spare_here lists c.insert.new.self.entries c.in_ok-copy.field-0 (Some c.reserve-2.new.self) c.in_ok-insert.ensures.updates.0 in
    subst (λ id. 0 < spare_at c.insert.new.self.entries id) c.in_ok-copy.ensures (rw here c.in_ok-reserve.ensures.room)

pub returns-clause-same : goal.returns-clause-same
returns-clause-same g c other =
    let key = c.in_ok-copy.field-0 in
    let lists = c.get_mut.follows.lender-at-none.entries in
    let found = sym c.get_mut.ensures.value ∙ ap option_copied_mut c.in_default.is in
    let none = values_are c.self.inside.lists.entries c.args.id.now ∙ ap values_of found in
    let empty = c.in_ok-reserve.ensures.same ∙ c.new-list.ensures in
    let same = empty ∙ sym (ap (λ id. values_at lists id) c.in_ok-copy.ensures ∙ ap (λ m. values_at m.entries c.args.id.now) c.get_mut.follows.holds-at-none ∙ none) in
    values_same lists c.insert.new.self.entries key (Some c.reserve-2.new.self) c.in_ok-insert.ensures.updates.0 same other
    ∙ ap (λ m. values_at m.entries other) c.get_mut.follows.holds-at-none ∙ ap (λ lists. values_at lists other) c.self.view_is
