use Rattle.std.proofs.Common.{◌≡◌, ◌∙◌, refl, sym, ap, subst, not, false, ℕ, List, [], Some}
use Rattle.std.specs.Prelude.{filter}
use Rattle.std.specs.Option.{IsSome, option_copied_mut}
use Rattle.std.specs.Ordering.{nat_cmp, eq_by_cmp}
use Rattle.std.specs.Str.{bytes_eq}
use Rattle.std.specs.Cmp.Lexicographic.{slice_cmp}
use Rattle.std.specs.BTreeMap.{get_by}
use Rattle.std.proofs.lemmas.Result.{on_ok_weaker}
use Rattle.lists.specs.Sorted.{insert_by}
use Rattle.lists.specs.Ordered.{values_at}
use Rattle.lists.proofs.ById.{values_of, values_are, values_here, values_elsewhere}
use Rattle.lists.proofs.by_id.SortedById.put.Goals as goal

pub returns-in-Some-clause-at : goal.returns-in-Some-clause-at
returns-in-Some-clause-at g c =
    let cmp = g.T.Ord.cmp in
    let id = c.args.id.now in
    let list = c.put.new.self in
    let found = sym c.get_mut.ensures.value ∙ ap option_copied_mut c.in-Some.is in
    let some : IsSome (get_by (slice_cmp nat_cmp id) c.self.inside.lists) = rw found refl in
    let here = values_here c.self.inside.lists.entries (c.get_mut.follows.lender list).entries id (Some list) ((c.get_mut.follows.holds list).3 some).0 in
    let before = ap values_of (sym found) ∙ sym (values_are c.self.inside.lists.entries id) ∙ ap (λ lists. values_at lists id) c.self.view_is in
    on_ok_weaker c.put.result
    (λ put. here ∙ put ∙ ap (λ values. insert_by cmp c.args.value (filter (λ other. not (eq_by_cmp cmp c.args.value other)) values)) before)
    c.put.ensures.ok

pub returns-in-Some-clause-others : goal.returns-in-Some-clause-others
returns-in-Some-clause-others g c =
    let id = c.args.id.now in
    let list = c.put.new.self in
    let found = sym c.get_mut.ensures.value ∙ ap option_copied_mut c.in-Some.is in
    let some : IsSome (get_by (slice_cmp nat_cmp id) c.self.inside.lists) = rw found refl in
    on_ok_weaker c.put.result
    (λ put other h. values_elsewhere c.self.inside.lists.entries (c.get_mut.follows.lender list).entries id (Some list) ((c.get_mut.follows.holds list).3 some).0 other h
    ∙ ap (λ lists. values_at lists other) c.self.view_is)
    c.put.ensures.ok

pub returns-clause-at : goal.returns-clause-at
returns-clause-at g c =
    let cmp = g.T.Ord.cmp in
    let id = c.args.id.now in
    let key = c.in_ok-copy.field-0 in
    let lists = c.get_mut.follows.lender-at-none.entries in
    let found = sym c.get_mut.ensures.value ∙ ap option_copied_mut c.in_default.is in
    let none : [] ≡ values_at c.args.self.now id =
    sym (values_are c.self.inside.lists.entries id ∙ ap values_of found) ∙ ap (λ lists. values_at lists id) c.self.view_is in
    let here = values_here lists c.insert.new.self.entries key (Some c.put-2.new.self) c.in_ok-insert.ensures.updates.0 in
    subst (λ at. values_at c.insert.new.self.entries at ≡ insert_by cmp c.args.value (filter (λ other. not (eq_by_cmp cmp c.args.value other)) (values_at c.args.self.now id))) c.in_ok-copy.ensures
    (here ∙ c.in_ok-put.ensures.ok
    ∙ ap (λ values. insert_by cmp c.args.value (filter (λ other. not (eq_by_cmp cmp c.args.value other)) values)) (c.new-list.ensures ∙ none))

pub returns-clause-others : goal.returns-clause-others
returns-clause-others g c other h =
    let id = c.args.id.now in
    let key = c.in_ok-copy.field-0 in
    let lists = c.get_mut.follows.lender-at-none.entries in
    let apart : bytes_eq key other ≡ false = ap (λ at. bytes_eq at other) c.in_ok-copy.ensures ∙ h in
    values_elsewhere lists c.insert.new.self.entries key (Some c.put-2.new.self) c.in_ok-insert.ensures.updates.0 other apart
    ∙ ap (λ m. values_at m.entries other) c.get_mut.follows.holds-at-none ∙ ap (λ lists. values_at lists other) c.self.view_is
