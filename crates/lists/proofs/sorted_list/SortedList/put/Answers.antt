use Rattle.std.proofs.Common.{◌≡◌, ◌∙◌, sym, ap, not}
use Rattle.std.specs.Prelude.{filter, slice_set}
use Rattle.std.specs.Ordering.{eq_by_cmp}
use Rattle.std.proofs.lemmas.List.Kept.{IsStrictlySortedBy-filter}
use Rattle.lists.specs.Sorted.{insert_by}
use Rattle.lists.proofs.Inserts.{none_filtered}
use Rattle.lists.proofs.Searches.{sorted_insert, inserted, replaced, none_found, none_left, comparisons_rise}
use Rattle.lists.proofs.sorted_list.SortedList.put.Given as given
use Rattle.lists.proofs.sorted_list.SortedList.put.Goals as goal

in_its_stead : (g : given.Over) (c : goal.After-drop-index_mut g)
    → slice_set c.self.inside.values.items c.in-Ok.index c.args.value
    ≡ insert_by g.T.Ord.cmp c.args.value (filter (λ other. not (eq_by_cmp g.T.Ord.cmp c.args.value other)) c.self.inside.values.items)
in_its_stead g c =
    let range = rw c.deref.ensures.value at c.in-Ok.ensures.bound in
    let found = rw c.deref.ensures.value at c.in-Ok.ensures.position in
    replaced g.T.Ord.cmp g.met.T.Ord.total c.args.value c.self.inside.values.items c.in-Ok.index range found c.self.invariant

in_between : (g : given.Over) (c : goal.In_ok-insert-in-Err g)
    → c.insert.new.self.items
    ≡ insert_by g.T.Ord.cmp c.args.value (filter (λ other. not (eq_by_cmp g.T.Ord.cmp c.args.value other)) c.self.inside.values.items)
in_between g c =
    let cmp = g.T.Ord.cmp in
    let items = c.self.inside.values.items in
    let range = rw c.deref.ensures.value at c.in-Err.ensures.bound in
    let found = rw c.deref.ensures.value at c.in-Err.ensures.position in
    let point = found (comparisons_rise cmp g.met.T.Ord.total c.args.value items c.self.invariant) in
    c.in_ok-insert-in-Err.ensures.items
    ∙ inserted cmp g.met.T.Ord.total c.args.value items c.in-Err.index range point
    ∙ sym (ap (insert_by cmp c.args.value) (none_filtered (eq_by_cmp cmp c.args.value) items (none_found cmp g.met.T.Ord.total c.args.value items c.in-Err.index range point)))

pub invariant_of-self : goal.invariant_of-self
invariant_of-self g c =
    let cmp = g.T.Ord.cmp in
    let items = c.self.inside.values.items in
    rw (in_its_stead g c)
    (sorted_insert cmp g.met.T.Ord.total c.args.value (filter (λ other. not (eq_by_cmp cmp c.args.value other)) items)
    (none_left cmp g.met.T.Ord.total c.args.value items)
    (IsStrictlySortedBy-filter cmp (λ other. not (eq_by_cmp cmp c.args.value other)) items c.self.invariant))

pub invariant_of-self-in-Continue-1 : goal.invariant_of-self-in-Continue-1
invariant_of-self-in-Continue-1 g c =
    let cmp = g.T.Ord.cmp in
    let items = c.self.inside.values.items in
    rw (in_between g c)
    (sorted_insert cmp g.met.T.Ord.total c.args.value (filter (λ other. not (eq_by_cmp cmp c.args.value other)) items)
    (none_left cmp g.met.T.Ord.total c.args.value items)
    (IsStrictlySortedBy-filter cmp (λ other. not (eq_by_cmp cmp c.args.value other)) items c.self.invariant))

pub returns-in-Ok-clause-ok : goal.returns-in-Ok-clause-ok
returns-in-Ok-clause-ok g c =
    let cmp = g.T.Ord.cmp in
    in_its_stead g c ∙ ap (λ list. insert_by cmp c.args.value (filter (λ other. not (eq_by_cmp cmp c.args.value other)) list.values)) c.self.view_is

pub returns-in_ok-insert-in-Err-clause-ok : goal.returns-in_ok-insert-in-Err-clause-ok
returns-in_ok-insert-in-Err-clause-ok g c =
    let cmp = g.T.Ord.cmp in
    in_between g c ∙ ap (λ list. insert_by cmp c.args.value (filter (λ other. not (eq_by_cmp cmp c.args.value other)) list.values)) c.self.view_is
