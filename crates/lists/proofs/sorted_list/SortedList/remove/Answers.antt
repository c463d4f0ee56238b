use Rattle.std.proofs.Common.{◌≡◌, ◌∙◌, sym, ap, not}
use Rattle.std.specs.Prelude.{filter}
use Rattle.std.specs.Ordering.{eq_by_cmp}
use Rattle.std.proofs.lemmas.List.Kept.{IsStrictlySortedBy-filter}
use Rattle.lists.proofs.Inserts.{none_filtered}
use Rattle.lists.proofs.Searches.{removed, none_found, comparisons_rise}
use Rattle.lists.proofs.sorted_list.SortedList.remove.Given as given
use Rattle.lists.proofs.sorted_list.SortedList.remove.Goals as goal

taken_out : (g : given.Over) (c : goal.After-drop-removed g)
    → c.remove-removed.new.self.items ≡ filter (λ other. not (eq_by_cmp g.T.Ord.cmp c.args.value.now other)) c.self.inside.values.items
taken_out g c =
    let range = rw c.deref.ensures.value at c.in-Ok.ensures.bound in
    let found = rw c.deref.ensures.value at c.in-Ok.ensures.position in
    c.remove-removed.ensures.items
    ∙ removed g.T.Ord.cmp g.met.T.Ord.total c.args.value.now c.self.inside.values.items c.in-Ok.index range found c.self.invariant

pub invariant_of-self : goal.invariant_of-self
invariant_of-self g c =
    rw (taken_out g c) (IsStrictlySortedBy-filter g.T.Ord.cmp (λ other. not (eq_by_cmp g.T.Ord.cmp c.args.value.now other)) c.self.inside.values.items c.self.invariant)

pub returns-in-Ok-clause-values : goal.returns-in-Ok-clause-values
returns-in-Ok-clause-values g c =
    taken_out g c ∙ ap (λ list. filter (λ other. not (eq_by_cmp g.T.Ord.cmp c.args.value.now other)) list.values) c.self.view_is

pub returns-in-Err-clause-values : goal.returns-in-Err-clause-values
returns-in-Err-clause-values g c =
    let cmp = g.T.Ord.cmp in
    let items = c.self.inside.values.items in
    let range = rw c.deref.ensures.value at c.in-Err.ensures.bound in
    let found = rw c.deref.ensures.value at c.in-Err.ensures.position in
    let same = none_filtered (eq_by_cmp cmp c.args.value.now) items (none_found cmp g.met.T.Ord.total c.args.value.now items c.in-Err.field-0 range (found (comparisons_rise cmp g.met.T.Ord.total c.args.value.now items c.self.invariant))) in
    sym (ap (λ list. list.values) c.self.view_is) ∙ sym same ∙ ap (λ list. filter (λ other. not (eq_by_cmp cmp c.args.value.now other)) list.values) c.self.view_is
