use Rattle.std.proofs.Common.{◌≡◌, ◌⊎◌, ℕ, ◌∙◌, sym, inl, inr, ap, Ok, Err}
use Rattle.std.specs.List.{list_any}
use Rattle.std.specs.Ordering.{eq_by_cmp}
use Rattle.lists.specs.Sorted.{insert_by}
use Rattle.lists.proofs.Searches.{sorted_insert, placed}
use Rattle.lists.proofs.sorted_list.SortedList.insert.Given as given
use Rattle.lists.proofs.sorted_list.SortedList.insert.Goals as goal
use Rattle.lists.proofs.sorted_list.SortedList.insert.Goals.{in-Ok, in-Ok-2}

-- the value is where the search ended
in_place : (g : given.Over) (c : goal.After-unwrap g)
    → c.insert-inserted.new.self.items ≡ insert_by g.T.Ord.cmp c.args.value c.self.inside.values.items
in_place g c =
    let none = ap (λ list. list_any (eq_by_cmp g.T.Ord.cmp c.args.value) list.values) c.self.view_is ∙ c.requires.absent in
    let range = rw c.deref.ensures.value at c.binary_search.ensures.bound in
    let found = rw c.deref.ensures.value at c.binary_search.ensures.position in
    rw (c.insert-inserted.ensures.items, c.unwrap.ensures)
    (placed g.T.Ord.cmp g.met.T.Ord.total c.args.value c.self.inside.values.items c.match-binary_search.index c.binary_search.result none c.self.invariant range found
    (elim c.match-binary_search.branch [
      | in-Ok w ↦ at_index w.in-Ok.index w.index-is w.in-Ok.is
      | in-Ok-2 w ↦ at_index w.in-Ok.index w.index-is w.in-Ok.is
    ]))
  where
    -- either answer of the search names that index
    at_index : (i : ℕ) → c.match-binary_search.index ≡ i → (c.binary_search.result ≡ Ok i) ⊎ (c.binary_search.result ≡ Err i)
        → (c.binary_search.result ≡ Ok c.match-binary_search.index) ⊎ (c.binary_search.result ≡ Err c.match-binary_search.index)
    at_index i e (inl is) = inl (is ∙ ap Ok (sym e))
    at_index i e (inr is) = inr (is ∙ ap Err (sym e))

pub invariant_of-self : goal.invariant_of-self
invariant_of-self g c =
    let none = ap (λ list. list_any (eq_by_cmp g.T.Ord.cmp c.args.value) list.values) c.self.view_is ∙ c.requires.absent in
    rw (in_place g c) (sorted_insert g.T.Ord.cmp g.met.T.Ord.total c.args.value c.self.inside.values.items none c.self.invariant)

pub returns-clause-values : goal.returns-clause-values
returns-clause-values g c = in_place g c ∙ ap (λ list. insert_by g.T.Ord.cmp c.args.value list.values) c.self.view_is
