use Rattle.std.proofs.Common.{◌∙◌, ap}
use Rattle.std.specs.List.{list_any}
use Rattle.std.specs.Ordering.{eq_by_cmp}
use Rattle.lists.proofs.Searches.{searched}
use Rattle.lists.proofs.sorted_list.SortedList.contains.Goals as goal

pub returns : goal.returns
returns g c =
    let range = rw c.deref.ensures.value at c.binary_search.ensures.bound in
    let found = rw c.deref.ensures.value at c.binary_search.ensures.position in
    c.is_ok.ensures.value ∙ searched g.T.Ord.cmp g.met.T.Ord.total c.args.value.now c.self.inside.values.items c.binary_search.result c.self.invariant range found
    ∙ ap (λ list. list_any (eq_by_cmp g.T.Ord.cmp c.args.value.now) list.values) c.self.view_is
