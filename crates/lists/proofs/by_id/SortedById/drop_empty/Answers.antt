use Rattle.std.proofs.Common.{◌∙◌, sym, ap, length, None}
use Rattle.std.proofs.lemmas.Bool.{eqb-true}
use Rattle.std.proofs.lemmas.List.{nil_from_length}
use Rattle.lists.specs.Ordered.{values_at}
use Rattle.lists.proofs.ById.{values_same}
use Rattle.lists.proofs.by_id.SortedById.drop_empty.Goals as goal
use Rattle.lists.proofs.by_id.SortedById.drop_empty.Goals.{in-Some-1, in-None-1}

pub returns-then-is_empty : goal.returns-then-is_empty
returns-then-is_empty g c other =
    let id = c.args.id.now in
    let empty = sym (nil_from_length c.get.result.now (eqb-true (length c.get.result.now) 0 (sym c.is_empty.ensures ∙ c.if-is_empty.true))) in
    let new = values_same c.self.inside.lists.entries c.remove-empty.new.self.entries id None c.remove-empty.ensures.updates.0 (empty ∙ c.get.ensures ∙ ap (λ lists. values_at lists id) (sym c.self.view_is)) other in
    elim c.match-empty.branch [
      | in-Some-1 w ↦ rw w.self-is (new ∙ ap (λ lists. values_at lists other) c.self.view_is)
      | in-None-1 w ↦ rw w.self-is (new ∙ ap (λ lists. values_at lists other) c.self.view_is)
    ]
