use Rattle.std.proofs.Common.{◌∙◌, sym, ap}
use Rattle.std.specs.Option.{option_copied}
use Rattle.lists.specs.Ordered.{values_at}
use Rattle.lists.proofs.ById.{values_of, values_are}
use Rattle.lists.proofs.by_id.SortedById.get.Goals as goal

pub returns-in-Some : goal.returns-in-Some
returns-in-Some g c =
    let found = sym (ap option_copied c.in-Some.is) ∙ c.get.ensures.value in
    c.as_slice.ensures.values ∙ ap values_of found ∙ sym (values_are c.self.inside.lists.entries c.args.id.now)
    ∙ ap (λ lists. values_at lists c.args.id.now) c.self.view_is

pub returns-in-None : goal.returns-in-None
returns-in-None g c =
    let found = sym (ap option_copied c.in-None.is) ∙ c.get.ensures.value in
    ap values_of found ∙ sym (values_are c.self.inside.lists.entries c.args.id.now) ∙ ap (λ lists. values_at lists c.args.id.now) c.self.view_is
