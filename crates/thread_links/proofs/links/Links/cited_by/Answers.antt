use Rattle.std.proofs.Common.{◌∙◌, sym, ap, subst, map}
use Rattle.std.specs.List.Sorted.{IsStrictlySortedBy}
use Rattle.card_type.specs.Spots.{spot_cmp}
use Rattle.mailbox_model.specs.declared.links.Cites.{Cites}
use Rattle.thread_links.specs.Linked.{Linked, citing}
use Rattle.thread_links.proofs.CitedLaws.{sorted_spots}
use Rattle.thread_links.proofs.ChangeLaws.{under_of}
use Rattle.thread_links.proofs.links.Links.cited_by.Goals as goal

pub returns-clause-spots : goal.returns-clause-spots
returns-clause-spots c =
    let settled = c.self.invariant (ap (λ (v : Linked). v.whole) c.self.view_is ∙ c.requires.whole) in
    c.get.ensures ∙ settled.index.spots c.args.id.now ∙ ap (λ (v : Linked). map (λ (t : Cites). t.spot) (citing c.args.id.now v.cites)) c.self.view_is

pub returns-clause-order : goal.returns-clause-order
returns-clause-order c =
    let settled = c.self.invariant (ap (λ (v : Linked). v.whole) c.self.view_is ∙ c.requires.whole) in
    let id = c.args.id.now in
    subst (IsStrictlySortedBy spot_cmp) (sym (c.get.ensures ∙ settled.index.spots id)) (sorted_spots c.self.inside.kept.entries (under_of c.self.inside.kept.entries c.self.inside.cited settled.index) id)
