use Rattle.std.proofs.Common.{sym, ap, ◌∙◌}
use Rattle.std.specs.FinMap as map
use Rattle.box_state.proofs.UidMaps.{get_uid, removed_uid}
use Rattle.box_state.proofs.store.CardStore.take.Goals as goal

pub returns-clause-card : goal.returns-clause-card
returns-clause-card c =
    c.remove.ensures.value ∙ sym (get_uid c.self.inside.by_uid.entries c.args.uid) ∙ ap (λ k. map.get k.cards c.args.uid) c.self.view_is

pub returns-clause-cards : goal.returns-clause-cards
returns-clause-cards c =
    removed_uid c.self.inside.by_uid.entries c.remove.new.self.entries c.args.uid c.remove.ensures.updates.0
    ∙ ap (λ k. map.remove k.cards c.args.uid) c.self.view_is
