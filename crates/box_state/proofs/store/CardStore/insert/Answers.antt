use Rattle.std.proofs.Common.{ap, ◌∙◌}
use Rattle.std.specs.FinMap as map
use Rattle.box_state.proofs.UidMaps.{inserted_uid}
use Rattle.box_state.proofs.store.CardStore.insert.Goals as goal

pub returns-clause-cards : goal.returns-clause-cards
returns-clause-cards c =
    let updates = rw c.unwrap.ensures at c.insert-inserted.ensures.updates in
    inserted_uid c.self.inside.by_uid.entries c.insert-inserted.new.self.entries c.args.uid c.args.card updates.0
    ∙ ap (λ k. map.insert k.cards c.args.uid c.args.card) c.self.view_is
