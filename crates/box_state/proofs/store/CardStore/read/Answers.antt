use Rattle.std.proofs.Common.{sym, ap, ◌∙◌}
use Rattle.std.specs.FinMap as map
use Rattle.box_state.proofs.UidMaps.{get_uid}
use Rattle.box_state.proofs.store.CardStore.read.Goals as goal

pub returns-clause-card : goal.returns-clause-card
returns-clause-card g c =
    c.get.ensures.value ∙ sym (get_uid c.self.inside.by_uid.entries c.args.uid) ∙ ap (λ k. map.get k.cards c.args.uid) c.self.view_is
