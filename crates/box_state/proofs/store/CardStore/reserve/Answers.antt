use Rattle.std.proofs.Common.{ap, ◌∙◌}
use Rattle.box_state.proofs.UidMaps.{same_uids}
use Rattle.box_state.proofs.store.CardStore.reserve.Goals as goal

pub returns-clause-same : goal.returns-clause-same
returns-clause-same c =
    same_uids c.self.inside.by_uid.entries c.reserve.new.self.entries c.reserve.ensures.entries.2 ∙ ap (λ k. k.cards) c.self.view_is
