use Rattle.std.proofs.Common.{sym, ap, ◌∙◌}
use Rattle.std.specs.FinMap as map
use Rattle.card_type.proofs.Orders.{keys_total}
use Rattle.lists.proofs.Maps.{get_is}
use Rattle.card_type.proofs.key_map.KeyMap.get.Goals as goal

pub returns : goal.returns
returns g c =
    c.get.ensures.value ∙ sym (get_is keys_total c.self.inside.values.entries c.args.key.now)
    ∙ ap (λ m. map.get m c.args.key.now) c.self.view_is
