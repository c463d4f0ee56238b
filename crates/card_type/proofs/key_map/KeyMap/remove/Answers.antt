use Rattle.std.proofs.Common.{sym, ap, ◌∙◌}
use Rattle.std.specs.FinMap as map
use Rattle.card_type.proofs.Orders.{keys_total, keys_exact}
use Rattle.lists.proofs.Maps.{get_is, remove_is}
use Rattle.card_type.proofs.key_map.KeyMap.remove.Goals as goal

pub returns-clause-before : goal.returns-clause-before
returns-clause-before g c =
    c.remove.ensures.value ∙ sym (get_is keys_total c.self.inside.values.entries c.args.key.now)
    ∙ ap (λ m. map.get m c.args.key.now) c.self.view_is

pub returns-clause-after : goal.returns-clause-after
returns-clause-after g c =
    remove_is keys_total keys_exact c.self.inside.values.entries c.remove.new.self.entries c.args.key.now c.remove.ensures.updates.0
    ∙ ap (λ m. map.remove m c.args.key.now) c.self.view_is
