use Rattle.std.proofs.Common.{sym, ap, ◌∙◌}
use Rattle.std.specs.FinMap as map
use Rattle.card_type.proofs.Orders.{keys_total, keys_exact}
use Rattle.lists.proofs.Maps.{entries_are}
use Rattle.card_type.proofs.key_map.KeyMap.iter.Goals as goal

pub returns-clause-rest : goal.returns-clause-rest
returns-clause-rest g c =
    c.iter.ensures.rest ∙ sym (entries_are keys_total keys_exact c.self.inside.values.entries c.iter.ensures.ordered)
    ∙ ap map.entries c.self.view_is
