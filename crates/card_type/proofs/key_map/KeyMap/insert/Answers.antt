use Rattle.std.proofs.Common.{sym, ap, ◌∙◌}
use Rattle.std.specs.FinMap as map
use Rattle.card_type.proofs.Orders.{keys_total, keys_exact}
use Rattle.lists.proofs.Maps.{get_is, insert_is}
use Rattle.card_type.proofs.key_map.KeyMap.insert.Goals as goal

pub returns-clause-before : goal.returns-clause-before
returns-clause-before g c =
    c.in_ok-insert.ensures.old ∙ sym (get_is keys_total c.self.inside.values.entries c.args.key)
    ∙ ap (λ m. map.get m c.args.key) c.self.view_is

pub returns-clause-ok : goal.returns-clause-ok
returns-clause-ok g c =
    insert_is keys_total keys_exact c.self.inside.values.entries c.insert.new.self.entries c.args.key c.args.value c.in_ok-insert.ensures.updates.0
    ∙ ap (λ m. map.insert m c.args.key c.args.value) c.self.view_is
