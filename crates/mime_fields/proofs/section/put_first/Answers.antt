use Rattle.std.proofs.Common.{sym, ◌∙◌}
use Rattle.std.proofs.lemmas.Map.Text.{btree_map_updates_str}
use Rattle.mime_fields.proofs.ValueLemmas.{held-put}
use Rattle.mime_fields.proofs.section.put_first.Goals as goal

pub returns-in_ok-insert : goal.returns-in_ok-insert
returns-in_ok-insert c =
    let firsts = c.args.firsts.now in
    let key = c.args.name.now in
    held-put firsts c.insert.new.self key c.args.value
    (sym c.contains_key.ensures ∙ c.if-not-contains_key.true)
    (btree_map_updates_str key firsts c.insert.new.self _ c.in_ok-insert.ensures.updates)
