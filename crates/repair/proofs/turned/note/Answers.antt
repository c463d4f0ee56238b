use Rattle.std.proofs.Common.{ap, ◌||◌, ◌∙◌}
use Rattle.std.specs.Str.{bytes_eq}
use Rattle.card_type.specs.Effects.{is_among}
use Rattle.repair.proofs.Sets.{id_more}
use Rattle.repair.proofs.turned.note.Goals as goal

pub returns : goal.returns
returns c other =
    id_more c.args.ids.now.keys c.insert.new.self.keys c.in_ok-copy.field-0 c.in_ok-insert.ensures.updates.0 other
    ∙ ap (λ id. is_among c.args.ids.now.keys other || bytes_eq other id) c.in_ok-copy.ensures
