use Rattle.std.proofs.Common.{◌∙◌, sym, ap, Some, is_some}
use Rattle.std.specs.Map.{lookup}
use Rattle.std.specs.Str.{bytes_eq}
use Rattle.effects.proofs.ById.{looked, here, elsewhere}
use Rattle.repair.proofs.Noted.{Entries, noted_already, noted_new, noted_with, not_noted}
use Rattle.repair.proofs.moves.Moves.note_one.Goals as goal

pub returns-then-contains_key : goal.returns-then-contains_key
returns-then-contains_key c other =
    let es = c.self.inside.before.entries in
    ap (λ (entries : Entries). lookup (bytes_eq other) entries) (sym c.self.view_is)
    ∙ noted_already c.args.id c.args.before es (sym (ap is_some (looked es c.args.id)) ∙ sym c.contains_key.ensures ∙ c.if-contains_key.true) other
    ∙ ap (λ (entries : Entries). noted_with c.args.id c.args.before other (lookup (bytes_eq other) entries)) c.self.view_is

pub returns : goal.returns
returns c other =
    let es = c.self.inside.before.entries in
    let fs = c.insert.new.self.entries in
    let updates = c.in_ok-_none.ensures.updates.0 in
    let none = not_noted (lookup (bytes_eq c.args.id) es) (sym (ap is_some (looked es c.args.id)) ∙ sym c.contains_key.ensures ∙ c.if-contains_key.false) in
    noted_new c.args.id c.args.before es fs none (here es fs c.args.id (Some c.args.before) updates) (elsewhere es fs c.args.id (Some c.args.before) updates) other
    ∙ ap (λ (entries : Entries). noted_with c.args.id c.args.before other (lookup (bytes_eq other) entries)) c.self.view_is
