use Rattle.std.proofs.Common.{◌∙◌, sym, ap, length, None}
use Rattle.std.proofs.lemmas.Bool.{eqb-true}
use Rattle.std.proofs.lemmas.List.{nil_from_length}
use Rattle.effects.specs.Named.{named}
use Rattle.effects.proofs.ById.{spots_of, unchanged}
use Rattle.effects.proofs.effects.Effects.drop_empty.Goals as goal
use Rattle.effects.proofs.effects.Effects.drop_empty.Goals.{in-Some-1, in-None-1}

pub returns-then-is_unnamed : goal.returns-then-is_unnamed
returns-then-is_unnamed c other =
    let id = c.args.id.now in
    let empty = nil_from_length (named c.args.self.now id) (eqb-true (length (named c.args.self.now id)) 0 (sym c.is_unnamed.ensures ∙ c.if-is_unnamed.true)) in
    let none = sym (ap (λ spots. named spots id) c.self.view_is ∙ empty) in
    let same = unchanged c.self.inside.by_id.entries c.remove-empty.new.self.entries id None c.remove-empty.ensures.updates.0 spots_of none other in
    elim c.match-empty.branch [
      | in-Some-1 w ↦ rw w.self-is (same ∙ ap (λ spots. named spots other) c.self.view_is)
      | in-None-1 w ↦ rw w.self-is (same ∙ ap (λ spots. named spots other) c.self.view_is)
    ]
