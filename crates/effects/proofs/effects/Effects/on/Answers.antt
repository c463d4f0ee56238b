use Rattle.std.proofs.Common.{◌∙◌, sym, ap, map}
use Rattle.std.specs.Option.{option_copied}
use Rattle.effects.specs.Named.{named}
use Rattle.effects.proofs.ById.{spots_of, looked}
use Rattle.effects.proofs.effects.Effects.on.Goals as goal

pub returns-in-Some : goal.returns-in-Some
returns-in-Some c =
    let id = c.args.id.now in
    let found = sym (ap option_copied c.in-Some.is) ∙ c.get.ensures.value ∙ looked c.self.inside.by_id.entries id in
    c.uids.ensures ∙ ap (map (λ spot. spot.uid)) (ap spots_of found ∙ ap (λ spots. named spots id) c.self.view_is)

pub returns-in-None : goal.returns-in-None
returns-in-None c =
    let id = c.args.id.now in
    let found = sym (ap option_copied c.in-None.is) ∙ c.get.ensures.value ∙ looked c.self.inside.by_id.entries id in
    ap (map (λ spot. spot.uid)) (ap spots_of found ∙ ap (λ spots. named spots id) c.self.view_is)
