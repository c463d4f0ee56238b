use Rattle.std.proofs.Common.{◌∙◌, sym, ap, map}
use Rattle.std.specs.List.{remove}
use Rattle.effects.proofs.Puts.{map_remove}
use Rattle.effects.proofs.named.Named.remove.Goals as goal

pub invariant_of-self : goal.invariant_of-self
invariant_of-self c =
    let index = c.in-Some.index in
    let spots = c.self.inside.spots.values in
    c.remove-uid.ensures.items ∙ ap (λ uids. remove uids index) c.self.invariant
    ∙ sym (ap (map (λ spot. spot.uid)) c.in-Some.ensures.place ∙ map_remove (λ spot. spot.uid) spots index)
