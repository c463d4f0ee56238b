use Rattle.std.proofs.Common.{◌∙◌, sym, ap, map}
use Rattle.std.specs.List.{insert}
use Rattle.effects.proofs.Puts.{map_insert}
use Rattle.effects.proofs.named.Named.insert.Goals as goal

pub invariant_of-self-2 : goal.invariant_of-self-2
invariant_of-self-2 c =
    let index = c.insert-index.result in
    let spots = c.self.inside.spots.values in
    rw (c.insert-inserted.ensures.items, c.unwrap.ensures)
    (ap (λ uids. insert uids index c.args.spot.uid) (c.reserve-2.ensures.items ∙ c.self.invariant)
    ∙ sym (ap (map (λ spot. spot.uid)) (c.insert-index.ensures.place ∙ ap (λ xs. insert xs index c.args.spot) c.reserve.ensures.same)
    ∙ map_insert (λ spot. spot.uid) spots index c.args.spot))
