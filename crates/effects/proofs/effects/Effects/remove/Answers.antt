use Rattle.std.proofs.Common.{◌∙◌, ap}
use Rattle.effects.specs.Named.{named, without_spot}
use Rattle.effects.proofs.Puts.{done, done_more, take_whole, taken_twice}
use Rattle.effects.proofs.effects.Effects.remove.Goals as goal

pub loop-id-preserved : goal.loop-id-preserved
loop-id-preserved c =
    let ids = c.names-id-items.result.now in
    let id = c.id-item.result in
    done_more (without_spot c.args.spot.now) (taken_twice c.args.spot.now) c.args.self.now c.loop-id.self c.drop_empty.new.self ids c.loop-id.id-index id c.loop-id-test.true c.id-item.is c.loop-id.invariant (c.drop_empty.ensures id ∙ c.take_out.ensures.at) (λ q h. c.drop_empty.ensures q ∙ c.take_out.ensures.others q h)

pub returns : goal.returns
returns c q =
    c.loop-id.invariant q
    ∙ ap (λ ids. done (without_spot c.args.spot.now) ids q (named c.args.self.now q)) (take_whole c.names-id-items.result.now c.loop-id.id-index c.loop-id-test.false ∙ c.names-id-items.ensures)
