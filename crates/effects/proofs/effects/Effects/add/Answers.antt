use Rattle.std.proofs.Common.{◌∙◌, ap}
use Rattle.effects.specs.Named.{named, put_once}
use Rattle.effects.proofs.Puts.{done, done_more, take_whole, put_twice}
use Rattle.effects.proofs.effects.Effects.add.Goals as goal

pub loop-id-preserved : goal.loop-id-preserved
loop-id-preserved c =
    let ids = c.names-id-items.result.now in
    let id = c.id-item.result in
    let at = c.in_ok-put.ensures.at ∙ ap (λ spot. put_once spot (named c.loop-id.self id)) c.in_ok-copy.ensures in
    done_more (put_once c.args.spot.now) (put_twice c.args.spot.now) c.args.self.now c.loop-id.self c.put.new.self ids c.loop-id.id-index id c.loop-id-test.true c.id-item.is c.loop-id.invariant at c.in_ok-put.ensures.others

pub returns : goal.returns
returns c q =
    let before = named c.args.self.now q in
    c.loop-id.invariant q
    ∙ ap (λ ids. done (put_once c.args.spot.now) ids q before) (take_whole c.names-id-items.result.now c.loop-id.id-index c.loop-id-test.false ∙ c.names-id-items.ensures)
