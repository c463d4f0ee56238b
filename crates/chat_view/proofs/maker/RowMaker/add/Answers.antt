use Rattle.std.proofs.lemmas.Result.{on_ok_weaker}
use Rattle.chat_view.specs.Makers.{placed}
use Rattle.chat_view.proofs.Makers.{edit_makes, reaction_makes, read_makes, update_makes}
use Rattle.chat_view.proofs.maker.RowMaker.add.Goals as goal

pub returns-in-Edit-clause-stands : goal.returns-in-Edit-clause-stands
returns-in-Edit-clause-stands c =
    let p = placed c.args.spot.now c.args.e.now in
    rw c.in-Edit.is (on_ok_weaker c.edit.result (λ is me t acts stands. edit_makes acts p me t c.args.self.now stands c.edit.new.row is) c.edit.ensures)

pub returns-in-Read-clause-stands : goal.returns-in-Read-clause-stands
returns-in-Read-clause-stands c =
    let p = placed c.args.spot.now c.args.e.now in
    rw c.in-Read.is (on_ok_weaker c.add_reader.result (λ is me t acts stands. read_makes acts p me t c.args.self.now stands c.add_reader.new.readers is) c.add_reader.ensures)

pub returns-in-Update-clause-stands : goal.returns-in-Update-clause-stands
returns-in-Update-clause-stands c =
    let p = placed c.args.spot.now c.args.e.now in
    rw c.in-Update.is (on_ok_weaker c.add_updates.result (λ is me t acts stands. update_makes acts p me t c.args.self.now stands c.add_updates.new.updates is) c.add_updates.ensures.rows)

pub returns-in-Reaction-clause-stands : goal.returns-in-Reaction-clause-stands
returns-in-Reaction-clause-stands c =
    let p = placed c.args.spot.now c.args.e.now in
    rw c.in-Reaction.is (on_ok_weaker c.add_reaction.result (λ is me t acts stands. reaction_makes acts p me t c.args.self.now stands c.add_reaction.new.reactions is) c.add_reaction.ensures)
