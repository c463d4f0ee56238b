use Rattle.std.proofs.Common.{subst, arith}
use Rattle.std.proofs.lemmas.Result.{on_ok_weaker}
use Rattle.mailbox_model.specs.Present.{present}
use Rattle.chat_states.specs.States.{AreStatesOf}
use Rattle.indexes.specs.Kept.{deadline_among, deadline_at}
use Rattle.repair.proofs.Contents.{placed, unplaced}
use Rattle.repair.proofs.OneId.{marked, no_uid, none_marked, reads, there_too}
use Rattle.repair.proofs.settle.remark.Goals as goal

pub returns-in_default-clause-timers : goal.returns-in_default-clause-timers
returns-in_default-clause-timers g c uid =
    let n = c.args.view.now in
    no_uid n c.args.id.now (unplaced n c.args.id.now c.args.place.now c.in_default.is c.requires.place).0 (deadline_among n (present n) uid) (deadline_at c.args.indexes.now.timers uid) uid

pub returns-in_default-clause-states : goal.returns-in_default-clause-states
returns-in_default-clause-states g c unsettled family small same are =
    let n = c.args.view.now in
    let gone = unplaced n c.args.id.now c.args.place.now c.in_default.is c.requires.place in
    subst (λ f. AreStatesOf n.me unsettled f c.args.indexes.now.chats) (none_marked n c.args.id.now gone.1 family same) are

pub show-requires-clause-there : goal.show-requires-clause-there
show-requires-clause-there g c =
    let n = c.args.view.now in
    let is = placed n c.args.id.now c.args.place.now c.in-Some.place c.in-Some.is c.requires.place in
    there_too n c.args.id.now c.in-Some.place.chat c.in-Some.place.spot.now is

pub returns-in_err-shown-clause-cost : goal.returns-in_err-shown-clause-cost
returns-in_err-shown-clause-cost g c =
    let n = c.args.view.now in
    let is = placed n c.args.id.now c.args.place.now c.in-Some.place c.in-Some.is c.requires.place in
    omega (arith, reads n c.args.id.now c.in-Some.place.chat c.in-Some.place.spot.now is, c.show.ensures.cost)

pub returns-clause-states : goal.returns-clause-states
returns-clause-states g c =
    let n = c.args.view.now in
    let key = c.in-Some.place.chat in
    let s = c.in-Some.place.spot.now in
    let is = placed n c.args.id.now c.args.place.now c.in-Some.place c.in-Some.is c.requires.place in
    on_ok_weaker c.mark.result (λ remarked unsettled family small same are.
    marked n.me unsettled family c.mark.new.chats n c.args.id.now key s is c.in_ok-shown.field-0-0.now c.in_ok-shown.shown c.in_ok-shown.ensures.shown same
    (λ before there. remarked n.me unsettled family c.in_ok-shown.field-0-0.now before (small key) there are)) c.mark.ensures.states

pub returns-clause-cost : goal.returns-clause-cost
returns-clause-cost g c =
    let n = c.args.view.now in
    let is = placed n c.args.id.now c.args.place.now c.in-Some.place c.in-Some.is c.requires.place in
    omega (arith, reads n c.args.id.now c.in-Some.place.chat c.in-Some.place.spot.now is, c.show.ensures.cost)
