use Rattle.std.proofs.Common.{sym, subst, arith, Some}
use Rattle.std.proofs.lemmas.Result.{on_ok_weaker}
use Rattle.mailbox_model.specs.Present.{present}
use Rattle.chat_states.specs.Families.{with_card}
use Rattle.chat_states.specs.States.{AreStatesOf, has_key}
use Rattle.chat_view.specs.Standing.{shown}
use Rattle.indexes.specs.Kept.{deadline_among, deadline_at}
use Rattle.repair.proofs.Contents.{placed, unplaced}
use Rattle.repair.proofs.OneId.{came, no_uid, none_came, reads, there_too}
use Rattle.repair.proofs.settle.put_into_chat.Goals as goal

pub returns-in_default-clause-timers : goal.returns-in_default-clause-timers
returns-in_default-clause-timers g c uid =
    let n = c.args.view.now in
    no_uid n c.args.id.now (unplaced n c.args.id.now c.args.place.now c.in_default.is c.requires.place).0 (deadline_among n (present n) uid) (deadline_at c.args.indexes.now.timers uid) uid

pub returns-in_default-clause-states : goal.returns-in_default-clause-states
returns-in_default-clause-states g c family small none are =
    let n = c.args.view.now in
    let gone = unplaced n c.args.id.now c.args.place.now c.in_default.is c.requires.place in
    subst (λ f. AreStatesOf n.me (has_key c.args.unsettled.now) f c.args.indexes.now.chats) (none_came n c.args.id.now gone.1 family none) are

pub show-requires-clause-there : goal.show-requires-clause-there
show-requires-clause-there g c =
    let n = c.args.view.now in
    let is = placed n c.args.id.now c.args.place.now c.in-Some.place c.in-Some.is c.requires.place in
    there_too n c.args.id.now c.in-Some.place.chat c.in-Some.place.spot.now is

pub returns-in_err-card-clause-cost : goal.returns-in_err-card-clause-cost
returns-in_err-card-clause-cost g c =
    let n = c.args.view.now in
    let is = placed n c.args.id.now c.args.place.now c.in-Some.place c.in-Some.is c.requires.place in
    omega (arith, reads n c.args.id.now c.in-Some.place.chat c.in-Some.place.spot.now is, c.show.ensures.cost)

pub returns-clause-states : goal.returns-clause-states
returns-clause-states g c =
    let n = c.args.view.now in
    let key = c.in-Some.place.chat in
    let s = c.in-Some.place.spot.now in
    let old = c.args.indexes.now.chats in
    let before = has_key c.args.unsettled.now in
    let after = has_key c.put.new.unsettled in
    let with = shown s c.in_ok-card.card.now c.in_ok-card.shown in
    let is = placed n c.args.id.now c.args.place.now c.in-Some.place c.in-Some.is c.requires.place in
    on_ok_weaker c.put.result (λ put family small none are.
    came n.me after family c.put.new.chats n c.args.id.now key s is c.in_ok-card.card.now c.in_ok-card.shown c.in_ok-card.ensures.shown none
    (λ absent. subst (λ me. AreStatesOf me after (with_card key s.id (Some with) family) c.put.new.chats) c.me-me.ensures.value (put family (small key) absent (subst (λ me. AreStatesOf me before family old) (sym c.me-me.ensures.value) are)))) c.put.ensures.states

pub returns-clause-cost : goal.returns-clause-cost
returns-clause-cost g c =
    let n = c.args.view.now in
    let is = placed n c.args.id.now c.args.place.now c.in-Some.place c.in-Some.is c.requires.place in
    omega (arith, reads n c.args.id.now c.in-Some.place.chat c.in-Some.place.spot.now is, c.show.ensures.cost)
