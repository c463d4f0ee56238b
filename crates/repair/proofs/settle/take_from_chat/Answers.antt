use Rattle.std.proofs.Common.{refl, sym, ap, ◌∙◌, None}
use Rattle.std.specs.Prelude.{if◌then◌else◌}
use Rattle.std.proofs.lemmas.Result.{on_ok_weaker}
use Rattle.chat_states.specs.States.{has_key}
use Rattle.indexes.specs.Kept.{deadline_at}
use Rattle.indexes.proofs.Grown.{on_ok_of}
use Rattle.repair.proofs.Contents.{placed, unplaced}
use Rattle.repair.proofs.Deadlines.{deadline_without}
use Rattle.repair.proofs.OneId.{no_uid, uid_at, went}
use Rattle.repair.proofs.settle.take_from_chat.Goals as goal

pub returns-in_default-clause-timers : goal.returns-in_default-clause-timers
returns-in_default-clause-timers c uid =
    let m = c.args.mailbox.now.mailbox in
    no_uid m c.args.id.now (unplaced m c.args.id.now c.args.place.now c.in_default.is c.requires.place).0 None (deadline_at c.args.indexes.now.timers uid) uid

pub returns-clause-states : goal.returns-clause-states
returns-clause-states c =
    let m = c.args.mailbox.now.mailbox in
    let key = c.in-Some.place.chat in
    let s = c.in-Some.place.spot.now in
    let is = placed m c.args.id.now c.args.place.now c.in-Some.place c.in-Some.is c.requires.place in
    on_ok_weaker c.take.result (λ taken me family small same are.
    went me (has_key c.take.new.unsettled) family c.take.new.chats m c.args.id.now key s is is.mail.placed.card refl same
    (λ mark there. taken me family is.mail.placed.card mark (small key) there are)) c.take.ensures.states

pub returns-clause-timers : goal.returns-clause-timers
returns-clause-timers c =
    let m = c.args.mailbox.now.mailbox in
    let s = c.in-Some.place.spot.now in
    let old = c.args.indexes.now.timers in
    let is = placed m c.args.id.now c.args.place.now c.in-Some.place c.in-Some.is c.requires.place in
    on_ok_of c.take.result (λ uid.
    ap (λ deadlines. deadline_at deadlines uid) c.drop_of.ensures
    ∙ deadline_without s.uid old uid
    ∙ ap (λ b. if b then None else deadline_at old uid) (sym (uid_at m c.args.id.now c.in-Some.place.chat s is uid)))
