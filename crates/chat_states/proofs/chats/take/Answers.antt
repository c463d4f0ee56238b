use Rattle.std.proofs.Common.{sym, ◌∙◌, subst, None}
use Rattle.chat_states.specs.States.{Has, has_key}
use Rattle.chat_states.proofs.Followed.{take_has}
use Rattle.chat_states.proofs.OneChat.{at_other, replaced}
use Rattle.chat_states.proofs.chats.take.Goals as goal

pub returns-in_default-clause-others : goal.returns-in_default-clause-others
returns-in_default-clause-others c = c.lift.ensures.others

pub returns-clause-others : goal.returns-clause-others
returns-clause-others c =
    let key = c.args.key.now in
    let put = c.in_ok-put_back.ensures in
    λ other h. at_other c.lift.new.chats c.put_back.new.chats key c.take_from.new.state put other h ∙ c.lift.ensures.others other h

pub returns-clause-states : goal.returns-clause-states
returns-clause-states c me family card mark small there are =
    let key = c.args.key.now in
    let spot = c.args.spot.now in
    let old = has_key c.args.unsettled.now in
    let new = has_key c.take_from.new.unsettled in
    let put = c.in_ok-put_back.ensures in
    replaced me old new c.args.chats.now c.lift.new.chats c.put_back.new.chats key c.take_from.new.state c.lift.ensures.others put c.in_ok-take_from.ensures.notes.others
    family spot.id None
    (λ has.
    let follows = (subst (Has me key (old key) (family key)) (sym c.lift.ensures.before ∙ c.in-Some.is) has).0 in
    take_has me key (old key) (new key) (family key) small c.in-Some.state c.take_from.new.state follows c.in_ok-take_from.ensures.key spot card mark there
    (λ before after few order was. c.in_ok-take_from.ensures.follows me before after card mark few order was))
    are
