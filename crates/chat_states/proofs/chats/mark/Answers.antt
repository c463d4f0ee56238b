use Rattle.std.proofs.Common.{refl, sym, ◌∙◌, subst, Some}
use Rattle.chat_states.specs.States.{Has}
use Rattle.chat_view.specs.Standing.{shown}
use Rattle.chat_states.proofs.Followed.{mark_has}
use Rattle.chat_states.proofs.OneChat.{at_other, replaced}
use Rattle.chat_states.proofs.chats.mark.Goals as goal

pub returns-in_default-clause-others : goal.returns-in_default-clause-others
returns-in_default-clause-others c = c.lift.ensures.others

pub returns-clause-others : goal.returns-clause-others
returns-clause-others c =
    let key = c.args.key.now in
    let put = c.in_ok-put_back.ensures in
    λ other h. at_other c.lift.new.chats c.put_back.new.chats key c.remark.new.self put other h ∙ c.lift.ensures.others other h

pub returns-clause-states : goal.returns-clause-states
returns-clause-states c me unsettled family card before small there are =
    let key = c.args.key.now in
    let spot = c.args.spot.now in
    let state = c.in-Some.state in
    let put = c.in_ok-put_back.ensures in
    replaced me unsettled unsettled c.args.chats.now c.lift.new.chats c.put_back.new.chats key c.remark.new.self c.lift.ensures.others put (λ other h. refl)
    family spot.id (Some (shown spot card c.args.mark))
    (λ has.
    let old = (subst (Has me key (unsettled key) (family key)) (sym c.lift.ensures.before ∙ c.in-Some.is) has).0 in
    mark_has me key (unsettled key) (unsettled key) (family key) small state c.remark.new.self old c.in_ok-remark.ensures.key spot card before c.args.mark there
    (λ ones rest few order follows.
    record {
      marked = c.in_ok-remark.ensures.marked ones rest card before few order follows.marked;
      known = λ settled. c.in_ok-remark.ensures.stands me ones rest card before few order (follows.known settled);
    }))
    are
