use Rattle.std.proofs.Common.{◌≡◌, None, sym, ap, ◌∙◌, subst, Some, []}
use Rattle.chat_view.specs.declared.state.ChatState.{ChatState}
use Rattle.chat_view.specs.Standing.{StandsFor, shown}
use Rattle.chat_states.specs.States.{FollowsChat, Has, has_key}
use Rattle.chat_states.proofs.Followed.{begun, no_order, put_has, takes_first}
use Rattle.chat_states.proofs.OneChat.{at_other, replaced}
use Rattle.chat_states.proofs.chats.put.Goals.{in-Some, in-None+in_ok-copy-in-None+in_ok-state-in-None}
use Rattle.chat_states.proofs.chats.put.Goals as goal

pub returns-clause-others : goal.returns-clause-others
returns-clause-others c =
    let key = c.args.key.now in
    let put = c.in_ok-put_back.ensures in
    λ other h. at_other c.lift.new.chats c.put_back.new.chats key c.put_into.new.state put other h ∙ c.lift.ensures.others other h

pub returns-clause-states : goal.returns-clause-states
returns-clause-states c family small none are =
    let key = c.args.key.now in
    let me = c.args.me.now in
    let spot = c.args.spot.now in
    let by_id = family key in
    let state = c.match-lift.state in
    let old = has_key c.args.unsettled.now in
    let new = has_key c.put_into.new.unsettled in
    let put = c.in_ok-put_back.ensures in
    replaced me old new c.args.chats.now c.lift.new.chats c.put_back.new.chats key c.put_into.new.state c.lift.ensures.others put c.in_ok-put_into.ensures.notes.others
    family spot.id (Some (shown spot c.args.card.now c.args.mark))
    (λ has.
    let follows : FollowsChat me key (old key) by_id state = elim c.match-lift.branch as (λ _. FollowsChat me key (old key) by_id state) [
      | in-Some w ↦
          subst (FollowsChat me key (old key) by_id) (sym w.state-is)
          (subst (Has me key (old key) by_id) (sym c.lift.ensures.before ∙ w.in-Some.is) has).0
      | in-None+in_ok-copy-in-None+in_ok-state-in-None w ↦
          begun me key (old key) by_id state
          (ap (λ (s : ChatState). s.key) w.state-is ∙ w.in_ok-state-in-None.ensures.key ∙ w.in_ok-copy-in-None.ensures)
          (subst (StandsFor me []) (sym w.state-is) w.in_ok-state-in-None.ensures.stands)
          (subst (Has me key (old key) by_id) (sym c.lift.ensures.before ∙ w.in-None.is) has)
    ] in
    put_has me key (old key) (new key) by_id small state c.put_into.new.state follows c.in_ok-put_into.ensures.key spot c.args.card.now c.args.mark none
    (λ before after few order was. c.in_ok-put_into.ensures.follows before after few order was))
    are

pub returns-clause-begun : goal.returns-clause-begun
returns-clause-begun c gone =
    let state = c.match-lift.state in
    let old = has_key c.args.unsettled.now c.args.key.now in
    let new = has_key c.put_into.new.unsettled c.args.key.now in
    elim c.match-lift.branch as (λ _. new ≡ old) [
      | in-Some w ↦ let bad : None ≡ Some w.in-Some.state = sym gone ∙ sym c.lift.ensures.before ∙ w.in-Some.is in cc
      | in-None+in_ok-copy-in-None+in_ok-state-in-None w ↦
          let none = ap (λ (s : ChatState). s.spots) (w.state-is ∙ w.in_ok-state-in-None.ensures.stands) in
          c.in_ok-put_into.ensures.when (no_order state none) ∙ takes_first state c.args.spot.now c.args.card.now old none
    ]
