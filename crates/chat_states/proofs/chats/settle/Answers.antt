use Rattle.std.proofs.Common.{◌≡◌, refl, sym, ap, ◌∙◌, subst, Bool, false, ◌||◌, length, arith}
use Rattle.std.proofs.lemmas.Bool.{lt-ltb}
use Rattle.card_type.specs.Keys.{key_eq}
use Rattle.card_type.specs.declared.key.ChatKey.{ChatKey}
use Rattle.chat_view.specs.declared.state.ChatState.{ChatState}
use Rattle.mailbox_model.proofs.ListLaws.{key_turn}
use Rattle.chat_states.specs.States.{Has}
use Rattle.chat_states.proofs.Followed.{none_left, settled_has}
use Rattle.chat_states.proofs.OneChat.{at_key, at_other, gone, left_other, one_state}
use Rattle.chat_states.proofs.chats.settle.Goals as goal

pub returns-in_default-clause-others : goal.returns-in_default-clause-others
returns-in_default-clause-others c = left_other c.args.chats.now c.remove.new.self c.args.key.now c.remove.ensures.after

pub returns-else-len-gt0-clause-others : goal.returns-else-len-gt0-clause-others
returns-else-len-gt0-clause-others c = left_other c.args.chats.now c.remove.new.self c.args.key.now c.remove.ensures.after

pub returns-in_ok-put_back-clause-others : goal.returns-in_ok-put_back-clause-others
returns-in_ok-put_back-clause-others c =
    let t : ChatState = record c.in-Some.state { roster = c.args.roster; setters = c.args.setters } in
    let put = c.in_ok-put_back.ensures in
    λ other h. at_other c.remove.new.self c.put_back.new.chats c.args.key.now t put other h ∙ left_other c.args.chats.now c.remove.new.self c.args.key.now c.remove.ensures.after other h

-- the other chats are as settled as they were
settled : (unsettled : ChatKey → Bool) (key other : ChatKey) → key_eq key other ≡ false → unsettled other ≡ (key_eq other key || unsettled other)
settled unsettled key other h = sym (ap (λ b. b || unsettled other) (key_turn other key ∙ h))

pub returns-in_default-clause-states : goal.returns-in_default-clause-states
returns-in_default-clause-states c me unsettled family cards these rests are =
    let key = c.args.key.now in
    one_state me (λ other. key_eq other key || unsettled other) unsettled c.args.chats.now c.remove.new.self key
    (left_other c.args.chats.now c.remove.new.self key c.remove.ensures.after) (settled unsettled key) family family (λ other h. refl) are
    (subst (Has me key (unsettled key) (family key)) (sym (gone c.args.chats.now c.remove.new.self key c.remove.ensures.after))
    (subst (Has me key (key_eq key key || unsettled key) (family key)) (sym c.remove.ensures.before ∙ c.in_default.is) (are key)))

pub returns-else-len-gt0-clause-states : goal.returns-else-len-gt0-clause-states
returns-else-len-gt0-clause-states c me unsettled family cards these rests are =
    let key = c.args.key.now in
    let state = c.in-Some.state in
    let was_open = key_eq key key || unsettled key in
    let old = (subst (Has me key was_open (family key)) (sym c.remove.ensures.before ∙ c.in-Some.is) (are key)).0 in
    let none : length state.spots ≡ 0 = omega (arith, c.len.ensures, c.if-len-gt0.false) in
    one_state me (λ other. key_eq other key || unsettled other) unsettled c.args.chats.now c.remove.new.self key
    (left_other c.args.chats.now c.remove.new.self key c.remove.ensures.after) (settled unsettled key) family family (λ other h. refl) are
    (subst (Has me key (unsettled key) (family key)) (sym (gone c.args.chats.now c.remove.new.self key c.remove.ensures.after))
    (none_left me key was_open (family key) cards these state old none))

pub returns-in_ok-put_back-clause-states : goal.returns-in_ok-put_back-clause-states
returns-in_ok-put_back-clause-states c me unsettled family cards these rests are =
    let key = c.args.key.now in
    let state = c.in-Some.state in
    let was_open = key_eq key key || unsettled key in
    let old = (subst (Has me key was_open (family key)) (sym c.remove.ensures.before ∙ c.in-Some.is) (are key)).0 in
    let t : ChatState = record state { roster = c.args.roster; setters = c.args.setters } in
    let put = c.in_ok-put_back.ensures in
    let some = lt-ltb 0 (length state.spots) (omega (arith, c.len.ensures, c.if-len-gt0.true)) in
    one_state me (λ other. key_eq other key || unsettled other) unsettled c.args.chats.now c.put_back.new.chats key
    (λ other h. at_other c.remove.new.self c.put_back.new.chats key t put other h ∙ left_other c.args.chats.now c.remove.new.self key c.remove.ensures.after other h) (settled unsettled key) family family (λ other h. refl) are
    (subst (Has me key (unsettled key) (family key)) (sym (at_key c.remove.new.self c.put_back.new.chats key t put))
    (settled_has me key was_open (family key) cards these state old (unsettled key) c.args.roster c.args.setters rests some))
