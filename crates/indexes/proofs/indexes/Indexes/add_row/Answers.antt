use Rattle.std.proofs.Common.{◌≡◌, refl, false, sym, ap, ◌∙◌, subst, ◌&&◌, ◌==◌, ◌∷◌, [], ◌++◌, Some}
use Rattle.std.specs.Prelude.{is_some, find, if◌then◌else◌}
use Rattle.std.specs.FinMap as map_of
use Rattle.std.specs.Option.{option_map}
use Rattle.chat_view.specs.Standing.{shown, state_of}
use Rattle.effects.specs.Named.{StandsFor as AreEffects}
use Rattle.mailbox_model.specs.Mailbox.{card_at}
use Rattle.mailbox_model.specs.Present.{mail_at, present_cards}
use Rattle.mailbox_model.specs.Rows.{row}
use Rattle.mailbox_model.specs.Turns.{is_mail}
use Rattle.indexes.specs.Kept.{deadline_at, deadline_of, spot_at}
use Rattle.indexes.proofs.Grown.{before, before_is, shown_is, states_more, deadlines_more, on_ok_all, on_ok_of}
use Rattle.indexes.proofs.Making.{lent_card, own, spot_of_mail}
use Rattle.indexes.proofs.indexes.Indexes.add_row.Goals as goal

pub shown_at-requires-clause-there : goal.shown_at-requires-clause-there
shown_at-requires-clause-there g c = subst (λ m. spot_at m c.args.spot.now.uid ≡ Some c.args.spot.now) (sym c.as_is.ensures) c.requires.there

pub shown_at-requires-clause-card : goal.shown_at-requires-clause-card
shown_at-requires-clause-card g c =
    subst (λ m. card_at m c.args.spot.now.uid ≡ Some c.unwrap-card.result.now) (sym c.as_is.ensures)
    (lent_card c.args.mailbox.now.mailbox c.args.spot.now.uid c.card.result c.unwrap-card.result c.card.ensures.card c.unwrap-card.ensures)

pub shown_at-requires-clause-effects : goal.shown_at-requires-clause-effects
shown_at-requires-clause-effects g c = subst (λ m. AreEffects c.args.self.now.effects (present_cards m)) (sym c.as_is.ensures) c.requires.cards.effects

pub returns-clause-states : goal.returns-clause-states
returns-clause-states g c =
    let m = c.args.mailbox.now.mailbox in
    let s = c.args.spot.now in
    let card = c.unwrap-card.result.now in
    let key = c.args.key in
    let mark = c.in_ok-shown.shown.mark in
    on_ok_all c.add_to_state.result c.add_to_state.ensures.kept c.add_to_state.ensures.begun c.add_to_state.ensures.others (λ kept begun others t ts is content in_chat stands.
    let mark_is = c.in_ok-shown.ensures.mark t (subst (λ n. mail_at n s.uid ≡ Some t) (sym c.as_is.ensures) is) in
    let same = shown_is m t s card mark (spot_of_mail m s.uid s t c.requires.there is) (own m s.uid t card is (lent_card m s.uid c.card.result c.unwrap-card.result c.card.ensures.card c.unwrap-card.ensures)) (subst (λ n. mark ≡ option_map (λ r. r.mark) (row n t)) c.as_is.ensures mark_is) in
    states_more m ts t content key in_chat c.args.self.now.chats c.add_to_state.new.chats stands
    (subst (λ more. map_of.get c.add_to_state.new.chats key ≡ Some (state_of m.me key (before m ts t content key in_chat ++ more ∷ []))) same
    (subst (λ me. map_of.get c.add_to_state.new.chats key ≡ Some (state_of me key (before m ts t content key in_chat ++ shown s card mark ∷ []))) c.me-me.ensures.value
    (before_is m ts t content key in_chat c.args.self.now.chats stands
    (λ o cards. o ≡ map_of.get c.args.self.now.chats key → map_of.get c.add_to_state.new.chats key ≡ Some (state_of c.me-me.result.now key (cards ++ shown s card mark ∷ [])))
    (λ h. begun (sym h))
    (λ cards h. kept cards (sym h ∙ ap (λ me. Some (state_of me key cards)) (sym c.me-me.ensures.value)))
    refl)))
    others)

pub returns-clause-deadlines : goal.returns-clause-deadlines
returns-clause-deadlines g c =
    let m = c.args.mailbox.now.mailbox in
    let s = c.args.spot.now in
    on_ok_of c.add_to_state.result (λ t ts is content none stands.
    let deadline_is = c.in_ok-shown.ensures.deadline t (subst (λ n. mail_at n s.uid ≡ Some t) (sym c.as_is.ensures) is) in
    let own = subst (λ n. c.in_ok-shown.shown.deadline ≡ deadline_of n t) c.as_is.ensures deadline_is in
    let at = ap (λ place. place.uid) (spot_of_mail m s.uid s t c.requires.there is) in
    deadlines_more m ts t content c.args.self.now.timers c.set_deadline.new.timers (subst (λ uid. is_some (find (is_mail uid) ts) ≡ false) at none) stands
    (λ other. c.in_ok-set_deadline.ensures other ∙ (λ i. if at i == other && is_some (own i) then own i else deadline_at c.args.self.now.timers other)))
