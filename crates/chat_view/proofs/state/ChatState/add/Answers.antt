use Rattle.std.proofs.Common.{refl, ap, ◌∙◌, ◌∷◌, [], ◌++◌, suc, Some, is_some, false}
use Rattle.std.specs.Prelude.{if◌then◌else◌}
use Rattle.std.specs.Option.{option_map_or}
use Rattle.mailbox_model.specs.Rows.{is_new}
use Rattle.chat_view.specs.Standing.{placed_at, shown}
use Rattle.chat_view.proofs.States.{few_fresh, state_more}
use Rattle.chat_view.proofs.Told.{rests_on}
use Rattle.chat_view.proofs.state.ChatState.add.Goals as goal

pub returns-clause-stands : goal.returns-clause-stands
returns-clause-stands c cards few is =
    let state = c.args.self.now in
    let me = c.args.me.now in
    let mark = c.args.mark in
    let spot = c.args.spot.now in
    let spots = c.in_ok-push.ensures.ok ∙ ap (λ s. state.spots ++ s ∷ []) c.in_ok-copy.ensures ∙ ap (λ s. s.spots ++ spot ∷ []) is in
    let marks = c.in_ok-push-2.ensures.ok ∙ ap (λ s. s.marks ++ mark ∷ []) is in
    let rests = c.in_ok-add_at.ensures.stands (placed_at cards) (rests_on me cards state is) in
    let last = c.in_ok-renew_last.ensures ∙ ap (λ s. if is_some mark then Some spot else s.last) is in
    let below = few_fresh me cards state is few in
    let fresh = c.fresh_with-self.ensures below ∙ ap (λ s. if option_map_or is_new mark false then suc s.fresh else s.fresh) is in
    state_more me state.key cards (shown spot c.args.card.now mark) _ refl spots marks rests last fresh
