use Rattle.std.proofs.Common.{◌≡◌, ap, ◌∙◌, Some, [], ◌∷◌, arith}
use Rattle.std.proofs.lemmas.List.{length-map}
use Rattle.chat_view.specs.Changes.{AreFew}
use Rattle.chat_view.specs.Standing.{shown, state_of}
use Rattle.indexes.proofs.Stated.{at_key, at_other, state_with, taken_out, none_there}
use Rattle.indexes.proofs.build.add_to_state.Goals.{in-Some, in-None+in_ok-copy-in-None+in_ok-state-in-None}
use Rattle.indexes.proofs.build.add_to_state.Goals as goal

pub returns-clause-kept : goal.returns-clause-kept
returns-clause-kept c cards is =
    let me = c.args.me.now in
    let x = c.match-remove.state in
    let few : AreFew cards = omega (arith, c.requires.room (state_of me c.args.key cards) is, length-map cards (λ d. d.spot)) in
    let before : x ≡ state_of me c.args.key cards = elim c.match-remove.branch as (λ _. x ≡ state_of me c.args.key cards) [
      | in-Some w ↦ w.state-is ∙ taken_out c.remove.result w.in-Some.state (state_of me c.args.key cards) w.in-Some.is (c.remove.ensures.before ∙ is)
      | in-None+in_ok-copy-in-None+in_ok-state-in-None w ↦ none_there c.remove.result (state_of me c.args.key cards) w.in-None.is (c.remove.ensures.before ∙ is)
    ] in
    at_key c.args.chats.now c.remove.new.self c.insert.new.self c.args.key c.add.new.self c.remove.ensures.after c.in_ok-_none.ensures.ok
    ∙ ap Some (state_with me c.args.key cards (shown c.args.spot.now c.args.card.now c.args.mark ∷ []) x c.add.new.self before few c.in_ok-add.ensures.key c.in_ok-add.ensures.stands)

pub returns-clause-begun : goal.returns-clause-begun
returns-clause-begun c is =
    let me = c.args.me.now in
    let x = c.match-remove.state in
    let few : AreFew [] = omega arith in
    let before : x ≡ state_of me c.args.key [] = elim c.match-remove.branch as (λ _. x ≡ state_of me c.args.key []) [
      | in-Some w ↦ none_there c.remove.result w.in-Some.state (c.remove.ensures.before ∙ is) w.in-Some.is
      | in-None+in_ok-copy-in-None+in_ok-state-in-None w ↦
          w.state-is ∙ w.in_ok-state-in-None.ensures.stands
          ∙ ap (λ key. state_of me key []) (w.in_ok-state-in-None.ensures.key ∙ w.in_ok-copy-in-None.ensures)
    ] in
    at_key c.args.chats.now c.remove.new.self c.insert.new.self c.args.key c.add.new.self c.remove.ensures.after c.in_ok-_none.ensures.ok
    ∙ ap Some (state_with me c.args.key [] (shown c.args.spot.now c.args.card.now c.args.mark ∷ []) x c.add.new.self before few c.in_ok-add.ensures.key c.in_ok-add.ensures.stands)

pub returns-clause-others : goal.returns-clause-others
returns-clause-others c other apart =
    at_other c.args.chats.now c.remove.new.self c.insert.new.self c.args.key c.add.new.self c.remove.ensures.after c.in_ok-_none.ensures.ok other apart
