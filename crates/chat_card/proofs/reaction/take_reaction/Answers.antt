use Rattle.std.proofs.Common.{◌≡◌, ◌<◌, Some, None, length, ap, sym, subst, ◌∙◌}
use Rattle.std.specs.Prelude.{if◌then◌else◌, is_some, option_map, position}
use Rattle.card_type.specs.Kinds.{has_some}
use Rattle.chat_card.specs.Reactions.{is_reaction, other_parts, reaction_part, reaction_text}
use Rattle.chat_card.specs.Shown.{shown}
use Rattle.chat_card.specs.Texts.{card_text}
use Rattle.chat_card.proofs.ReactionLemmas.{found_there, is_found, not_found, taken}
use Rattle.chat_card.proofs.reaction.take_reaction.Goals as goal
use Rattle.chat_card.proofs.reaction.take_reaction.Goals.{After-drop-part-inside-5}

pub returns-in_default-clause-reaction : goal.returns-in_default-clause-reaction
returns-in_default-clause-reaction c =
    let parts = c.args.parts.now.items in
    let none : position is_reaction parts ≡ None = sym (c.reaction_index.ensures.index ∙ ap (position is_reaction) c.deref.ensures.value) ∙ c.in_default.is in
    sym (ap (option_map reaction_text) (not_found c.args.edit.now parts c.args.is_reply none))

-- the parts without the reaction
others : (c : After-drop-part-inside-5) → other_parts c.args.parts.now.items ≡ c.remove-part.new.self.items
others c =
    taken is_reaction c.args.parts.now.items c.in-Some.index (sym (c.reaction_index.ensures.index ∙ ap (position is_reaction) c.deref.ensures.value) ∙ c.in-Some.is)
    ∙ sym c.remove-part.ensures.items

-- and the part that was taken out
part : (c : After-drop-part-inside-5) → reaction_part c.args.is_reply c.args.edit.now c.args.parts.now.items ≡ Some c.remove-part.result
part c =
    let parts = c.args.parts.now.items in
    let edit = c.args.edit.now in
    let at = c.in-Some.index in
    let found : position is_reaction parts ≡ Some at = sym (c.reaction_index.ensures.index ∙ ap (position is_reaction) c.deref.ensures.value) ∙ c.in-Some.is in
    let within : at < length parts = subst (λ ps. at < length ps) c.deref.ensures.value c.in-Some.ensures.bound in
    let alone = ap (λ ps. has_some (card_text edit (shown ps)).text) (others c ∙ sym c.deref-2.ensures.value) ∙ sym c.in_ok-has_text.ensures ∙ c.if-branch.false in
    ap (λ b. reaction_part b edit parts) c.if-not-is_reply.false
    ∙ is_found edit parts alone ∙ found_there is_reaction parts at found c.remove-part.result within c.remove-part.ensures.value

pub returns-clause-reaction : goal.returns-clause-reaction
returns-clause-reaction c = ap Some c.in_ok-reaction_text.ensures.value ∙ sym (ap (option_map reaction_text) (part c))

pub returns-clause-parts : goal.returns-clause-parts
returns-clause-parts c =
    let parts = c.args.parts.now.items in
    sym (others c) ∙ sym (ap (λ o. if is_some o then other_parts parts else parts) (part c))
