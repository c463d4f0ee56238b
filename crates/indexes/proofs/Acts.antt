-- What the cards that name a card do to it, one after the other.
use Rattle.std.proofs.Common.{◌≡◌, sym, ap, ◌∙◌, Option, Some, None, List, [], ◌∷◌}
use Rattle.std.specs.Option.{option_map, option_to_list}
use Rattle.card_type.specs.declared.card.Card.{Card}
use Rattle.card_type.specs.declared.effect.Effect.{Effect}
use Rattle.card_type.specs.declared.spot.Spot.{Spot}
use Rattle.card_type.specs.Effects.{effect_of}
use Rattle.mailbox_model.specs.Lists.{Bytes}
use Rattle.mailbox_model.specs.Present.{Placed, spot}
use Rattle.mailbox_model.specs.Rows.{Act, act_on}
use Rattle.chat_view.specs.Makers.{act}

module _ (me : Bytes) (card : Card) (p : Placed) (e : Card) (is : e ≡ p.card) where
  abbrev done : Option Effect → List Act
  done o = option_to_list (option_map (λ effect. record { effect = effect; by = p }) o)

  pub acts : (s : Spot) (effect : Effect) → s ≡ spot p → effect_of e card me ≡ Some effect
      → option_to_list (act_on me card p) ≡ act effect s e ∷ []
  acts s effect at does =
      ap done (ap (λ x. effect_of x card me) (sym is) ∙ does)
      ∙ sym (λ i. act effect (at i) (is i) ∷ [])

  pub acts_not : effect_of e card me ≡ None → option_to_list (act_on me card p) ≡ []
  acts_not does = ap done (ap (λ x. effect_of x card me) (sym is) ∙ does)
