-- Of which mail a maker makes the row, and what acted on it so far.
use Rattle.std.specs.Prelude.{◌≡◌, ℕ, Option, List}
use Rattle.card_type.specs.declared.card.Card.{Card}
use Rattle.card_type.specs.declared.effect.Effect.{Effect}
use Rattle.card_type.specs.declared.spot.Spot.{Spot}
use Rattle.mailbox_model.specs.Lists.{Bytes}
use Rattle.mailbox_model.specs.Present.{Placed, Mail}
use Rattle.mailbox_model.specs.Rows.{Act, expiry, is_withdrawn, shown_by}
use Rattle.chat_view.specs.declared.maker.RowMaker.{RowMaker}

-- a card at a spot
abbrev pub placed : Spot → Card → Placed
placed spot card = record { date = spot.date; uid = spot.uid; card = card }

-- a mail whose card is at a spot
abbrev pub mail : Spot → Card → Option ℕ → Mail
mail spot card seen = record { placed = placed spot card; seen = seen }

-- what a card at a spot does
abbrev pub act : Effect → Spot → Card → Act
act effect spot card = record { effect = effect; by = placed spot card }

-- a maker stands for a mail and for what acts on it where it keeps the row that is shown of it, whether it is withdrawn, and
-- when it expires
pub record MakesRow (me : Bytes) (t : Mail) (acts : List Act) (maker : RowMaker) : Type 0 where
  pub row : maker.row ≡ shown_by me t acts
  pub withdrawn : maker.withdrawn ≡ is_withdrawn acts
  pub expiry : maker.expiry ≡ expiry me t
