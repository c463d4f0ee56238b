-- One mail among others.
use Rattle.std.specs.Prelude.{◌≡◌, List}
use Rattle.card_type.specs.declared.spot.Spot.{Spot}
use Rattle.mailbox_model.specs.Present.{Mail, spot}
use Rattle.mailbox_model.specs.Turns.{with_mail}

-- a mail is at a spot, and is one of these beside the others
pub record IsOneOf (at : Spot) (t : Mail) (others ts : List Mail) : Type 0 where
  pub place : spot t.placed ≡ at
  pub all : ts ≡ with_mail t others
