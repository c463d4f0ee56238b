-- For which cards a roster stands.
use Rattle.std.specs.Prelude.{◌≡◌, if◌then◌else◌, List}
use Rattle.card_type.specs.declared.card.Card.{Card}
use Rattle.card_type.specs.declared.key.ChatKey.{ChatKey}
use Rattle.mailbox_model.specs.declared.roster.Roster.{Roster}
use Rattle.mailbox_model.specs.Lists.{Bytes}
use Rattle.mailbox_model.specs.Rosters.{roster_begun, roster_after, roster_of}

-- a roster stands for cards where it is the roster of them
abbrev pub StandsFor : Bytes → ChatKey → List Card → Roster → Type 0
StandsFor me key cards r = r ≡ roster_of me key cards

-- after one more card
abbrev pub roster_with : Bytes → ChatKey → Roster → Card → Roster
roster_with me key r c = if r.begun then roster_after key r c else roster_begun me key c
