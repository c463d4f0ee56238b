-- Under which names addresses are shown.
use Rattle.std.specs.Prelude.{◌≡◌, Bool, not, ◌&&◌, List, map}
use Rattle.std.specs.Str.{bytes_eq}
use Rattle.card_type.specs.declared.card.Card.{Card}
use Rattle.card_type.specs.declared.key.ChatKey.{ChatKey}
use Rattle.card_type.specs.declared.key.ChatKey.TheVariants.{Single}
use Rattle.card_type.specs.Keys.{key_eq}
use Rattle.contacts.specs.Kept.{Kept, shown_name}
use Rattle.repair.specs.declared.names.Named.{Named}
use Rattle.repair.specs.declared.turned.TurnedCards.{TurnedCards}
use Rattle.repair.specs.Turned.{cards_of}

-- who wrote a card, with the name under which he is shown
abbrev pub named_by : Kept → Card → Named
named_by contacts card = record { addr = card.from; name = shown_name contacts card.from }

-- so for each of these cards
abbrev pub AreNamed : Kept → TurnedCards → List Named → Type 0
AreNamed contacts cards named = named ≡ map (named_by contacts) (cards_of cards)

-- a chat is the one with an address that is shown under another name than this
abbrev pub has_other_name : Kept → ChatKey → Named → Bool
has_other_name contacts key named = not (bytes_eq named.name (shown_name contacts named.addr)) && key_eq key (Single named.addr)
