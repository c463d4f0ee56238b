-- Cites that are kept, as contracts see them.
use Rattle.std.specs.Prelude.{Bool, not, Option, List, ◌∷◌, ◌++◌, map, filter}
use Rattle.std.specs.Option.{option_and_then}
use Rattle.std.specs.Str.{bytes_eq}
use Rattle.card_type.specs.declared.key.ChatKey.{ChatKey}
use Rattle.card_type.specs.Effects.{is_among}
use Rattle.card_type.specs.Kinds.{kind_of, is_content}
use Rattle.mailbox_model.specs.declared.links.Cites.{Cites}
use Rattle.mailbox_model.specs.Lists.{Bytes}
use Rattle.mailbox_model.specs.Present.{Mail, spot}
use Rattle.mailbox_model.specs.Chats.{cites_by, parent_among, chat_among}

-- the cites in mail order, and whether they are whole: where memory ran out they are not
pub record Linked : Type 0 where
  pub cites : List Cites
  pub whole : Bool

-- all but those of the card with an id
abbrev pub without_id : Bytes → List Cites → List Cites
without_id id ts = filter (λ t. not (bytes_eq id t.spot.id)) ts

-- the cites that have an id among their candidates
abbrev pub citing : Bytes → List Cites → List Cites
citing id ts = filter (λ t. is_among t.candidates id) ts

-- the chat of the parent of t among cards in mail order
abbrev pub chat_of_parent : List Cites → Cites → List Cites → Option ChatKey
chat_of_parent earlier t later = option_and_then (chat_among (earlier ++ t ∷ later)) (parent_among earlier t)

-- the cites of the contents among mails
abbrev pub cites_among : Bytes → List Mail → List Cites
cites_among me ts = map (λ t. cites_by me (spot t.placed) t.placed.card) (filter (λ t. is_content (kind_of t.placed.card)) ts)
