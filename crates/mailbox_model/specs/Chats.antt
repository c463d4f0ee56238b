-- Which chat a card of kind Content is in.
use Rattle.std.specs.Prelude.{◌≡◌, Bool, false, Option, Some, None, List, [], ◌∷◌, ◌++◌, map, reverse, find, slice_get, filter, filter_map, unwrap_or, option_map, if◌then◌else◌}
use Rattle.std.specs.List.{list_any}
use Rattle.std.specs.Option.{option_eq, option_map_or, option_or}
use Rattle.std.specs.Str.{bytes_eq}
use Rattle.std.specs.declared.cmp.Ordering.{Ordering}
use Rattle.std.specs.Ordering.{on}
use Rattle.lists.specs.Distinct.{each_once}
use Rattle.kit.specs.Options.{◌>>=◌}
use Rattle.card_type.specs.declared.card.Card.{Card}
use Rattle.card_type.specs.declared.key.ChatKey.{ChatKey}
use Rattle.card_type.specs.declared.key.ChatKey.TheVariants.{SelfChat, Single, Group, Thread}
use Rattle.card_type.specs.declared.spot.Spot.{Spot}
use Rattle.card_type.specs.Keys.{key_eq}
use Rattle.card_type.specs.Spots.{spot_cmp}
use Rattle.mailbox_model.specs.declared.links.Cites.{Cites}
use Rattle.mailbox_model.specs.declared.links.Moved.{Moved}
use Rattle.mailbox_model.specs.Lists.{Bytes, without, first_some}
use Rattle.mailbox_model.specs.Mailbox.{Mailbox}
use Rattle.mailbox_model.specs.Present.{Mail, spot, contents}

-- the addresses of From, To and Cc
abbrev pub people : Card → List Bytes
people t = t.from ∷ t.to ++ t.cc

-- the people but for oneself, each once
abbrev pub others : Bytes → Card → List Bytes
others me t = without me (each_once (people t))

-- the chat with oneself, or with the only other
abbrev pub direct_chat : List Bytes → Option ChatKey
direct_chat [] = Some SelfChat
direct_chat (a ∷ []) = Some (Single a)
direct_chat (a ∷ b ∷ more) = None

-- the chat that needs no parent: that of the group, else that of no others or of the only other
abbrev pub own_chat : Bytes → Card → Option ChatKey
own_chat me t = option_or (option_map Group t.group) (direct_chat (others me t))

-- the ids of which the first that an earlier card has is that of the parent
abbrev pub candidates : Card → List Bytes
candidates t = t.replies ++ reverse t.references

-- the id of the thread that begins here: the first reference, else the first reply, else the own id
abbrev pub root : Card → Bytes
root t = unwrap_or (slice_get (t.references ++ t.replies) 0) t.id

-- the cites of a card at a spot
abbrev pub cites_by : Bytes → Spot → Card → Cites
cites_by me spot t = record { spot = spot; candidates = candidates t; own = own_chat me t; root = root t }

abbrev pub cites_cmp : Cites → Cites → Ordering
cites_cmp = on (λ t. t.spot) spot_cmp

-- a group or a thread takes in what answers its cards
abbrev pub handed_on : ChatKey → Option ChatKey
handed_on SelfChat = None
handed_on (Single a) = None
handed_on (Group g) = Some (Group g)
handed_on (Thread r) = Some (Thread r)

-- the chat of t, where that of its parent is given
abbrev pub chat_from : Cites → Option ChatKey → ChatKey
chat_from t of_parent = unwrap_or t.own (unwrap_or (of_parent >>= handed_on) (Thread t.root))

-- ---- the chats of all, from the first card on

-- ids, each with its chat
abbrev pub Known : Type 0
Known = List (Bytes × ChatKey)

abbrev pub known_chat : Known → Bytes → Option ChatKey
known_chat known id = option_map (λ k. k.1) (find (λ k. bytes_eq id k.0) known)

-- the chat of the next card: its parent is the first candidate that is known
abbrev pub next_chat : Known → Cites → ChatKey
next_chat known t = chat_from t (first_some (known_chat known) t.candidates)

abbrev pub known_after : Known → List Cites → Known
known_after known [] = known
known_after known (t ∷ ts) = known_after (known ++ (t.spot.id, next_chat known t) ∷ []) ts

-- of cards in mail order, the id of each with its chat
abbrev pub chats_of : List Cites → Known
chats_of ts = known_after [] ts

-- the chat of the one of these with an id
abbrev pub chat_among : List Cites → Bytes → Option ChatKey
chat_among ts id = known_chat (chats_of ts) id

-- ---- the rule, which the chats keep

-- whether one of these has the id
abbrev pub is_id_among : List Cites → Bytes → Bool
is_id_among ts id = list_any (λ e. bytes_eq id e.spot.id) ts

-- no id is there twice
abbrev pub DistinctIds : List Cites → Type 0
DistinctIds [] = Unit {0}
DistinctIds (t ∷ ts) = (is_id_among ts t.spot.id ≡ false) × DistinctIds ts

-- the id of the parent: the first candidate that is the id of an earlier card
abbrev pub parent_among : List Cites → Cites → Option Bytes
parent_among earlier t = find (is_id_among earlier) t.candidates

-- each of these has the chat that follows from it and from the chat of its parent; the earlier ones precede them
abbrev pub KeepRule : (Bytes → ChatKey) → List Cites → List Cites → Type 0
KeepRule chat_of earlier [] = Unit {0}
KeepRule chat_of earlier (t ∷ ts) =
    (chat_of t.spot.id ≡ chat_from t (option_map chat_of (parent_among earlier t))) × KeepRule chat_of (earlier ++ t ∷ []) ts

-- ---- between two lists of cites

-- the card with an id, where its chat is another one
abbrev pub moved : Bytes → Option ChatKey → Option ChatKey → Option Moved
moved id before after =
    if option_eq key_eq before after then None else Some (record { id = id; before = before; after = after })

-- of all these, in their order, each whose chat is another one
abbrev pub moves : List Cites → List Cites → List Cites → List Moved
moves all before after =
    filter_map (λ t. moved t.spot.id (chat_among before t.spot.id) (chat_among after t.spot.id)) all

-- ---- of a mailbox

abbrev pub cites : Mailbox → List Cites
cites m = map (λ t. cites_by m.me (spot t.placed) t.placed.card) (contents m)

abbrev pub chats : Mailbox → Known
chats m = chats_of (cites m)

-- the chat of the card with this id
abbrev pub chat : Mailbox → Bytes → Option ChatKey
chat m id = chat_among (cites m) id

abbrev pub is_chat : ChatKey → Option ChatKey → Bool
is_chat key other = option_map_or (key_eq key) other false

-- the mails of a chat, in mail order
abbrev pub chat_mails : Mailbox → ChatKey → List Mail
chat_mails m key = let known = chats m in filter (λ t. is_chat key (known_chat known t.placed.card.id)) (contents m)
