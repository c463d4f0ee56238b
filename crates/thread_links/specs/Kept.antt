-- Cites by the id of their card, each with its chat once that is known.
use Rattle.std.specs.Prelude.{◌≡◌, Bool, false, Option, Some, List, map, find}
use Rattle.std.specs.List.Sorted.{IsStrictlySortedBy}
use Rattle.std.specs.Option.{option_map, option_map_or, option_and_then}
use Rattle.std.specs.Ordering.{is_lt, nat_cmp}
use Rattle.std.specs.Cmp.Lexicographic.{slice_cmp}
use Rattle.std.specs.Map.{lookup, keys_of}
use Rattle.std.specs.Str.{bytes_eq}
use Rattle.lists.specs.Sorted.{sorted_by}
use Rattle.lists.specs.Ordered.{Ordered, values_at}
use Rattle.card_type.specs.declared.key.ChatKey.{ChatKey}
use Rattle.card_type.specs.declared.spot.Spot.{Spot}
use Rattle.card_type.specs.Spots.{spot_cmp}
use Rattle.mailbox_model.specs.declared.links.Cites.{Cites}
use Rattle.mailbox_model.specs.Lists.{Bytes}
use Rattle.mailbox_model.specs.Chats.{cites_cmp, chat_among}
use Rattle.thread_links.specs.declared.kept.Kept.{Kept}
use Rattle.thread_links.specs.Linked.{citing}

abbrev pub Entries : Type 0
Entries = List (Bytes × Kept)

abbrev pub kept_at : Entries → Bytes → Option Kept
kept_at es id = lookup (bytes_eq id) es

abbrev pub cites_at : Entries → Bytes → Option Cites
cites_at es id = option_map (λ k. k.cites) (kept_at es id)

-- the chat of a card, where it is kept and its chat is known
abbrev pub chat_in : Entries → Bytes → Option ChatKey
chat_in es id = option_and_then (λ k. k.chat) (kept_at es id)

-- the cites in mail order
abbrev pub cites_in : Entries → List Cites
cites_in es = sorted_by cites_cmp (map (λ e. e.1.cites) es)

-- the cites alone, by id
abbrev pub without_chats : Entries → List (Bytes × Cites)
without_chats es = map (λ e. (e.0, e.1.cites)) es

-- whether the card with an id is kept and stands before t
abbrev pub is_earlier : Entries → Cites → Bytes → Bool
is_earlier es t id = option_map_or (λ k. is_lt (spot_cmp k.cites.spot t.spot)) (kept_at es id) false

-- the id of its parent among those that are kept
abbrev pub parent_in : Entries → Cites → Option Bytes
parent_in es t = find (is_earlier es t) t.candidates

-- each cites are kept once, under the id of their card, and under each id stand the spots of those that have it among
-- their candidates
pub record IsIndex (es : Entries) (cited : List (Bytes × Ordered Spot)) : Type 0 where
  pub ids : IsStrictlySortedBy (slice_cmp nat_cmp) (keys_of es)
  pub under : (id : Bytes) (t : Cites) → cites_at es id ≡ Some t → t.spot.id ≡ id
  pub spots : (id : Bytes) → values_at cited id ≡ map (λ t. t.spot) (citing id (cites_in es))

-- and each card has its chat
pub record IsSettled (es : Entries) (cited : List (Bytes × Ordered Spot)) : Type 0 where
  pub index : IsIndex es cited
  pub chats : (id : Bytes) → chat_in es id ≡ chat_among (cites_in es) id
