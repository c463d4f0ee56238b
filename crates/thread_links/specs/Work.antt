-- A list of work: cards whose chat may be another one.
use Rattle.std.specs.Prelude.{◌≡◌, Bool, true, false, ◌&&◌, Option, Some, List, [], ◌∷◌, ◌++◌, filter_map, find}
use Rattle.std.specs.List.{AllByRecursion, list_any}
use Rattle.std.specs.List.Sorted.{IsStrictlySortedBy}
use Rattle.std.specs.Option.{option_and_then}
use Rattle.std.specs.Ordering.{is_lt, eq_by_cmp}
use Rattle.std.specs.Str.{bytes_eq}
use Rattle.card_type.specs.declared.key.ChatKey.{ChatKey}
use Rattle.card_type.specs.declared.spot.Spot.{Spot}
use Rattle.card_type.specs.Spots.{spot_cmp}
use Rattle.mailbox_model.specs.declared.links.Cites.{Cites}
use Rattle.mailbox_model.specs.declared.links.Moved.{Moved}
use Rattle.mailbox_model.specs.Lists.{Bytes}
use Rattle.mailbox_model.specs.Chats.{cites_cmp, chat_from, parent_among, moved, chat_among, DistinctIds}
use Rattle.thread_links.specs.Kept.{Entries, chat_in, cites_in}

-- a chat for each of some ids
abbrev pub Chats : Type 0
Chats = Bytes → Option ChatKey

-- whether one spot comes before another
abbrev pub is_before : Spot → Spot → Bool
is_before a b = is_lt (spot_cmp a b)

abbrev pub has_id : Bytes → Cites → Bool
has_id id t = bytes_eq id t.spot.id

-- each card that is not on the list has the chat that follows from that of its parent
abbrev pub KeepRuleBut : Chats → (Spot → Bool) → List Cites → List Cites → Type 0
KeepRuleBut f pending earlier [] = Unit {0}
KeepRuleBut f pending earlier (t ∷ ts) =
    (pending t.spot ≡ false → f t.spot.id ≡ Some (chat_from t (option_and_then f (parent_among earlier t)))) × KeepRuleBut f pending (earlier ++ t ∷ []) ts

-- the moves of these, from the old chats to those of f
abbrev pub moves_to : Chats → Chats → List Cites → List Moved
moves_to old f ts = filter_map (λ t. moved t.spot.id (old t.spot.id) (f t.spot.id)) ts

-- each card that is not on the list keeps the rule; those that are not before one that is on it are as before; and the
-- moves are told
pub record IsWorking (old f : Chats) (pending : Spot → Bool) (all ts : List Cites) (told : List Moved) : Type 0 where
  pub rule : KeepRuleBut f pending [] ts
  pub fresh : (s : Spot) → pending s ≡ true → AllByRecursion (λ t. is_before t.spot s ≡ false → f t.spot.id ≡ old t.spot.id) all
  pub moves : told ≡ moves_to old f all

-- the work on a change that leaves these entries: all that were kept before or are kept now are in mail order
pub record IsBegun (all before : List Cites) (es : Entries) (pending : Spot → Bool) (told : List Moved) : Type 0 where
  pub order : IsStrictlySortedBy cites_cmp all
  pub once : DistinctIds all
  pub all_kept : (id : Bytes) (t : Cites) → find (has_id id) (cites_in es) ≡ Some t → find (has_id id) all ≡ Some t
  pub working : IsWorking (chat_among before) (chat_in es) pending all (cites_in es) told

-- whether s is one of these spots that come after another one
abbrev pub is_later_of : List Spot → Spot → Spot → Bool
is_later_of spots from s = is_before from s && list_any (eq_by_cmp spot_cmp s) spots
