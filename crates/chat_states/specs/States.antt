-- For which cards the states of all chats stand, where the rosters of some are to be folded anew.
use Rattle.std.specs.Prelude.{◌≡◌, Bool, true, false, Option, Some, None, List}
use Rattle.std.specs.FinMap as map_of
use Rattle.std.specs.List.{list_any}
use Rattle.card_type.specs.Keys.{key_cmp, key_eq}
use Rattle.card_type.specs.Kinds.{has_some}
use Rattle.card_type.specs.declared.key.ChatKey.{ChatKey}
use Rattle.mailbox_model.specs.Lists.{Bytes}
use Rattle.mailbox_model.specs.States.{Shown}
use Rattle.chat_view.specs.declared.state.ChatState.{ChatState}
use Rattle.chat_view.specs.Standing.{IsMarkedFor, StandsFor}
use Rattle.chat_states.specs.Families.{Family, AreCardsOf}

-- a state follows cards; where it is settled, its roster and its setters do too
pub record Follows (me : Bytes) (unsettled : Bool) (cards : List Shown) (s : ChatState) : Type 0 where
  pub marked : IsMarkedFor cards s
  pub known : unsettled ≡ false → StandsFor me cards s

-- a state is that of a chat, and follows its cards
pub record FollowsChat (me : Bytes) (key : ChatKey) (unsettled : Bool) (by_id : Bytes → Option Shown) (s : ChatState) : Type 0 where
  pub is_of : s.key ≡ key
  pub cards : List Shown
  pub are : AreCardsOf by_id cards
  pub follows : Follows me unsettled cards s

-- a chat has a state where it has a card; only an unsettled state may be one of no card
abbrev pub Has : Bytes → ChatKey → Bool → (Bytes → Option Shown) → Option ChatState → Type 0
Has me key unsettled by_id None = (id : Bytes) → by_id id ≡ None
Has me key unsettled by_id (Some s) = FollowsChat me key unsettled by_id s × (unsettled ≡ false → has_some s.spots ≡ true)

-- so has each chat, where the test says which are unsettled
abbrev pub AreStatesOf : Bytes → (ChatKey → Bool) → Family → map_of.FinMap key_cmp ChatState → Type 0
AreStatesOf me unsettled family states = (key : ChatKey) → Has me key (unsettled key) (family key) (map_of.get states key)

-- ---- the unsettled chats, by their keys

abbrev pub has_key : List ChatKey → ChatKey → Bool
has_key keys key = list_any (key_eq key) keys

-- one chat may have become unsettled, and no other has
pub record MayUnsettle (key : ChatKey) (before after : List ChatKey) : Type 0 where
  pub stays : has_key before key ≡ true → has_key after key ≡ true
  pub others : (other : ChatKey) → key_eq key other ≡ false → has_key after other ≡ has_key before other
