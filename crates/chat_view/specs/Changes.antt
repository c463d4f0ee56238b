-- What becomes of the state of a chat where a card comes or goes, or where its row is marked anew.
use Rattle.std.specs.Prelude.{◌≡◌, ℕ, suc, Bool, false, not, ◌<◌, ◌&&◌, ◌||◌, if◌then◌else◌, nat_lt, Option, Some, None, is_some, List, [], ◌∷◌, length, map, count_by, slice_get, slice_set, option_map}
use Rattle.std.specs.List.{insert, list_all, list_any, remove}
use Rattle.std.specs.List.Sorted.{IsStrictlySortedBy}
use Rattle.std.specs.Option.{option_and_then, option_map_or, option_or}
use Rattle.std.specs.Ordering.{eq_by_cmp, is_lt}
use Rattle.card_type.specs.declared.card.Card.{Card}
use Rattle.card_type.specs.declared.spot.Spot.{Spot}
use Rattle.card_type.specs.Spots.{spot_cmp}
use Rattle.mailbox_model.specs.declared.row.Mark.{Mark}
use Rattle.mailbox_model.specs.Rows.{is_new}
use Rattle.mailbox_model.specs.States.{Shown}
use Rattle.group_roster.specs.Setters.{at, stays_with, stays_without}
use Rattle.chat_view.specs.declared.state.ChatState.{ChatState}

-- in mail order, no two at one spot
abbrev pub AreInOrder : List Shown → Type 0
AreInOrder cards = IsStrictlySortedBy spot_cmp (map (λ c. c.spot) cards)

-- so few that they and one more are counted in a `u32`
abbrev pub AreFew : List Shown → Type 0
AreFew cards = length cards < 4294967295

abbrev pub has_spot : ChatState → Spot → Bool
has_spot s spot = list_any (eq_by_cmp spot_cmp spot) s.spots

-- the state takes a card in: the card is new, and after all others or such that the roster stays as it is
abbrev pub takes_in : ChatState → Spot → Card → Bool
takes_in s spot card =
    not (has_spot s spot)
    && (list_all (λ other. is_lt (spot_cmp other spot)) s.spots || stays_with s.key s.roster s.setters (at spot card))

-- the state lets a card go: it is not the only one, and such that the roster stays as it is
abbrev pub lets_go : ChatState → Spot → Bool
lets_go s spot = has_spot s spot && nat_lt 1 (length s.spots) && stays_without s.key s.setters spot

-- ---- what is told of the marks

-- the index of the last one that is shown
abbrev pub last_shown : List (Option Mark) → Option ℕ
last_shown [] = None
last_shown (m ∷ ms) = option_or (option_map suc (last_shown ms)) (if is_some m then Some 0 else None)

abbrev pub count_new : List (Option Mark) → ℕ
count_new marks = count_by (λ m. option_map_or is_new m false) marks

-- the state whose last card and whose fresh cards are told of these spots and marks
abbrev pub settled : List Spot → List (Option Mark) → ChatState → ChatState
settled spots marks s =
    record s { spots = spots; marks = marks; last = option_and_then (slice_get spots) (last_shown marks); fresh = count_new marks }

-- the number of fresh cards is that of the marks that are New
abbrev pub IsCounted : ChatState → Type 0
IsCounted s = s.fresh ≡ count_new s.marks

-- the last card told of the spots and the marks, and the rest as it is
abbrev pub with_last : ChatState → ChatState
with_last s = record s { last = option_and_then (slice_get s.spots) (last_shown s.marks) }

-- with a card put in at an index, with the one there taken out, and with another mark there
abbrev pub with_at : ℕ → Spot → Option Mark → ChatState → ChatState
with_at i spot mark s = settled (insert s.spots i spot) (insert s.marks i mark) s

abbrev pub without_at : ℕ → ChatState → ChatState
without_at i s = settled (remove s.spots i) (remove s.marks i) s

abbrev pub marked_at : ℕ → Option Mark → ChatState → ChatState
marked_at i mark s = settled s.spots (slice_set s.marks i mark) s
