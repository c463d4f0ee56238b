-- Which cards of a chat its roster rests on, and which others may come or go and leave it as it is.
use Rattle.std.specs.Prelude.{◌≡◌, ℕ, suc, ◌-◌, ◌==◌, nat_lt, Bool, true, false, not, ◌&&◌, ◌||◌, if◌then◌else◌, Option, Some, None, List, [], ◌∷◌, ◌++◌, length, map, take, drop, count_by, slice_get}
use Rattle.std.specs.List.{insert, list_all, list_any, remove}
use Rattle.std.specs.List.Sorted.{IsStrictlySortedBy}
use Rattle.std.specs.Option.{option_map_or}
use Rattle.std.specs.Ordering.{is_lt}
use Rattle.lists.specs.Distinct.{each_once}
use Rattle.card_type.specs.declared.card.Card.{Card}
use Rattle.card_type.specs.declared.key.ChatKey.{ChatKey}
use Rattle.card_type.specs.declared.key.ChatKey.TheVariants.{SelfChat, Single, Group, Thread}
use Rattle.card_type.specs.declared.spot.Spot.{Spot}
use Rattle.card_type.specs.Effects.{is_among}
use Rattle.card_type.specs.Spots.{spot_cmp, spot_eq}
use Rattle.mailbox_model.specs.declared.roster.Roster.{Roster}
use Rattle.mailbox_model.specs.Chats.{people}
use Rattle.mailbox_model.specs.Lists.{Bytes}
use Rattle.mailbox_model.specs.Rosters.{changes_members, changes_name, listed, roster_begun, roster_after}
use Rattle.group_roster.specs.declared.listings.Listing.{Listing}
use Rattle.group_roster.specs.declared.setters.Setters.{Setters}
use Rattle.group_roster.specs.Standing.{StandsFor}

-- a card at its spot
pub record At : Type 0 where
  pub spot : Spot
  pub card : Card

abbrev pub at : Spot → Card → At
at spot card = record { spot = spot; card = card }

-- a group and a thread go by their first card
abbrev pub has_founder : ChatKey → Bool
has_founder SelfChat = false
has_founder (Single other) = false
has_founder (Group g) = true
has_founder (Thread i) = true

abbrev pub is_group : ChatKey → Bool
is_group SelfChat = false
is_group (Single other) = false
is_group (Group g) = true
is_group (Thread i) = false

abbrev pub is_thread : ChatKey → Bool
is_thread SelfChat = false
is_thread (Single other) = false
is_thread (Group g) = false
is_thread (Thread i) = true

-- in mail order, no two at one spot
abbrev pub AreInOrder : List At → Type 0
AreInOrder cards = IsStrictlySortedBy spot_cmp (map (λ a. a.spot) cards)

-- ---- the setters

abbrev pub no_setters : Setters
no_setters = record { first = None; listings = []; named = None; timed = None; joined = [] }

-- a card that says the members of a group, and whom it says
abbrev pub listing_of : At → Listing
listing_of a = record { spot = a.spot; members = listed a.card }

-- a card of a chat program sets the timer
abbrev pub timed_after : Option Spot → At → Option Spot
timed_after timed a = if a.card.chat then Some a.spot else timed

-- who becomes a member of a thread by a card
abbrev pub newcomers : List Bytes → Card → List Bytes
newcomers members c = drop (length members) (each_once (members ++ people c))

-- each of them joined by this card
abbrev pub joined_at : List Bytes → At → List Spot
joined_at members a = map (λ _. a.spot) (newcomers members a.card)

-- of the first card
abbrev pub setters_begun : ChatKey → At → Setters
setters_begun SelfChat a = record no_setters { timed = timed_after None a }
setters_begun (Single other) a = record no_setters { timed = timed_after None a }
setters_begun (Group g) a = record no_setters { first = Some a.spot; listings = listing_of a ∷ []; timed = timed_after None a }
setters_begun (Thread i) a = record no_setters { first = Some a.spot; timed = timed_after None a; joined = joined_at [] a }

-- a card of a group's member may say its members, its name and its timer anew
abbrev pub setters_after_member : Setters → At → Setters
setters_after_member s a =
    record s {
      listings = if changes_members a.card then s.listings ++ listing_of a ∷ [] else s.listings;
      named = if changes_name a.card then Some a.spot else s.named;
      timed = timed_after s.timed a;
    }

-- after each further card, where the roster is that before it
abbrev pub setters_after : ChatKey → Roster → Setters → At → Setters
setters_after SelfChat r s a = record s { timed = timed_after s.timed a }
setters_after (Single other) r s a = record s { timed = timed_after s.timed a }
setters_after (Group g) r s a = if is_among r.members a.card.from then setters_after_member s a else s
setters_after (Thread i) r s a = record s { timed = timed_after s.timed a; joined = s.joined ++ joined_at r.members a }

-- after one more card
abbrev pub setters_with : ChatKey → Roster → Setters → At → Setters
setters_with key r s a = if r.begun then setters_after key r s a else setters_begun key a

-- after these further cards
abbrev pub setters_from : ChatKey → Roster → Setters → List At → Setters
setters_from key r s [] = s
setters_from key r s (a ∷ more) = setters_from key (roster_after key r a.card) (setters_after key r s a) more

-- of these cards, in mail order
abbrev pub setters_of : Bytes → ChatKey → List At → Setters
setters_of me key [] = no_setters
setters_of me key (a ∷ more) = setters_from key (roster_begun me key a.card) (setters_begun key a) more

-- a roster and its setters stand for the same cards
pub record RestsOn (me : Bytes) (key : ChatKey) (cards : List At) (r : Roster) (s : Setters) : Type 0 where
  pub roster : StandsFor me key (map (λ a. a.card) cards) r
  pub setters : s ≡ setters_of me key cards

-- ---- which card leaves the roster as it is

-- the spot is before the one that is kept
abbrev pub is_before : Spot → Option Spot → Bool
is_before spot kept = option_map_or (λ other. is_lt (spot_cmp spot other)) kept false

-- it is after the one that is kept
abbrev pub is_after : Spot → Option Spot → Bool
is_after spot kept = option_map_or (λ other. is_lt (spot_cmp other spot)) kept false

-- it is the one that is kept
abbrev pub is_kept : Spot → Option Spot → Bool
is_kept spot kept = option_map_or (spot_eq spot) kept false

-- put in, it sets no timer, or a later card does
abbrev pub keeps_timer : Setters → At → Bool
keeps_timer s a = not a.card.chat || is_before a.spot s.timed

-- likewise the name of a group
abbrev pub keeps_name : Setters → At → Bool
keeps_name s a = not (changes_name a.card) || is_before a.spot s.named

-- how many cards before a spot say the members of a group
abbrev pub place_of : List Listing → Spot → ℕ
place_of listings spot = count_by (λ l. is_lt (spot_cmp l.spot spot)) listings

-- whom the last of so many of them says
abbrev pub members_at : List Listing → ℕ → List Bytes
members_at listings place = if place == 0 then [] else option_map_or (λ l. l.members) (slice_get listings (place - 1)) []

-- the members of a group before a spot
abbrev pub members_before : Setters → Spot → List Bytes
members_before s spot = members_at s.listings (place_of s.listings spot)

-- the same people are in both, in any order
abbrev pub are_same_people : List Bytes → List Bytes → Bool
are_same_people xs ys = list_all (is_among xs) ys && list_all (is_among ys) xs

-- put in there, it says no members of a group, or those who are in already, and a later card says them too
abbrev pub keeps_members : Setters → ℕ → Card → Bool
keeps_members s place c =
    not (changes_members c) || (nat_lt place (length s.listings) && are_same_people (members_at s.listings place) (listed c))

-- put in, it is of a member
abbrev pub is_of_member : Setters → At → Bool
is_of_member s a = is_among (members_before s a.spot) a.card.from

-- who joined a thread before a spot
abbrev pub joined_before : Roster → Setters → Spot → List Bytes
joined_before r s spot = take (count_by (λ other. is_lt (spot_cmp other spot)) s.joined) r.members

-- put in among the cards of a group, or of a thread, it leaves the roster as it is
abbrev pub stays_with_in_group : Setters → At → Bool
stays_with_in_group s a =
    is_after a.spot s.first
    && (not (is_of_member s a) || (keeps_members s (place_of s.listings a.spot) a.card && keeps_name s a && keeps_timer s a))

abbrev pub stays_with_in_thread : Roster → Setters → At → Bool
stays_with_in_thread r s a =
    is_after a.spot s.first && list_all (is_among (joined_before r s a.spot)) (people a.card) && keeps_timer s a

-- or of any chat
abbrev pub stays_with : ChatKey → Roster → Setters → At → Bool
stays_with SelfChat r s a = r.begun && keeps_timer s a
stays_with (Single other) r s a = r.begun && keeps_timer s a
stays_with (Group g) r s a = stays_with_in_group s a
stays_with (Thread i) r s a = stays_with_in_thread r s a

-- whom the card says, where it says members, is kept at a place
abbrev pub with_said : Setters → ℕ → At → Setters
with_said s place a = if changes_members a.card then record s { listings = insert s.listings place (listing_of a) } else s

-- with the card put in, whom it says is kept, where it is of a member of a group
abbrev pub setters_put : ChatKey → Setters → At → Setters
setters_put SelfChat s a = s
setters_put (Single other) s a = s
setters_put (Group g) s a = if is_of_member s a then with_said s (place_of s.listings a.spot) a else s
setters_put (Thread i) s a = s

-- the card at a spot, whose place this is, says the members of a group
abbrev pub is_listed : Setters → ℕ → Spot → Bool
is_listed s place spot = option_map_or (λ l. spot_eq spot l.spot) (slice_get s.listings place) false

-- taken out there, it said no members of a group, or those who were in already, and a later card says them too
abbrev pub leaves_members : Setters → ℕ → Spot → Bool
leaves_members s place spot =
    not (is_listed s place spot)
    || (nat_lt (suc place) (length s.listings) && are_same_people (members_at s.listings place) (members_at s.listings (suc place)))

-- taken out of a group, or of a thread, it leaves the roster as it is
abbrev pub stays_without_in_group : Setters → Spot → Bool
stays_without_in_group s spot =
    is_after spot s.first && leaves_members s (place_of s.listings spot) spot && not (is_kept spot s.named) && not (is_kept spot s.timed)

abbrev pub stays_without_in_thread : Setters → Spot → Bool
stays_without_in_thread s spot = is_after spot s.first && not (list_any (spot_eq spot) s.joined) && not (is_kept spot s.timed)

-- or of any chat that has other cards
abbrev pub stays_without : ChatKey → Setters → Spot → Bool
stays_without SelfChat s spot = not (is_kept spot s.timed)
stays_without (Single other) s spot = not (is_kept spot s.timed)
stays_without (Group g) s spot = stays_without_in_group s spot
stays_without (Thread i) s spot = stays_without_in_thread s spot

-- whom the card at a spot said is not kept at its place
abbrev pub without_said : Setters → ℕ → Spot → Setters
without_said s place spot = if is_listed s place spot then record s { listings = remove s.listings place } else s

-- without the card, whom it said is not kept
abbrev pub setters_taken : ChatKey → Setters → Spot → Setters
setters_taken SelfChat s spot = s
setters_taken (Single other) s spot = s
setters_taken (Group g) s spot = without_said s (place_of s.listings spot) spot
setters_taken (Thread i) s spot = s
