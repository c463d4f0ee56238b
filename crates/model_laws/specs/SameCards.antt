-- What is the same of two mailboxes whatever came first: their cards, and when each was seen.
use Rattle.std.specs.Prelude.{◌≡◌, ℕ, ◌≤◌, Bool, Option, Some, None, IfOk, Result, Ok, Err, List, [], ◌∷◌, filter_map, max, bytes_eq}
use Rattle.std.specs.List.{AllByRecursion, IsDistinct}
use Rattle.std.specs.List.Sorted.{IsPermutation}
use Rattle.card_type.specs.declared.card.Card.{Card}
use Rattle.mailbox_model.specs.declared.change.Change.{Change}
use Rattle.mailbox_model.specs.declared.change.Change.TheVariants.{Arrive, ArriveFault, Expunge, Seen, At}
use Rattle.mailbox_model.specs.declared.change.Fault.{Fault}
use Rattle.mailbox_model.specs.Lists.{Bytes}
use Rattle.mailbox_model.specs.Mailbox.{Mailbox, empty_mailbox, after_all}

-- a card, and when its mail was seen
pub record CardSeen : Type 0 where
  pub card : Card
  pub seen : Option ℕ

abbrev pub card_seen : Option ℕ → Result Card Fault → Option CardSeen
card_seen seen (Ok card) = Some (record { card = card; seen = seen })
card_seen seen (Err fault) = None

-- those of a mailbox, in the order of arrival
abbrev pub cards_seen : Mailbox → List CardSeen
cards_seen m = filter_map (λ entry. card_seen entry.seen entry.read) m.entries

abbrev pub share_id : Card → Card → Bool
share_id a b = bytes_eq a.id b.id

abbrev pub same_card_id : CardSeen → CardSeen → Bool
same_card_id a b = share_id a.card b.card

-- a card that says a date by this moment
abbrev pub IsDatedBy : ℕ → Card → Type 0
IsDatedBy moment card = (date : ℕ) × (card.date ≡ Some date) × (date ≤ moment)

-- each card says a date, no later than its arrival
abbrev pub AreDated : Mailbox → Type 0
AreDated m = AllByRecursion (λ entry. IfOk entry.read (IsDatedBy entry.arrival)) m.entries

-- two mailboxes of one address and one moment have the same cards, seen at the same moments, in any two orders of
-- arrival; no two of the cards have one id, and each is dated no later than it arrived
pub record HaveSameCards (m n : Mailbox) : Type 0 where
  pub me : m.me ≡ n.me
  pub now : m.now ≡ n.now
  pub cards : IsPermutation (cards_seen m) (cards_seen n)
  pub ids : IsDistinct same_card_id (cards_seen m)
  pub first : AreDated m
  pub second : AreDated n

-- ---- changes that only bring cards and move the clock

abbrev pub card_brought : Change → Option Card
card_brought (Arrive card) = Some card
card_brought (ArriveFault fault) = None
card_brought (Expunge uid) = None
card_brought (Seen uid) = None
card_brought (At moment) = None

-- the cards of those that are arrivals
abbrev pub brought : List Change → List Card
brought changes = filter_map card_brought changes

-- from a moment on each of these brings a card that is dated by then, or moves the clock
abbrev pub BringDated : ℕ → List Change → Type 0
BringDated now [] = Unit {0}
BringDated now (Arrive card ∷ changes) = IsDatedBy now card × BringDated now changes
BringDated now (ArriveFault fault ∷ changes) = ⊥
BringDated now (Expunge uid ∷ changes) = ⊥
BringDated now (Seen uid ∷ changes) = ⊥
BringDated now (At moment ∷ changes) = BringDated (max now moment) changes

-- two lists of such changes bring the same cards, no two with one id, in any two orders, and end at one moment
pub record BringSameCards (me : Bytes) (first second : List Change) : Type 0 where
  pub first_dated : BringDated 0 first
  pub second_dated : BringDated 0 second
  pub cards : IsPermutation (brought first) (brought second)
  pub ids : IsDistinct share_id (brought first)
  pub moment : (after_all (empty_mailbox me) first).now ≡ (after_all (empty_mailbox me) second).now
