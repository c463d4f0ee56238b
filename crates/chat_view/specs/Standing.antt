-- For which cards the state of a chat stands.
use Rattle.std.specs.Prelude.{◌≡◌, ℕ, List, map, Option, option_map}
use Rattle.card_type.specs.declared.card.Card.{Card}
use Rattle.card_type.specs.declared.spot.Spot.{Spot}
use Rattle.mailbox_model.specs.declared.row.Mark.{Mark}
use Rattle.card_type.specs.declared.key.ChatKey.{ChatKey}
use Rattle.mailbox_model.specs.Lists.{Bytes}
use Rattle.mailbox_model.specs.Rosters.{roster_of}
use Rattle.mailbox_model.specs.States.{Shown, last_spot, fresh_among}
use Rattle.group_roster.specs.Setters.{At, at, setters_of}
use Rattle.chat_view.specs.declared.state.ChatState.{ChatState}

-- the cards at their spots
abbrev pub placed_at : List Shown → List At
placed_at cards = map (λ c. at c.spot c.card) cards

-- the state of a chat with these cards
abbrev pub state_of : Bytes → ChatKey → List Shown → ChatState
state_of me key cards =
    record {
      key = key;
      spots = map (λ c. c.spot) cards;
      marks = map (λ c. c.mark) cards;
      roster = roster_of me key (map (λ c. c.card) cards);
      setters = setters_of me key (placed_at cards);
      last = last_spot cards;
      fresh = fresh_among cards;
    }

-- a state stands for cards where it is the state of them, under its own key
abbrev pub StandsFor : Bytes → List Shown → ChatState → Type 0
StandsFor me cards s = s ≡ state_of me s.key cards

-- the date of the last shown row
abbrev pub last_date : ChatState → Option ℕ
last_date state = option_map (λ spot. spot.date) state.last

-- all of a state but its roster and its setters is told of these cards
pub record IsMarkedFor (cards : List Shown) (s : ChatState) : Type 0 where
  pub spots : s.spots ≡ map (λ c. c.spot) cards
  pub marks : s.marks ≡ map (λ c. c.mark) cards
  pub last : s.last ≡ last_spot cards
  pub fresh : s.fresh ≡ fresh_among cards

-- a card at its spot, with the mark of its row where it is shown
abbrev pub shown : Spot → Card → Option Mark → Shown
shown spot card mark = record { spot = spot; card = card; mark = mark }
