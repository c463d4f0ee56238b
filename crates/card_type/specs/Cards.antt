-- Cards.
use Rattle.std.specs.Prelude.{ℕ, false, List, [], None}
use Rattle.card_type.specs.declared.card.Card.{Card}

-- a card that says no more than its id and its sender
abbrev pub card_of : List ℕ → List ℕ → Card
card_of id from =
    record {
      id = id;
      from = from;
      from_name = [];
      to = [];
      cc = [];
      date = None;
      replies = [];
      references = [];
      chat = false;
      group = None;
      group_name = [];
      added = None;
      removed = None;
      renamed = false;
      edit = None;
      deletes = [];
      timer = 0;
      subject = [];
      text = [];
      cut = false;
      attachments = [];
      receipt = None;
      app = false;
      updates = [];
      reaction = None;
    }
