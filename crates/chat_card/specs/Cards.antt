-- The card of a mail, by the rules of its fields and its parts.
use Rattle.std.specs.Prelude.{ℕ, ◌==◌, if◌then◌else◌, List, length, drop, Option, Some, None, Result, Ok, Err}
use Rattle.card_type.specs.Kinds.{has_some}
use Rattle.card_type.specs.Rules.{fits_weight}
use Rattle.card_type.specs.declared.card.Card.{Card}
use Rattle.mail_address.specs.declared.person.Person.{Person}
use Rattle.mail_headers.specs.Headers.{Head, header_of}
use Rattle.chat_card.specs.Contents.{contents_of}
use Rattle.chat_card.specs.Envelope.{envelope_of, sender}
use Rattle.chat_card.specs.Requests.{requests_of}
use Rattle.chat_card.specs.Texts.{card_text}
use Rattle.chat_card.specs.declared.contents.Contents.{Contents}
use Rattle.chat_card.specs.declared.envelope.Envelope.{Envelope}
use Rattle.chat_card.specs.declared.requests.Requests.{Requests}
use Rattle.chat_card.specs.declared.text.CardText.{CardText}
use Rattle.chat_card.specs.declared.fault.CardFault.{CardFault}
use Rattle.chat_card.specs.declared.fault.CardFault.TheVariants.{NoFields, NoFrom, CardTooLong}

-- the card of a sender, of the fields, of what a chat program requests in them, and of the contents
abbrev pub card_by : Person → Envelope → Requests → Contents → CardText → Card
card_by from fields requests contents text =
    record {
      id = fields.id;
      from = from.addr;
      from_name = from.name;
      to = fields.to;
      cc = fields.cc;
      date = fields.date;
      replies = fields.replies;
      references = fields.references;
      chat = requests.chat;
      group = requests.group;
      group_name = requests.group_name;
      added = requests.added;
      removed = requests.removed;
      renamed = requests.renamed;
      edit = requests.edit;
      deletes = requests.deletes;
      timer = requests.timer;
      subject = fields.subject;
      text = text.text;
      cut = text.cut;
      attachments = contents.attachments;
      receipt = contents.receipt;
      app = contents.app;
      updates = contents.updates;
      reaction = contents.reaction;
    }

-- the card of a mail that a person sent
abbrev pub card_from : ℕ → Head → Person → List ℕ → Card
card_from uid head from body =
    let fields = envelope_of uid head in
    let requests = requests_of head in
    let contents = contents_of (has_some fields.replies) requests.edit head body in
    card_by from fields requests contents (card_text requests.edit contents.text)

-- The acceptance rule: a mail has a card if it has a field and a sender, and the card is not too heavy.
abbrev pub accepted : Card → Result Card CardFault
accepted card = if fits_weight card then Ok card else Err CardTooLong

abbrev pub card_if : ℕ → Head → Option Person → List ℕ → Result Card CardFault
card_if uid head None body = Err NoFrom
card_if uid head (Some from) body = accepted (card_from uid head from body)

abbrev pub card_with : ℕ → Head → List ℕ → Result Card CardFault
card_with uid head mail =
    if length head.fields == 0 then Err NoFields else card_if uid head (sender head) (drop head.body_at mail)

-- the card of a mail, or why it has none
abbrev pub card_of : ℕ → List ℕ → Result Card CardFault
card_of uid mail = card_with uid (header_of mail) mail
