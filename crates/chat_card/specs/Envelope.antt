-- Who wrote to whom, when, about what and in answer to what (RFC 5322, section 3.6).
use Rattle.std.specs.Prelude.{ℕ, List, ◌++◌, map, codes, slice_get, Option, unwrap_or}
use Rattle.std.specs.Fmt.{decimal}
use Rattle.lists.specs.Distinct.{each_once}
use Rattle.encoded_words.specs.Runs.{decode_words}
use Rattle.mail_address.specs.declared.person.Person.{Person}
use Rattle.mail_address.specs.People.{people}
use Rattle.mail_date.specs.Moment.{moment}
use Rattle.mail_headers.specs.Headers.{Head, field}
use Rattle.mail_headers.specs.Ids.{ids}
use Rattle.chat_card.specs.declared.envelope.Envelope.{Envelope}

-- the first id and the first person in a body
abbrev pub first_id : List ℕ → Option (List ℕ)
first_id body = slice_get (ids body) 0

abbrev pub first_person : List ℕ → Option Person
first_person body = slice_get (people body) 0

-- the id of a mail without one
abbrev pub stand_in_id : ℕ → List ℕ
stand_in_id uid = codes "uid" ++ decimal uid ++ codes "@none"

-- The mail id rule: the first id in the body of Message-ID, or else one that is made of the uid (section 3.6.4).
abbrev pub mail_id : ℕ → List ℕ → List ℕ
mail_id uid body = unwrap_or (first_id body) (stand_in_id uid)

-- The address rule: the sender is the first person of From (section 3.6.2), and the addresses of To and of Cc are those
-- of their people, each once, where it first is (section 3.6.3).
abbrev pub sender : Head → Option Person
sender head = first_person (field head (codes "From"))

abbrev pub addresses : List ℕ → List (List ℕ)
addresses body = each_once (map (λ person. person.addr) (people body))

-- The date rule: the moment of Date (section 3.6.1), and the ids of In-Reply-To and References (section 3.6.4).
abbrev pub date : Head → Option ℕ
date head = moment (field head (codes "Date"))

abbrev pub replies : Head → List (List ℕ)
replies head = ids (field head (codes "In-Reply-To"))

abbrev pub references : Head → List (List ℕ)
references head = ids (field head (codes "References"))

-- The subject rule: Subject with its encoded words read (section 3.6.5; RFC 2047).
abbrev pub subject : Head → List ℕ
subject head = decode_words (field head (codes "Subject"))

abbrev pub envelope_of : ℕ → Head → Envelope
envelope_of uid head =
    record {
      id = mail_id uid (field head (codes "Message-ID"));
      to = addresses (field head (codes "To"));
      cc = addresses (field head (codes "Cc"));
      date = date head;
      replies = replies head;
      references = references head;
      subject = subject head;
    }
