-- What a mail of a chat program requests: the fields of a chat. Mails of other programs request nothing.
use Rattle.std.specs.Prelude.{ℕ, ◌^◌, Bool, ◌&&◌, nat_lt, if◌then◌else◌, List, [], codes, Option, Some, None, is_some, option_map, unwrap_or}
use Rattle.kit.specs.Options.{◌>>=◌}
use Rattle.kit.specs.Reading.{read_as}
use Rattle.card_type.specs.Groups.{is_group}
use Rattle.encoded_words.specs.Runs.{decode_words}
use Rattle.kit.specs.Numbers.{number}
use Rattle.mail_headers.specs.Headers.{Head, field, first_of}
use Rattle.mail_headers.specs.Ids.{ids}
use Rattle.chat_card.specs.Envelope.{first_id, first_person}
use Rattle.chat_card.specs.declared.requests.Requests.{Requests}

-- whether a field is present, with whatever body
abbrev pub has_field : Head → List ℕ → Bool
has_field head name = is_some (first_of head name)

-- whether a chat program sent the mail
abbrev pub is_chat : Head → Bool
is_chat head = has_field head (codes "Chat-Version")

-- the body of a field of a chat, which is empty in other mails, as in those without that field
abbrev pub chat_field : Head → List ℕ → List ℕ
chat_field head name = if is_chat head then field head name else []

-- the first address in a body
abbrev pub address_in : List ℕ → Option (List ℕ)
address_in body = option_map (λ person. person.addr) (first_person body)

-- 1 to 10 digits, of a number of seconds from 1 to the greatest of 32 bits; anything else sets no timer
abbrev pub timer_of : List ℕ → ℕ
timer_of body = unwrap_or (number 1 10 body >>= λ n. if nat_lt 0 n && nat_lt n (2 ^ 32) then Some n else None) 0

-- The chat field rule: what each field of a chat says. A group id is 11 to 998 letters, digits, `_` and `-`, or it is
-- none.
abbrev pub requests_of : Head → Requests
requests_of head =
    record {
      chat = is_chat head;
      group = read_as is_group (chat_field head (codes "Chat-Group-ID"));
      group_name = decode_words (chat_field head (codes "Chat-Group-Name"));
      added = address_in (chat_field head (codes "Chat-Group-Member-Added"));
      removed = address_in (chat_field head (codes "Chat-Group-Member-Removed"));
      renamed = is_chat head && has_field head (codes "Chat-Group-Name-Changed");
      edit = first_id (chat_field head (codes "Chat-Edit"));
      deletes = ids (chat_field head (codes "Chat-Delete"));
      timer = timer_of (chat_field head (codes "Ephemeral-Timer"));
    }
