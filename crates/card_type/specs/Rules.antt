-- The rules that a card keeps, which are those of its record: each value reads as what it is said to be, numbers fit
-- their bytes, and the record is not too long.
use Rattle.std.specs.Prelude.{◌^◌, Bool, true, ◌&&◌, nat_lt, nat_le, ℕ, List, length, Option, Some, None}
use Rattle.std.specs.List.{list_all}
use Rattle.std.specs.Str.{is_utf8}
use Rattle.kit.specs.Addresses.{is_addr}
use Rattle.lists.specs.Distinct.{are_distinct}
use Rattle.kit.specs.Ids.{is_id}
use Rattle.kit.specs.Moments.{last_moment}
use Rattle.card_type.specs.declared.card.Attachment.{Attachment}
use Rattle.card_type.specs.declared.card.Payload.{Payload}
use Rattle.card_type.specs.declared.card.Payload.TheVariants.{Absent, Json, Hidden}
use Rattle.card_type.specs.declared.card.Update.{Update}
use Rattle.card_type.specs.declared.card.Card.{Card}
use Rattle.card_type.specs.Groups.{is_group}
use Rattle.card_type.specs.Records.{weight}

-- a value that is missing breaks no rule
abbrev pub where_some : {T : Type 0} → (T → Bool) → Option T → Bool
where_some rule None = true
where_some rule (Some x) = rule x

-- ---- files and updates

abbrev pub is_attachment : Attachment → Bool
is_attachment a = is_utf8 a.kind && is_utf8 a.name && nat_lt a.size (2 ^ 64)

-- a payload whose text, where it has one, is UTF-8
abbrev pub is_utf8_payload : Payload → Bool
is_utf8_payload Absent = true
is_utf8_payload (Json text) = is_utf8 text
is_utf8_payload Hidden = true

-- a payload whose text, where it has one, is not empty: no value of JSON is an empty text
abbrev pub is_nonempty_payload : Payload → Bool
is_nonempty_payload Absent = true
is_nonempty_payload (Json text) = nat_lt 0 (length text)
is_nonempty_payload Hidden = true

abbrev pub is_utf8_update : Update → Bool
is_utf8_update u =
    is_utf8_payload u.payload && where_some is_utf8 u.info && where_some is_utf8 u.document && where_some is_utf8 u.summary

abbrev pub is_nonempty_update : Update → Bool
is_nonempty_update u = is_nonempty_payload u.payload

abbrev pub is_update : Update → Bool
is_update u = is_utf8_update u && is_nonempty_update u

-- ---- what the types of the values keep

-- Ids, addresses in small letters and valid group ids are what they are said to be, texts are UTF-8, and numbers fit their
-- bytes.

-- who wrote to whom
abbrev pub is_envelope : Card → Bool
is_envelope c =
    is_id c.id && is_addr c.from && is_utf8 c.from_name && list_all is_addr c.to && list_all is_addr c.cc && list_all is_id c.replies
    && list_all is_id c.references

-- what a chat mail requests
abbrev pub is_requests : Card → Bool
is_requests c =
    where_some is_group c.group && is_utf8 c.group_name && where_some is_addr c.added && where_some is_addr c.removed
    && where_some is_id c.edit && list_all is_id c.deletes && nat_lt c.timer (2 ^ 32)

-- what is shown
abbrev pub is_shown : Card → Bool
is_shown c =
    is_utf8 c.subject && is_utf8 c.text && list_all is_attachment c.attachments && where_some is_id c.receipt
    && list_all is_utf8_update c.updates && where_some is_utf8 c.reaction

-- ---- what they leave open

-- the most that the card of a mail may weigh
abbrev pub fits_weight : Card → Bool
fits_weight c = nat_le (weight c) 1048576

-- a reaction that is not too long
abbrev pub is_short : List ℕ → Bool
is_short reaction = nat_le (length reaction) 255

-- How heavy a card is, a date that is a moment, how long its text and its reaction are, payloads that are not empty, and that each
-- address is once in To and once in Cc.
abbrev pub keeps_bounds : Card → Bool
keeps_bounds c =
    fits_weight c && where_some (λ date. nat_le date last_moment) c.date && nat_le (length c.text) 32768
    && where_some is_short c.reaction && list_all is_nonempty_update c.updates && are_distinct c.to && are_distinct c.cc

abbrev pub is_valid : Card → Bool
is_valid c = keeps_bounds c && is_envelope c && is_requests c && is_shown c
