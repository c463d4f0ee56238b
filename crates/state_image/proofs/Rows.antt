-- Worked rows of the definitions, which compute.
use Rattle.std.proofs.Common.{◌≡◌, ℕ, false, List, [], ◌∷◌, ◌++◌, codes, None, Ok, Err, length, refl}
use Rattle.std.specs.Prelude.{replicate}
use Rattle.std.specs.Str.{is_utf8, chars}
use Rattle.card_type.proofs.WorkedCards.{me, M1}
use Rattle.mailbox_model.specs.declared.change.Fault.TheVariants.{NoFields, NoFrom}
use Rattle.mailbox_model.specs.declared.change.Change.TheVariants.{ArriveFault, Expunge, Seen, At}
use Rattle.mailbox_model.specs.Mailbox.{Mailbox}
use Rattle.card_record.specs.Reading.{flag_at, block_at, block_of, moment_at, opt_of, list_of, times_of, new_addr}
use Rattle.card_record.specs.Cards.{envelope_at, requests_at, app_at, said_at, shown_at, later_at, fields_at, record_at}
use Rattle.state_image.specs.declared.fault.ImageFault.TheVariants.{Version, Malformed}
use Rattle.state_image.specs.declared.position.Position.{Position}
use Rattle.state_image.specs.Changes.{change_from, change_at, fault_at, change_spelled}
use Rattle.state_image.specs.Images.{image, image_in, image_of, counts_at, position_at, head_at, mail_after, entry_after, entries_at, body_at}

-- ---- changes

expunge_7 : change_from (3 ∷ 0 ∷ 0 ∷ 0 ∷ 7 ∷ []) 0 ≡ Ok (Expunge 7, 5)
unfolding change_at
expunge_7 = refl

seen_at_an_offset : change_from (9 ∷ 4 ∷ 0 ∷ 0 ∷ 1 ∷ 2 ∷ 9 ∷ []) 1 ≡ Ok (Seen 258, 6)
unfolding change_at
seen_at_an_offset = refl

moment_of_a_run : change_spelled (At 1714564800) ≡ 5 ∷ 0 ∷ 0 ∷ 0 ∷ 0 ∷ 102 ∷ 50 ∷ 46 ∷ 192 ∷ []
moment_of_a_run = refl

no_from : change_from (2 ∷ 2 ∷ []) 0 ≡ Ok (ArriveFault NoFrom, 2)
unfolding change_at fault_at
no_from = refl

no_such_change : change_from (9 ∷ []) 0 ≡ Err 0
unfolding change_at
no_such_change = refl

no_such_fault : change_from (2 ∷ 5 ∷ []) 0 ≡ Err 1
unfolding change_at fault_at
no_such_fault = refl

no_change : change_from [] 0 ≡ Err 0
unfolding change_at
no_change = refl

short_uid : change_from (3 ∷ 0 ∷ 0 ∷ 7 ∷ []) 0 ≡ Err 1
unfolding change_at
short_uid = refl

-- ---- images

no_bytes : image_of [] ≡ Err Version
no_bytes = refl

name_alone : image_of (codes "CHATSIM1") ≡ Err (Malformed 8)
unfolding body_at head_at block_of block_at
name_alone = refl

another_version : image_of (codes "CHATSIM3") ≡ Err Version
another_version = refl

-- one mail from Bob that arrived at 2024-05-01 12:00:00
abbrev first : Mailbox
first = record { me = me; now = 1714564800; next_uid = 2; entries = record { uid = 1; arrival = 1714564800; seen = None; read = Ok M1 } ∷ [] }

abbrev two_changes : Position
two_changes = record { count = 2; mbox = 126; steps = 0; lines = 0; mbox_trace = replicate 32 0; steps_trace = replicate 32 0 }

-- its image, written by hand: the numbers, the item, and the record of the card, in which each run of zeros is fields that are
-- empty or false
abbrev head : List ℕ
head =
    codes "CHATSIM1" ++ (0 ∷ 0 ∷ 0 ∷ 8 ∷ codes "me@x.org") ++ (replicate 7 0 ++ 2 ∷ replicate 7 0 ++ 126 ∷ replicate 16 0)
    ++ (0 ∷ 0 ∷ 0 ∷ 0 ∷ 102 ∷ 50 ∷ 46 ∷ 192 ∷ []) ++ (0 ∷ 0 ∷ 0 ∷ 2 ∷ []) ++ (0 ∷ 0 ∷ 0 ∷ 1 ∷ [])

abbrev numbers : List ℕ
numbers = (0 ∷ 0 ∷ 0 ∷ 1 ∷ []) ++ (0 ∷ 0 ∷ 0 ∷ 0 ∷ 102 ∷ 50 ∷ 46 ∷ 192 ∷ []) ++ (0 ∷ [])

abbrev card : List ℕ
card =
    (0 ∷ 0 ∷ 0 ∷ 8 ∷ codes "m1@x.org") ++ (0 ∷ 0 ∷ 0 ∷ 9 ∷ codes "bob@x.org") ++ (0 ∷ 0 ∷ 0 ∷ 3 ∷ codes "Bob")
    ++ (0 ∷ 0 ∷ 0 ∷ 1 ∷ 0 ∷ 0 ∷ 0 ∷ 8 ∷ codes "me@x.org") ++ (0 ∷ 0 ∷ 0 ∷ 0 ∷ [])
    ++ (1 ∷ 0 ∷ 0 ∷ 0 ∷ 0 ∷ 102 ∷ 50 ∷ 18 ∷ 160 ∷ []) ++ replicate 8 0
    ++ (1 ∷ []) ++ replicate 17 0
    ++ replicate 4 0 ++ (0 ∷ 0 ∷ 0 ∷ 2 ∷ codes "Hi") ++ replicate 11 0

first_image : image_in false first two_changes ≡ head ++ numbers ++ (0 ∷ []) ++ card
first_image = refl

first_size : length (image first two_changes) ≡ 254
first_size = refl

first_read : image_of (head ++ numbers ++ (0 ∷ []) ++ card) ≡ Ok (first, two_changes)
unfolding body_at head_at position_at counts_at entries_at entry_after mail_after record_at fields_at later_at envelope_at requests_at shown_at said_at app_at flag_at block_at block_of moment_at opt_of list_of times_of new_addr is_utf8 chars lib.Utf8.encode
first_read = refl

a_byte_more : image_of (head ++ numbers ++ (0 ∷ []) ++ card ++ (7 ∷ [])) ≡ Err (Malformed 190)
unfolding body_at head_at position_at counts_at entries_at entry_after mail_after record_at fields_at later_at envelope_at requests_at shown_at said_at app_at flag_at block_at block_of moment_at opt_of list_of times_of new_addr is_utf8 chars lib.Utf8.encode
a_byte_more = refl

-- the same item with no card, for want of a field, and with a code that no fault has
no_card : image_of (head ++ numbers ++ (1 ∷ [])) ≡ Ok (record first { entries = record { uid = 1; arrival = 1714564800; seen = None; read = Err NoFields } ∷ [] }, two_changes)
unfolding body_at head_at position_at counts_at entries_at entry_after mail_after flag_at block_at block_of moment_at opt_of times_of
no_card = refl

fault_5 : image_of (head ++ numbers ++ (5 ∷ [])) ≡ Err (Malformed 81)
unfolding body_at head_at position_at counts_at entries_at entry_after mail_after flag_at block_at block_of moment_at opt_of times_of
fault_5 = refl
