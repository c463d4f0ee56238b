-- Worked rows of the definitions, which compute.
use Rattle.std.proofs.Common.{◌≡◌, ◌<◌, ℕ, List, [], ◌∷◌, ◌++◌, length, take, drop, nat_lt, true, None, Some, Ok, Err, Bool, Result, cond, ap, arith, refl}
use Rattle.std.specs.Prelude.{replicate}
use Rattle.std.specs.Str.{is_utf8, chars}
use Rattle.std.proofs.lemmas.Bool.Decides.{nat_tests}
use Rattle.card_type.proofs.WorkedCards.{me, M1}
use Rattle.outside.specs.declared.shelf.Place.TheVariants.{A, B}
use Rattle.mailbox_model.specs.Mailbox.{Mailbox}
use Rattle.card_record.specs.Reading.{flag_at, block_at, block_of, moment_at, opt_of, list_of, times_of, new_addr}
use Rattle.card_record.specs.Cards.{envelope_at, requests_at, app_at, said_at, shown_at, later_at, fields_at, record_at}
use Rattle.state_image.specs.declared.position.Position.{Position}
use Rattle.state_image.specs.Images.{image, image_of, both_traces_at, counts_at, position_at, head_at, mail_after, entry_after, entries_at, body_at}
use Rattle.checkpoint.specs.Slots.{Slot, body_spelled, slot_after, slot_of, is_closed, chosen_of, next_place}
use Rattle.checkpoint.specs.Kept.{max_image, numbered, slot_kept, kept_of}

-- one mail from Bob that arrived at 2024-05-01 12:00:00, and then that moment
abbrev first : Mailbox
first = record { me = me; now = 1714564800; next_uid = 2; entries = record { uid = 1; arrival = 1714564800; seen = None; read = Ok M1 } ∷ [] }

abbrev two_changes : Position
two_changes = record { count = 2; mbox = 126; steps = 0; lines = 0; mbox_trace = replicate 32 0; steps_trace = replicate 32 0 }

abbrev bytes : List ℕ
bytes = image first two_changes

-- the first save of it writes 271 bytes into A
abbrev place_a : List ℕ
place_a = 1 ∷ replicate 7 0 ++ 2 ∷ replicate 7 0 ++ 254 ∷ bytes

spelled : 1 ∷ body_spelled 2 bytes ≡ place_a
unfolding body_spelled
spelled = refl

size : length place_a ≡ 271
size = refl

open_slot : slot_of place_a ≡ Some (record { number = 2; image = bytes })
unfolding slot_after
open_slot = refl

kept : kept_of (record { a = place_a; b = []; t = [] }) ≡ Ok (Some (first, two_changes))
unfolding slot_after body_at head_at position_at counts_at both_traces_at entries_at entry_after mail_after record_at fields_at later_at envelope_at requests_at shown_at said_at app_at flag_at block_at block_of moment_at opt_of list_of times_of new_addr is_utf8 chars lib.Utf8.encode
kept = refl

in_b : kept_of (record { a = []; b = place_a; t = [] }) ≡ Ok (Some (first, two_changes))
unfolding slot_after body_at head_at position_at counts_at both_traces_at entries_at entry_after mail_after record_at fields_at later_at envelope_at requests_at shown_at said_at app_at flag_at block_at block_of moment_at opt_of list_of times_of new_addr is_utf8 chars lib.Utf8.encode
in_b = refl

nothing_kept : kept_of (record { a = []; b = []; t = [] }) ≡ Ok None
nothing_kept = refl

-- byte 17 is the first of the image's name
another_version : kept_of (record { a = take 17 place_a ++ 0 ∷ drop 18 place_a; b = []; t = [] }) ≡ Err (A, 17)
unfolding slot_after
another_version = refl

-- the own address of no bytes
malformed : kept_of (record { a = []; b = take 28 place_a ++ 0 ∷ drop 29 place_a; t = [] }) ≡ Err (B, 25)
unfolding slot_after body_at head_at block_of block_at
malformed = refl

other_number : kept_of (record { a = take 8 place_a ++ 3 ∷ drop 9 place_a; b = []; t = [] }) ≡ Err (A, 1)
unfolding slot_after body_at head_at position_at counts_at both_traces_at entries_at entry_after mail_after record_at fields_at later_at envelope_at requests_at shown_at said_at app_at flag_at block_at block_of moment_at opt_of list_of times_of new_addr is_utf8 chars lib.Utf8.encode
other_number = refl

-- an image over the bound, whatever it holds
nine : (b : Bool) (x : Result (Mailbox × Position) ℕ) → b ≡ true → cond b (Err 9) x ≡ Err 9
nine b x is = ap (λ (c : Bool). cond c (Err 9) x) is

too_long : (slot : Slot) → max_image < length slot.image → slot_kept slot ≡ Err 9
too_long slot long = nine (nat_lt max_image (length slot.image)) (numbered slot.number (image_of slot.image)) (grind (arith, nat_tests))

-- ---- small slots, of which the image does not matter

abbrev small : ℕ → ℕ → List ℕ → List ℕ
small gate number image = gate ∷ body_spelled number image

equal_numbers : chosen_of (record { a = small 1 5 (7 ∷ []); b = small 1 5 (8 ∷ []); t = [] }) ≡ Some (A, record { number = 5; image = 7 ∷ [] })
unfolding body_spelled slot_after
equal_numbers = refl

greater_in_b : chosen_of (record { a = small 1 5 (7 ∷ []); b = small 1 6 (8 ∷ []); t = [] }) ≡ Some (B, record { number = 6; image = 8 ∷ [] })
unfolding body_spelled slot_after
greater_in_b = refl

next_is_a : next_place (chosen_of (record { a = small 1 5 (7 ∷ []); b = small 1 6 (8 ∷ []); t = [] })) ≡ A
unfolding body_spelled slot_after
next_is_a = refl

gate_7 : slot_of (small 7 5 (7 ∷ [])) ≡ None
gate_7 = refl

gate_7_closed : is_closed (small 7 5 (7 ∷ [])) ≡ true
gate_7_closed = refl

one_byte_short : slot_of (1 ∷ replicate 15 0 ++ 2 ∷ 7 ∷ []) ≡ None
unfolding slot_after
one_byte_short = refl

a_byte_more : slot_of (1 ∷ replicate 15 0 ++ 1 ∷ 7 ∷ 9 ∷ []) ≡ Some (record { number = 0; image = 7 ∷ [] })
unfolding slot_after
a_byte_more = refl

sixteen_bytes : slot_of (1 ∷ replicate 15 0) ≡ None
unfolding slot_after
sixteen_bytes = refl

torn_to_1 : slot_of (1 ∷ []) ≡ None
unfolding slot_after
torn_to_1 = refl
