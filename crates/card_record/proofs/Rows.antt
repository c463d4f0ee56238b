-- Worked rows of the definitions, which compute.
use Rattle.std.proofs.Common.{◌≡◌, ℕ, true, List, [], ◌∷◌, ◌++◌, codes, Some, None, Ok, Err, refl}
use Rattle.std.specs.Prelude.{replicate}
use Rattle.std.specs.Str.{is_utf8, chars}
use Rattle.card_type.specs.declared.card.Payload.TheVariants.{Absent, Json, Hidden}
use Rattle.card_type.proofs.WorkedCards.{me, M1}
use Rattle.card_record.specs.Reading.{flag_at, block_at, block_of, moment_at, opt_of, list_of, times_of, new_addr, payload_at, attachment_at, update_at}
use Rattle.card_record.specs.Cards.{envelope_at, requests_at, app_at, reaction_at, said_at, shown_at, later_at, fields_at, record_at}

-- the record of a mail from Bob, as it is written by hand: each run of zeros is fields that are empty or false
abbrev head : List ℕ
head = (0 ∷ 0 ∷ 0 ∷ 8 ∷ codes "m1@x.org") ++ (0 ∷ 0 ∷ 0 ∷ 9 ∷ codes "bob@x.org") ++ (0 ∷ 0 ∷ 0 ∷ 3 ∷ codes "Bob") ++ (0 ∷ 0 ∷ 0 ∷ 1 ∷ 0 ∷ 0 ∷ 0 ∷ 8 ∷ codes "me@x.org") ++ (0 ∷ 0 ∷ 0 ∷ 0 ∷ [])

abbrev later : List ℕ
later = (1 ∷ 0 ∷ 0 ∷ 0 ∷ 0 ∷ 102 ∷ 50 ∷ 18 ∷ 160 ∷ []) ++ replicate 8 0 ++ (1 ∷ []) ++ replicate 17 0 ++ replicate 4 0 ++ (0 ∷ 0 ∷ 0 ∷ 2 ∷ codes "Hi") ++ replicate 11 0

record_m1 : record_at (head ++ later ++ codes "next") ≡ Ok (M1, codes "next")
unfolding record_at fields_at later_at envelope_at requests_at shown_at said_at app_at flag_at block_at block_of moment_at opt_of list_of times_of new_addr is_utf8 chars lib.Utf8.encode
record_m1 = refl

-- the same with a reaction of one character, U+1F44D: the code is 2, and the reaction comes last
abbrev reaction : List ℕ
reaction = 240 ∷ 159 ∷ 145 ∷ 141 ∷ []

record_of_a_reaction : record_at (head ++ (1 ∷ 0 ∷ 0 ∷ 0 ∷ 0 ∷ 102 ∷ 50 ∷ 18 ∷ 160 ∷ []) ++ replicate 8 0 ++ (1 ∷ []) ++ replicate 21 0 ++ (0 ∷ 0 ∷ 0 ∷ 2 ∷ codes "Hi") ++ replicate 6 0 ++ (2 ∷ 0 ∷ 0 ∷ 0 ∷ 0 ∷ []) ++ (0 ∷ 0 ∷ 0 ∷ 4 ∷ reaction) ++ codes "next")
    ≡ Ok (record M1 { reaction = Some reaction }, codes "next")
unfolding record_at fields_at later_at envelope_at requests_at shown_at said_at app_at flag_at block_at block_of moment_at opt_of list_of times_of new_addr is_utf8 chars lib.Utf8.encode
record_of_a_reaction = refl

-- an app and a reaction
code_3 : app_at (3 ∷ 7 ∷ []) ≡ Ok ((true, true), 7 ∷ [])
unfolding app_at
code_3 = refl

code_4 : app_at (4 ∷ 7 ∷ []) ≡ Err 2
unfolding app_at
code_4 = refl

-- a reaction of 256 bytes is malformed at its beginning
long_reaction : reaction_at true ((0 ∷ 0 ∷ 1 ∷ 0 ∷ []) ++ replicate 256 65) ≡ Err 260
unfolding block_of block_at is_utf8 chars lib.Utf8.encode
long_reaction = refl

-- without its last byte, the number of the updates is short: three bytes were left
short_m1 : record_at (head ++ (1 ∷ 0 ∷ 0 ∷ 0 ∷ 0 ∷ 102 ∷ 50 ∷ 18 ∷ 160 ∷ []) ++ replicate 8 0 ++ (1 ∷ []) ++ replicate 21 0 ++ (0 ∷ 0 ∷ 0 ∷ 2 ∷ codes "Hi") ++ replicate 10 0) ≡ Err 3
unfolding record_at fields_at later_at envelope_at requests_at shown_at said_at app_at flag_at block_at block_of moment_at opt_of list_of times_of new_addr is_utf8 chars lib.Utf8.encode
short_m1 = refl

-- a flag is 0 or 1
flag_2 : flag_at (2 ∷ 7 ∷ []) ≡ Err 2
unfolding flag_at
flag_2 = refl

-- bytes of which there are fewer than their number says are malformed at that number
short_block : block_at (0 ∷ 0 ∷ 0 ∷ 3 ∷ codes "ab") ≡ Err 6
unfolding block_at
short_block = refl

last_moment : moment_at (0 ∷ 0 ∷ 0 ∷ 58 ∷ 255 ∷ 244 ∷ 65 ∷ 127 ∷ []) ≡ Ok (253402300799, [])
unfolding moment_at
last_moment = refl

moment_after_the_last : moment_at (0 ∷ 0 ∷ 0 ∷ 58 ∷ 255 ∷ 244 ∷ 65 ∷ 128 ∷ 9 ∷ []) ≡ Err 9
unfolding moment_at
moment_after_the_last = refl

-- the second of two addresses that are alike breaks the rule
twice : list_of new_addr ((0 ∷ 0 ∷ 0 ∷ 2 ∷ []) ++ (0 ∷ 0 ∷ 0 ∷ 8 ∷ me) ++ (0 ∷ 0 ∷ 0 ∷ 8 ∷ me) ++ codes "x") ≡ Err 13
unfolding list_of times_of new_addr block_of block_at
twice = refl

-- an address is in small letters
capital : list_of new_addr ((0 ∷ 0 ∷ 0 ∷ 1 ∷ []) ++ (0 ∷ 0 ∷ 0 ∷ 8 ∷ codes "Me@x.org")) ≡ Err 12
unfolding list_of times_of new_addr block_of block_at
capital = refl

payloads : payload_at (0 ∷ 5 ∷ []) ≡ Ok (Absent, 5 ∷ [])
unfolding payload_at
payloads = refl

hidden : payload_at (2 ∷ []) ≡ Ok (Hidden, [])
unfolding payload_at
hidden = refl

json : payload_at (1 ∷ 0 ∷ 0 ∷ 0 ∷ 2 ∷ codes "{}") ≡ Ok (Json (codes "{}"), [])
unfolding payload_at block_of block_at is_utf8 chars lib.Utf8.encode
json = refl

empty_json : payload_at (1 ∷ 0 ∷ 0 ∷ 0 ∷ 0 ∷ []) ≡ Err 4
unfolding payload_at block_of block_at is_utf8 chars lib.Utf8.encode
empty_json = refl

payload_3 : payload_at (3 ∷ []) ≡ Err 1
unfolding payload_at
payload_3 = refl

file : attachment_at ((0 ∷ 0 ∷ 0 ∷ 9 ∷ codes "image/png") ++ replicate 4 0 ++ (1 ∷ 0 ∷ 0 ∷ 0 ∷ 0 ∷ 0 ∷ 0 ∷ 2 ∷ []))
    ≡ Ok (record { kind = codes "image/png"; name = []; size = 72057594037927938 }, [])
unfolding attachment_at block_of block_at is_utf8 chars lib.Utf8.encode
file = refl

update : update_at ((2 ∷ 1 ∷ 0 ∷ 0 ∷ 0 ∷ 2 ∷ codes "e4") ++ (0 ∷ 0 ∷ []))
    ≡ Ok (record { payload = Hidden; info = Some (codes "e4"); document = None; summary = None }, [])
unfolding update_at payload_at opt_of flag_at block_of block_at is_utf8 chars lib.Utf8.encode
update = refl
