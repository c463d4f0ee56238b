-- Worked rows of the definitions, which compute.
use Rattle.std.proofs.Common.{◌≡◌, ℕ, List, [], ◌∷◌, ◌++◌, length, take, drop, Ok, Err, refl}
use Rattle.std.specs.Prelude.{replicate}
use Rattle.mailbox_model.specs.declared.change.Change.TheVariants.{At}
use Rattle.card_record.specs.Reading.{moment_at, times_of}
use Rattle.state_image.specs.Changes.{change_at}
use Rattle.tail_journal.specs.Frames.{frames, frames_after}
use Rattle.tail_journal.specs.Groups.{Applied, offsets_at, head_at, body_at, reading}
use Rattle.tail_journal.specs.Spelling.{Batch, group_spelled}

-- after a count of 2 the moment 2024-05-01 12:00:00, and the mbox read up to offset 126
abbrev batch : Batch
batch = record { base = 2; position = record { count = 3; mbox = 126; steps = 0; lines = 0; mbox_trace = replicate 32 0; steps_trace = replicate 32 0 }; changes = At 1714564800 ∷ [] }

abbrev bytes : List ℕ
bytes =
    1 ∷ replicate 7 0 ++ 2 ∷ 0 ∷ 0 ∷ 0 ∷ 35 ∷ 0 ∷ 1 ∷ replicate 7 0 ++ 126 ∷ replicate 16 0
    ++ 5 ∷ 0 ∷ 0 ∷ 0 ∷ 0 ∷ 102 ∷ 50 ∷ 46 ∷ 192 ∷ []

spelled : length (group_spelled batch) ≡ 112
spelled = refl

size : length bytes ≡ 48
size = refl

abbrev read_at : ℕ → Applied
read_at place = record { position = batch.position; changes = (place, At 1714564800) ∷ [] }

read_back : reading 2 bytes ≡ Ok (record { groups = read_at 39 ∷ []; count = 3; end = 48 })
unfolding frames_after body_at head_at offsets_at times_of change_at moment_at
read_back = refl

of_nothing : reading 2 [] ≡ Ok (record { groups = []; count = 2; end = 0 })
unfolding frames_after
of_nothing = refl

-- a group that is already held
skipped : reading 4 bytes ≡ Ok (record { groups = []; count = 4; end = 48 })
unfolding frames_after
skipped = refl

-- a gap before it
past_a_gap : reading 1 bytes ≡ Ok (record { groups = []; count = 1; end = 0 })
unfolding frames_after
past_a_gap = refl

-- the second group goes on where the first ends
two_groups : reading 2 (bytes ++ take 8 bytes ++ 3 ∷ drop 9 bytes) ≡ Ok (record { groups = read_at 39 ∷ record { position = record { count = 4; mbox = 126; steps = 0; lines = 0; mbox_trace = replicate 32 0; steps_trace = replicate 32 0 }; changes = (87, At 1714564800) ∷ [] } ∷ []; count = 4; end = 96 })
unfolding frames_after body_at head_at offsets_at times_of change_at moment_at
two_groups = refl

-- the same group again
twice : reading 2 (bytes ++ bytes) ≡ Ok (record { groups = read_at 39 ∷ []; count = 3; end = 96 })
unfolding frames_after body_at head_at offsets_at times_of change_at moment_at
twice = refl

torn : frames (take 47 bytes) ≡ []
unfolding frames_after
torn = refl

closed : frames (0 ∷ drop 1 bytes) ≡ []
unfolding frames_after
closed = refl

another_gate : frames (7 ∷ drop 1 bytes) ≡ []
unfolding frames_after
another_gate = refl

-- ---- damage at each field

no_changes : reading 2 (take 14 bytes ++ 0 ∷ drop 15 bytes) ≡ Err 13
unfolding frames_after body_at head_at offsets_at
no_changes = refl

too_many_changes : reading 2 (take 13 bytes ++ 1 ∷ 1 ∷ drop 15 bytes) ≡ Err 13
unfolding frames_after body_at head_at offsets_at
too_many_changes = refl

more_lines_than_steps : reading 2 (take 38 bytes ++ 1 ∷ drop 39 bytes) ≡ Err 31
unfolding frames_after body_at head_at offsets_at
more_lines_than_steps = refl

no_such_change : reading 2 (take 39 bytes ++ 9 ∷ drop 40 bytes) ≡ Err 39
unfolding frames_after body_at head_at offsets_at times_of change_at
no_such_change = refl

a_short_moment : reading 2 (take 12 bytes ++ 34 ∷ drop 13 bytes) ≡ Err 40
unfolding frames_after body_at head_at offsets_at times_of change_at moment_at
a_short_moment = refl

a_byte_more : reading 2 (take 12 bytes ++ 36 ∷ drop 13 bytes ++ 0 ∷ []) ≡ Err 48
unfolding frames_after body_at head_at offsets_at times_of change_at moment_at
a_byte_more = refl

a_body_of_one_byte : reading 2 (take 12 bytes ++ 1 ∷ 0 ∷ []) ≡ Err 13
unfolding frames_after body_at head_at offsets_at
a_body_of_one_byte = refl

a_second_change_is_short : reading 2 (take 14 bytes ++ 2 ∷ drop 15 bytes) ≡ Err 48
unfolding frames_after body_at head_at offsets_at times_of change_at moment_at
a_second_change_is_short = refl
