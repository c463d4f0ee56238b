-- Worked rows of the definitions, which compute.
use Rattle.std.proofs.Common.{◌≡◌, ℕ, ◌+◌, List, [], ◌∷◌, Ok, Err, refl}
use Rattle.card_type.proofs.WorkedCards.{me}
use Rattle.outside.specs.declared.shelf.Place.TheVariants.{A, T}
use Rattle.mailbox_model.specs.declared.change.Change.TheVariants.{At}
use Rattle.mailbox_model.specs.Mailbox.{Mailbox}
use Rattle.card_record.specs.Reading.{block_at, block_of, moment_at, times_of}
use Rattle.state_image.specs.declared.position.Position.{Position}
use Rattle.state_image.specs.Images.{no_trace}
use Rattle.state_image.specs.Changes.{change_at}
use Rattle.state_image.specs.Images as images
use Rattle.checkpoint.specs.Slots.{body_spelled, slot_after}
use Rattle.tail_journal.specs.Frames.{frames_after}
use Rattle.tail_journal.specs.Groups.{offsets_at, head_at, body_at}
use Rattle.tail_journal.specs.Spelling.{group_spelled}
use Rattle.state_store.specs.States.{first_state}
use Rattle.state_store.specs.Stands.{stands}

-- an empty mailbox at a moment of the year 2024, and a day later
abbrev day_1 : Mailbox
day_1 = record { me = me; now = 1714564800; next_uid = 1; entries = [] }

abbrev day_2 : Mailbox
day_2 = record day_1 { now = 1714651200 }

abbrev at : ℕ → Position
at count = record { count = count; mbox = 126; steps = 0; lines = 0; mbox_trace = no_trace; steps_trace = no_trace }

-- a slot of the first day with a count
abbrev slot : ℕ → List ℕ
slot count = 1 ∷ body_spelled count (images.image day_1 (at count))

-- the second day comes after so many changes
abbrev next_day : ℕ → List ℕ
next_day count = group_spelled (record { base = count; position = at (count + 1); changes = At 1714651200 ∷ [] })

nothing_kept : stands me (record { a = []; b = []; t = [] }) ≡ Ok (first_state me)
nothing_kept = refl

tail_without_a_slot : stands me (record { a = []; b = []; t = next_day 0 }) ≡ Ok (first_state me)
tail_without_a_slot = refl

slot_alone : stands me (record { a = slot 2; b = []; t = [] }) ≡ Ok (record { mailbox = day_1; position = at 2 })
unfolding body_spelled slot_after images.body_at images.head_at images.position_at images.counts_at images.both_traces_at images.entries_at block_at block_of moment_at times_of frames_after
slot_alone = refl

group_applied : stands me (record { a = slot 2; b = []; t = next_day 2 }) ≡ Ok (record { mailbox = day_2; position = at 3 })
unfolding body_spelled slot_after images.body_at images.head_at images.position_at images.counts_at images.both_traces_at images.entries_at block_at block_of moment_at times_of frames_after body_at head_at offsets_at change_at
group_applied = refl

-- the group is older than the slot
group_already_held : stands me (record { a = slot 2; b = slot 4; t = next_day 2 }) ≡ Ok (record { mailbox = day_1; position = at 4 })
unfolding body_spelled slot_after images.body_at images.head_at images.position_at images.counts_at images.both_traces_at images.entries_at block_at block_of moment_at times_of frames_after
group_already_held = refl

-- a slot of another version, and a group without a change
damaged_slot : stands me (record { a = 1 ∷ body_spelled 2 (0 ∷ []); b = []; t = next_day 2 }) ≡ Err (A, 17)
unfolding body_spelled slot_after
damaged_slot = refl

damaged_group : stands me (record { a = slot 2; b = []; t = group_spelled (record { base = 2; position = at 2; changes = [] }) }) ≡ Err (T, 13)
unfolding body_spelled slot_after images.body_at images.head_at images.position_at images.counts_at images.both_traces_at images.entries_at block_at block_of moment_at times_of frames_after body_at head_at offsets_at
damaged_group = refl
