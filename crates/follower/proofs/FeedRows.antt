-- Rows of what files give, computed: changes of each kind, a line that is not ended, lines that can't be followed, and mails
-- from a position on.
use Rattle.std.proofs.Common.{◌≡◌, ℕ, refl, [], ◌∷◌, ◌++◌, Some, None, codes}
use Rattle.mailbox_model.specs.declared.change.Change.{Change}
use Rattle.mailbox_model.specs.declared.change.Change.TheVariants.{ArriveFault, Expunge, Seen, At}
use Rattle.mailbox_model.specs.declared.change.Fault.TheVariants.{NoFields}
use Rattle.mailbox_model.specs.Lists.{Bytes}
use Rattle.kit.specs.Chains.{chain}
use Rattle.state_image.specs.Images.{no_trace}
use Rattle.state_image.specs.declared.position.Position.{Position}
use Rattle.state_store.specs.States.{first_state}
use Rattle.follower.specs.Feed.{BadLine, End, Fed, feed}

-- of no bytes it is the one that is not kept
abbrev trace_of : Bytes → Bytes
trace_of [] = no_trace
trace_of (b ∷ bytes) = chain (b ∷ bytes)

abbrev me : Bytes
me = codes "me@x.org"

-- the numbers of a position, and then the bytes of the mbox and of the steps file of which it has the traces
abbrev position : (count mbox steps lines : ℕ) → (mbox_bytes steps_bytes : Bytes) → Position
position count mbox steps lines mbox_bytes steps_bytes =
    record { count = count; mbox = mbox; steps = steps; lines = lines; mbox_trace = trace_of mbox_bytes; steps_trace = trace_of steps_bytes }

abbrev made : Change → Position → Fed
made change p = record { change = change; position = p }

-- a mail without a field
abbrev bare : Bytes
bare = codes "From -\n\n"

each_kind : feed (first_state me) [] (Some (codes "at 5\nseen 1\r\nexpunge 2\n")) None
    ≡ record {
      changes = made (At 5) (position 1 0 5 1 [] (codes "at 5\n")) ∷ made (Seen 1) (position 2 0 13 2 [] (codes "at 5\nseen 1\r\n"))
          ∷ made (Expunge 2) (position 3 0 23 3 [] (codes "at 5\nseen 1\r\nexpunge 2\n")) ∷ [];
      ending = End;
    }
each_kind = refl

-- the moment of the run comes last
moment_last : feed (first_state me) [] (Some (codes "at 5\n")) (Some 7)
    ≡ record { changes = made (At 5) (position 1 0 5 1 [] (codes "at 5\n")) ∷ made (At 7) (position 2 0 5 1 [] (codes "at 5\n")) ∷ []; ending = End }
moment_last = refl

-- a line that no LF ends is left
not_ended : feed (first_state me) [] (Some (codes "at 5\nsee")) None ≡ record { changes = made (At 5) (position 1 0 5 1 [] (codes "at 5\n")) ∷ []; ending = End }
not_ended = refl

no_step : feed (first_state me) [] (Some (codes "at 5\nsee\nat 6\n")) (Some 7) ≡ record { changes = made (At 5) (position 1 0 5 1 [] (codes "at 5\n")) ∷ []; ending = BadLine 2 }
no_step = refl

one_mail_too_few : feed (first_state me) bare (Some (codes "next\nnext\n")) None
    ≡ record { changes = made (ArriveFault NoFields) (position 1 8 5 1 bare (codes "next\n")) ∷ []; ending = BadLine 2 }
one_mail_too_few = refl

-- the moment comes first
mails_alone : feed (first_state me) (bare ++ bare) None (Some 5)
    ≡ record {
      changes = made (At 5) (position 1 0 0 0 [] []) ∷ made (ArriveFault NoFields) (position 2 8 0 0 bare []) ∷ made (ArriveFault NoFields) (position 3 16 0 0 (bare ++ bare) []) ∷ [];
      ending = End;
    }
mails_alone = refl

-- the first mail and the first line were followed before, and their traces were not kept
from_a_position : feed (record { mailbox = (first_state me).mailbox; position = position 3 8 5 1 [] [] }) (bare ++ bare) (Some (codes "next\nnext\n")) None
    ≡ record { changes = made (ArriveFault NoFields) (position 4 16 10 2 (bare ++ bare) (codes "next\nnext\n")) ∷ []; ending = End }
from_a_position = refl
