-- A state: a mailbox and the position up to which its files were followed.
use Rattle.std.specs.Prelude.{ℕ, ◌≤◌, ◌^◌}
use Rattle.mailbox_model.specs.Lists.{Bytes}
use Rattle.mailbox_model.specs.Mailbox.{Mailbox, empty_mailbox}
use Rattle.box_state.specs.Kept.{Kept}
use Rattle.state_image.specs.declared.position.Position.{Position}
use Rattle.state_image.specs.Images.{no_trace}

pub record State : Type 0 where
  pub mailbox : Mailbox
  pub position : Position

abbrev pub first_position : Position
first_position = record { count = 0; mbox = 0; steps = 0; lines = 0; mbox_trace = no_trace; steps_trace = no_trace }

-- nothing was followed yet
abbrev pub first_state : Bytes → State
first_state me = record { mailbox = empty_mailbox me; position = first_position }

-- the most changes that are counted
abbrev pub max_changes : ℕ
max_changes = 2 ^ 62

-- the count is within its limit, and no more lines than bytes were read of the steps file
pub record IsWithin (p : Position) : Type 0 where
  pub count : p.count ≤ max_changes
  pub lines : p.lines ≤ p.steps

-- what contracts see of a mailbox that is kept, with a position
abbrev pub state_of : Kept × Position → State
state_of kept = record { mailbox = kept.0.mailbox; position = kept.1 }
