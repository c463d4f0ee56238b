-- What an opening answers.
use Rattle.std.specs.Prelude.{◌≡◌, ◌≢◌, ◌+◌, ⊤, ℕ, min, Result, Ok, Err}
use Rattle.outside.specs.declared.shelf.Place.{Place}
use Rattle.outside.specs.Places.{Places}
use Rattle.mailbox_model.specs.Lists.{Bytes}
use Rattle.mailbox_model.specs.Mailbox.{Mailbox}
use Rattle.touched_chats.specs.Costs.{change_costs}
use Rattle.indexes.specs.Costs.{load}
use Rattle.state_store.specs.States.{State}
use Rattle.state_store.specs.Stands.{Found, begins, changes_in, stand_of}
use Rattle.state_store.specs.Stored.{SameFound}
use Rattle.outside.specs.declared.faults.StateFault.{StateFault}
use Rattle.outside.specs.declared.faults.StateFault.TheVariants as of_state
use Rattle.keeper.specs.declared.fault.KeepFault.{KeepFault}
use Rattle.keeper.specs.declared.fault.KeepFault.TheVariants as fault
use Rattle.keeper.specs.Keeping.{Keeping}

abbrev pub state_fault : StateFault → KeepFault
state_fault of_state.Disk = fault.Disk
state_fault (of_state.Damaged place at) = fault.Damaged place at
state_fault of_state.Memory = fault.Memory

-- what stands is the state of another address
pub record IsOthers (me other : Bytes) (stand : Result State (Place × ℕ)) : Type 0 where
  pub state : State
  pub is : stand ≡ Ok state
  pub whose : state.mailbox.me ≡ other
  pub differs : other ≢ me

-- Why nothing was opened: damage, or another address, of what stands. The shelf may fail, and memory may run out.
abbrev pub IsOpenCause : Bytes → Result State (Place × ℕ) → KeepFault → Type 0
IsOpenCause me stand fault.Disk = ⊤
IsOpenCause me stand (fault.Damaged place at) = stand ≡ Err (place, at)
IsOpenCause me stand (fault.OtherMe other) = IsOthers me other stand
IsOpenCause me stand fault.Full = ⊥
IsOpenCause me stand fault.Memory = ⊤

-- where the state of another address is kept, this holds
abbrev pub OnOtherMe : {T : Type 0} → Result T KeepFault → Type 0 → Type 0
OnOtherMe (Err (fault.OtherMe other)) P = P
OnOtherMe _ P = ⊤

-- in each of these outcomes the same is found
abbrev pub AllFindSame : (Places → Type 0) → Places → Type 0
AllFindSame outcomes places = (c : Places) → outcomes c → SameFound places c

-- What is opened is what stands, and is the state of this address.
abbrev pub Opens : Bytes → Result Keeping KeepFault → Result State (Place × ℕ) → Type 0
Opens me (Ok k) stand = (stand ≡ Ok k.state) × (k.state.mailbox.me ≡ me)
Opens me (Err why) stand = IsOpenCause me stand why

-- ---- how many reads of kept cards an opening may take

-- the load of the state that stands
abbrev pub load_of : Result State (Place × ℕ) → ℕ
load_of (Ok s) = load s.mailbox
load_of (Err damage) = 0

-- the load of what the chosen slot keeps, and what each change of the groups costs
abbrev pub restoring_cost : Bytes → Found → ℕ
restoring_cost me found = let begun = (begins me found.kept).mailbox in load begun + change_costs begun (changes_in found.groups)

-- the lesser of both; what is damaged is not read
abbrev pub opening_cost : Bytes → Result Found (Place × ℕ) → ℕ
opening_cost me (Ok found) = min (load_of (stand_of me (Ok found))) (restoring_cost me found)
opening_cost me (Err damage) = 0

-- ---- the own address

-- the mailbox is of another address than this, unless memory ran out
abbrev pub IsNotOwn : Bytes → Mailbox → KeepFault → Type 0
IsNotOwn me m (fault.OtherMe other) = (m.me ≡ other) × (other ≢ me)
IsNotOwn me m fault.Memory = ⊤
IsNotOwn me m why = ⊥
