-- What is kept after an opening, and why nothing is opened.
use Rattle.std.proofs.Common.{◌≡◌, ◌≢◌, ℕ, ◌+◌, ◌≤◌, Option, Result, Ok, Err, sym, ◌∙◌, ap, arith}
use Rattle.std.specs.Prelude.{IfOk}
use Rattle.outside.specs.declared.shelf.Place.{Place}
use Rattle.outside.specs.Places.{Places}
use Rattle.outside.specs.Moments.{KnownThen, WhereKnown}
use Rattle.outside.specs.StateFaults.{Fails}
use Rattle.outside.specs.declared.faults.StateFault.{StateFault}
use Rattle.outside.specs.declared.faults.StateFault.TheVariants as of_state
use Rattle.mailbox_model.specs.Lists.{Bytes}
use Rattle.mailbox_model.specs.Mailbox.{Mailbox}
use Rattle.touched_chats.specs.Costs.{build_reads}
use Rattle.touched_chats.proofs.Rebuilding.{build_after_all}
use Rattle.indexes.specs.Costs.{load}
use Rattle.indexes.proofs.Loads.{build_fits}
use Rattle.state_store.specs.States.{State}
use Rattle.state_store.specs.Stands.{Found, begins, changes_in, found_of, stand_of, stands, ComesOf}
use Rattle.state_store.specs.Stored.{IsStored, SameFound}
use Rattle.state_store.specs.declared.store.Store.{Store}
use Rattle.state_store.proofs.Appending.{is_settled}
use Rattle.keeper.specs.declared.fault.KeepFault.{KeepFault}
use Rattle.keeper.specs.declared.fault.KeepFault.TheVariants as fault
use Rattle.keeper.specs.Keeping.{Keeping, IsKept}
use Rattle.keeper.specs.Opening.{AllFindSame, IsNotOwn, IsOpenCause, OnOtherMe, load_of, opening_cost, state_fault}
use Rattle.tail_journal.specs.Pending.{none_pending}
use Rattle.keeper.proofs.Keeping.{kept_alone}

pub on_other : {T : Type 0} (r : Result T KeepFault) (P : Type 0) → P → OnOtherMe r P
on_other (Ok x) P p = tt
on_other (Err fault.Disk) P p = tt
on_other (Err (fault.Damaged place at)) P p = tt
on_other (Err (fault.OtherMe other)) P p = p
on_other (Err fault.Full) P p = tt
on_other (Err fault.Memory) P p = tt

module _ (old new : Option Places) (same : KnownThen old new SameFound) where
  -- a shelf that is settled for the store leaves what was found
  pub all_find_same : (store : Store) (outcomes : Places → Type 0) → WhereKnown new (IsStored store outcomes) → WhereKnown old (AllFindSame outcomes)
  all_find_same store outcomes stored places is c left =
      let mid = same.forth places is in
      ap found_of (is_settled store outcomes mid.places (stored mid.places mid.is) c left) ∙ mid.holds

  -- what stood is the keeper's state
  pub opened_is_kept : (me : Bytes) (k : Keeping) (s : State) → WhereKnown old (λ places. stands me places ≡ Ok s) → s.mailbox.me ≡ me → k.state ≡ s → k.pending ≡ none_pending → WhereKnown new (IsKept k)
  opened_is_kept me k s stood whose state none places is =
      let before = same.back places is in
      kept_alone k places none (ap (λ (t : State). stands t.mailbox.me places) state ∙ ap (λ (me : Bytes). stands me places) whose
      ∙ ap (stand_of me) before.holds ∙ stood before.places before.is ∙ ap (λ (t : State). Ok t) (sym state))

-- ---- why nothing is opened

pub cause_of : (me : Bytes) (stand : Result State (Place × ℕ)) (why : StateFault) → Fails why stand → IsOpenCause me stand (state_fault why)
cause_of me stand of_state.Disk fails = tt
cause_of me stand (of_state.Damaged place at) fails = fails
cause_of me stand of_state.Memory fails = tt

pub others_stand : (me : Bytes) (stand : Result State (Place × ℕ)) (s : State) (why : KeepFault) → stand ≡ Ok s → IsNotOwn me s.mailbox why → IsOpenCause me stand why
others_stand me stand s fault.Disk is not = absurd not
others_stand me stand s (fault.Damaged place at) is not = absurd not
others_stand me stand s (fault.OtherMe other) is not = record { state = s; is = is; whose = not.0; differs = not.1 }
others_stand me stand s fault.Full is not = absurd not
others_stand me stand s fault.Memory is not = tt

-- an opening finds no place full

pub state_not_full : (why : StateFault) → state_fault why ≢ fault.Full
state_not_full of_state.Disk is = cc
state_not_full (of_state.Damaged place at) is = cc
state_not_full of_state.Memory is = cc

pub own_not_full : (me : Bytes) (m : Mailbox) (why : KeepFault) → IsNotOwn me m why → why ≢ fault.Full
own_not_full me m fault.Full not is = not
own_not_full me m fault.Disk not is = not
own_not_full me m (fault.Damaged place at) not is = not
own_not_full me m (fault.OtherMe other) not is = cc
own_not_full me m fault.Memory not is = cc

-- ---- what an opening reads

-- where what is read goes with the mailbox of the state that stands, however often that is
pub opening_fits : (me : Bytes) (found : Result Found (Place × ℕ)) (s : State) (old new : ℕ) → stand_of me found ≡ Ok s
    → IfOk found (λ f. ComesOf me f s.mailbox) → new ≤ old + build_reads s.mailbox → new ≤ old + opening_cost me found
opening_fits me (Err bad) s old new stood comes reads = absurd (cc)
opening_fits me (Ok found) s old new stood comes reads =
    let begun = (begins me found.kept).mailbox in
    let changes = changes_in found.groups in
    let stand : load_of (stand_of me (Ok found)) ≡ load s.mailbox = ap load_of stood in
    let grown = build_after_all begun changes comes.rules comes.allowed in
    omega (arith, stand, grown, reads, ap build_reads comes.is, build_fits s.mailbox, build_fits begun)
