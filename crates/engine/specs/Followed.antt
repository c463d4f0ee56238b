-- An engine as contracts see it, and why it refuses.
use Rattle.std.specs.Prelude.{◌≡◌, Bool, true, false, None, List}
use Rattle.card_type.specs.declared.key.ChatKey.{ChatKey}
use Rattle.mailbox_model.specs.declared.change.Change.{Change}
use Rattle.mailbox_model.specs.Lists.{Bytes}
use Rattle.mailbox_model.specs.Mailbox.{Mailbox, full}
use Rattle.mailbox_model.specs.Pages.{page, updates}
use Rattle.box_state.specs.declared.mailbox.plan.PlanFault.{PlanFault}
use Rattle.box_state.specs.declared.mailbox.plan.PlanFault.TheVariants as plan
use Rattle.engine.specs.declared.fault.ApplyFault.{ApplyFault}
use Rattle.engine.specs.declared.fault.ApplyFault.TheVariants as apply
use Rattle.engine.specs.declared.fault.AskFault.{AskFault}
use Rattle.engine.specs.declared.fault.AskFault.TheVariants as ask

-- the mailbox that it follows, the keys of the chats that the last change touched, and whether it is stale
pub record Followed : Type 0 where
  pub mailbox : Mailbox
  pub touched : List ChatKey
  pub stale : Bool

-- why a change was not made, and what it left as before: all but where memory ran out, and then the mailbox
abbrev pub IsApplyCause : Followed → Change → Followed → ApplyFault → Type 0
IsApplyCause old change new apply.Full = (full old.mailbox change ≡ true) × (new ≡ old)
IsApplyCause old change new apply.Stale = (old.stale ≡ true) × (new ≡ old)
IsApplyCause old change new apply.Memory = new.mailbox ≡ old.mailbox

-- what it was that let a change be made, or not
pub record IsPrepared (stale : Bool) (m : Mailbox) (change : Change) : Type 0 where
  pub current : stale ≡ false
  pub room : full m change ≡ false

abbrev pub IsUnprepared : Bool → Mailbox → Change → ApplyFault → Type 0
IsUnprepared stale m change apply.Full = (stale ≡ false) × (full m change ≡ true)
IsUnprepared stale m change apply.Stale = stale ≡ true
IsUnprepared stale m change apply.Memory = IsPrepared stale m change

-- and what it was that let nothing be repaired, where the last says whether the engine is stale then
abbrev pub IsUnrepaired : Bool → Mailbox → Change → Bool → ApplyFault → Type 0
IsUnrepaired stale m change after apply.Full = (stale ≡ false) × (full m change ≡ true) × (after ≡ false)
IsUnrepaired stale m change after apply.Stale = (stale ≡ true) × (after ≡ true)
IsUnrepaired stale m change after apply.Memory = IsPrepared stale m change

-- why there is no answer: only a chat that is asked for may be missing, and only an app
abbrev pub IsListCause : Followed → AskFault → Type 0
IsListCause e ask.NoChat = ⊥
IsListCause e ask.NoApp = ⊥
IsListCause e ask.Stale = e.stale ≡ true
IsListCause e ask.Memory = Unit {0}

abbrev pub IsChatCause : ChatKey → Followed → AskFault → Type 0
IsChatCause key e ask.NoChat = page e.mailbox key ≡ None
IsChatCause key e ask.NoApp = ⊥
IsChatCause key e ask.Stale = e.stale ≡ true
IsChatCause key e ask.Memory = Unit {0}

abbrev pub IsUpdatesCause : Bytes → Followed → AskFault → Type 0
IsUpdatesCause id e ask.NoChat = ⊥
IsUpdatesCause id e ask.NoApp = updates e.mailbox id ≡ None
IsUpdatesCause id e ask.Stale = e.stale ≡ true
IsUpdatesCause id e ask.Memory = Unit {0}

abbrev pub apply_fault : PlanFault → ApplyFault
apply_fault plan.Full = apply.Full
apply_fault plan.Memory = apply.Memory
