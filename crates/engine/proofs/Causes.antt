-- Why a change was not made.
use Rattle.std.proofs.Common.{◌≡◌, sym, ap, ◌∙◌, subst, Bool, Result, Err}
use Rattle.std.specs.Prelude.{MatchResult}
use Rattle.mailbox_model.specs.declared.change.Change.{Change}
use Rattle.mailbox_model.specs.Mailbox.{Mailbox}
use Rattle.engine.specs.declared.fault.ApplyFault.{ApplyFault}
use Rattle.engine.specs.declared.fault.ApplyFault.TheVariants as apply
use Rattle.engine.specs.Followed.{Followed, IsApplyCause, IsPrepared, IsUnrepaired}

-- where nothing was repaired, the engine is as before but for what the refusal leaves
pub unmade : (old new : Followed) (change : Change) (after : Bool) (why : ApplyFault) → new ≡ record { mailbox = old.mailbox; touched = old.touched; stale = after }
    → IsUnrepaired old.stale old.mailbox change after why → IsApplyCause old change new why
unmade old new change after apply.Full is cause = (cause.1, is ∙ ap (λ stale. record { mailbox = old.mailbox; touched = old.touched; stale = stale }) (cause.2 ∙ sym cause.0))
unmade old new change after apply.Stale is cause = (cause.0, is ∙ ap (λ stale. record { mailbox = old.mailbox; touched = old.touched; stale = stale }) (cause.1 ∙ sym cause.0))
unmade old new change after apply.Memory is cause = ap (λ e. e.mailbox) is

pub cause_of : {T : Type 0} (stale : Bool) (m : Mailbox) (change : Change) (after : Bool) (r : Result T ApplyFault) (why : ApplyFault) → r ≡ Err why
    → MatchResult r (λ _. IsPrepared stale m change) (IsUnrepaired stale m change after) → IsUnrepaired stale m change after why
cause_of stale m change after r why is h = subst (λ r. MatchResult r (λ _. IsPrepared stale m change) (IsUnrepaired stale m change after)) is h
