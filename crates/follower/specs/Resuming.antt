-- A run that goes on where another one was stopped, over files that may have grown since then.
use Rattle.std.specs.Prelude.{◌≡◌, ◌≢◌, ◌≤◌, ℕ, ◌++◌, length, Option, Some, None, ⊤}
use Rattle.mboxrd.specs.Growth.{IsClosed, BeginsMail}
use Rattle.mailbox_model.specs.Lists.{Bytes}
use Rattle.state_image.specs.declared.position.Position.{Position}
use Rattle.state_store.specs.States.{State, max_changes}
use Rattle.follower.specs.Feed.{Feed, feed}
use Rattle.follower.specs.Going.{Leads}
use Rattle.follower.specs.Reached.{Reached, Full, reached}

-- ---- files that grow

-- The mbox was closed. Whole mails follow it now, or nothing.
pub record MboxGrows (old new : Bytes) : Type 0 where
  pub closed : IsClosed old
  pub more : Bytes
  pub begins : BeginsMail more
  pub is : new ≡ old ++ more

-- A steps file is there both times or at neither. More bytes may follow it now, but none where a moment comes last.
abbrev pub StepsGrow : Option Bytes → Option Bytes → Option ℕ → Type 0
StepsGrow None None moment = ⊤
StepsGrow (Some old) (Some new) None = (more : Bytes) × (new ≡ old ++ more)
StepsGrow (Some old) (Some new) (Some moment) = new ≡ old
StepsGrow _ _ moment = ⊥

-- the position lies within the files
abbrev pub LiesWithin : Position → Bytes → Option Bytes → Type 0
LiesWithin p mbox None = p.mbox ≤ length mbox
LiesWithin p mbox (Some steps) = (p.mbox ≤ length mbox) × (p.steps ≤ length steps)

-- ---- runs

-- where a run stops as full, its count is not at its end
abbrev pub CountsOn : Reached → Type 0
CountsOn r = r.stop ≡ Some Full → r.state.position.count ≢ max_changes

-- they come to an end, or to none for the same reason, and with the same mailbox
pub record ReachSame (a b : Reached) : Type 0 where
  pub stop : a.stop ≡ b.stop
  pub mailbox : a.state.mailbox ≡ b.state.mailbox

-- A run made the first of its changes. A second one, from the state after these and over files that have grown, comes to
-- where the first would have come over these files. A moment that both make is counted twice, and has no other effect.
abbrev pub ChangesGoOn : Type 0
ChangesGoOn = (s t : State) (mbox longer : Bytes) (steps more : Option Bytes) (moment : Option ℕ) (others : Feed)
    → MboxGrows mbox longer → StepsGrow steps more moment → LiesWithin s.position mbox steps → Leads s (feed s mbox steps moment) t others
    → CountsOn (reached s (feed s longer more moment)) → CountsOn (reached t (feed t longer more moment))
    → ReachSame (reached t (feed t longer more moment)) (reached s (feed s longer more moment))
