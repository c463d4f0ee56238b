-- The mails of an mbox in memory as contracts see them.
use Rattle.std.specs.Prelude.{◌≡◌, ℕ, ◌+◌, ◌<◌, Bool, List, [], ◌∷◌, ◌++◌, length, Option, Some, None}
use Rattle.mboxrd.specs.Mails.{Mail, mails_from}
use Rattle.mboxrd.specs.Reading.{Reading, position}
use Rattle.mailbox_model.specs.declared.change.Change.{Change}
use Rattle.mailbox_model.specs.Lists.{Bytes}
use Rattle.arrivals.specs.Arrivals.{arrival_of}

-- the mails that come next, and whether a call has failed
pub record Ahead : Type 0 where
  pub mails : List Mail
  pub refused : Bool

-- the mails that a reader has ahead, where its source has these bytes left
abbrev pub mails_ahead : Option Bytes → Reading → List Mail
mails_ahead None r = []
mails_ahead (Some left) r = mails_from (position r) (r.held ++ left)

-- the source has fewer bytes left than the reader may still take
abbrev pub IsWithin : Option Bytes → Reading → Type 0
IsWithin None r = ⊥
IsWithin (Some left) r = r.taken + length left < r.budget

-- the arrival of the first of these mails, which gets this uid, or that there is none; the others come next
abbrev pub ArrivesNext : ℕ → List Mail → Option Change → List Mail → Type 0
ArrivesNext uid [] None others = others ≡ []
ArrivesNext uid (mail ∷ mails) (Some change) others = (change ≡ arrival_of uid mail) × (others ≡ mails)
ArrivesNext uid mails change others = ⊥
