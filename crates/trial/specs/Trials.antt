-- The mailbox of a trial.
use Rattle.std.specs.Prelude.{ℕ, ◌+◌, Bool, false, ◌||◌, if◌then◌else◌, Option, Some, None, List, [], ◌∷◌}
use Rattle.mboxrd.specs.Mails.{Mail, mails_from}
use Rattle.box_maker.specs.Boxes.{trial_box}
use Rattle.mailbox_model.specs.declared.change.Change.{Change}
use Rattle.mailbox_model.specs.declared.change.Change.TheVariants.{At}
use Rattle.mailbox_model.specs.Lists.{Bytes}
use Rattle.mailbox_model.specs.Mailbox.{Mailbox, after, after_all, empty_mailbox, full}
use Rattle.arrivals.specs.Arrivals.{arrival_of}

-- the arrivals of mails, of which the first gets this uid
abbrev pub arrivals : ℕ → List Mail → List Change
arrivals uid [] = []
arrivals uid (mail ∷ mails) = arrival_of uid mail ∷ arrivals (uid + 1) mails

-- whether one of these changes is full where it comes
abbrev pub is_one_full : Mailbox → List Change → Bool
is_one_full m [] = false
is_one_full m (change ∷ changes) = full m change || is_one_full (after m change) changes

-- the mailbox after all of them, where none is full
abbrev pub after_allowed : Mailbox → List Change → Option Mailbox
after_allowed m changes = if is_one_full m changes then None else Some (after_all m changes)

-- the mails of the trial mailbox with a number
abbrev pub trial_mails : Bytes → ℕ → List Mail
trial_mails me number = mails_from 0 (trial_box number 2000 me)

-- they arrive one after the other at 2024-02-01 00:00 UTC
abbrev pub trial_changes : Bytes → ℕ → List Change
trial_changes me number = At 1706745600 ∷ arrivals 1 (trial_mails me number)

-- the mailbox of a trial; none where it has no place for one of the mails
abbrev pub trial_mailbox : Bytes → ℕ → Option Mailbox
trial_mailbox me number = after_allowed (empty_mailbox me) (trial_changes me number)
