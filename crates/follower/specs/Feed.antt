-- The changes that a run makes of its files: those of the steps file where one is given, and else an arrival for each mail.
use Rattle.std.specs.Prelude.{ℕ, ◌+◌, List, [], ◌∷◌, length, take, drop, Option, Some, None, unwrap_or}
use Rattle.kit.specs.Chains.{chain}
use Rattle.kit.specs.Lines.{content}
use Rattle.mboxrd.specs.Mails.{Mail, mails_from}
use Rattle.steps_file.specs.Lines.{ended_lines}
use Rattle.steps_file.specs.Steps.{step_of}
use Rattle.steps_file.specs.declared.step.Step.{Step}
use Rattle.steps_file.specs.declared.step.Step.TheVariants as step
use Rattle.mailbox_model.specs.declared.change.Change.{Change}
use Rattle.mailbox_model.specs.declared.change.Change.TheVariants.{Expunge, Seen, At}
use Rattle.mailbox_model.specs.Lists.{Bytes}
use Rattle.state_image.specs.declared.position.Position.{Position}
use Rattle.state_store.specs.States.{State}
use Rattle.keeper.specs.Keeping.{after_change}
use Rattle.arrivals.specs.Arrivals.{arrival_of}

-- ---- a change, with the position after it

pub record Fed : Type 0 where
  pub change : Change
  pub position : Position

abbrev pub after_fed : State → Fed → State
after_fed s f = after_change s f.change f.position

-- how the changes end: with the files, or before a line of the steps file that can't be followed
pub data Ending : Type 0 where
  End : Ending
  BadLine : (number : ℕ) → Ending

pub record Feed : Type 0 where
  pub changes : List Fed
  pub ending : Ending

abbrev pub fed_first : Fed → Feed → Feed
fed_first f rest = record { changes = f ∷ rest.changes; ending = rest.ending }

abbrev pub ends : Ending → Feed
ends ending = record { changes = []; ending = ending }

-- the files of a run, from their beginnings; no bytes of a steps file where none is given
pub record Files : Type 0 where
  pub mbox : Bytes
  pub steps : Bytes

abbrev pub files_of : Bytes → Option Bytes → Files
files_of mbox steps = record { mbox = mbox; steps = unwrap_or steps [] }

-- ---- positions: each change counts, a mail moves the place in the mbox, and a line that in the steps file; the trace there is
-- the chain of the file up to it

abbrev pub counted : Position → Position
counted p = record p { count = p.count + 1 }

abbrev pub mbox_at : Files → Position → ℕ → Position
mbox_at files p place = record p { mbox = place; mbox_trace = chain (take place files.mbox) }

abbrev pub steps_at : Files → Position → ℕ → Position
steps_at files p place = record p { steps = place; lines = p.lines + 1; steps_trace = chain (take place files.steps) }

abbrev pub at_mail : Files → Position → Mail → Position
at_mail files p mail = mbox_at files p mail.end

abbrev pub at_line : Files → Position → List ℕ → Position
at_line files p raw = steps_at files p (p.steps + length raw)

-- ---- the changes

-- a mail arrives and gets this uid
abbrev pub mail_fed : Files → ℕ → Position → Mail → Fed
mail_fed files uid p mail = record { change = arrival_of uid mail; position = at_mail files (counted p) mail }

-- a moment comes
abbrev pub moment_fed : Position → ℕ → Fed
moment_fed p moment = record { change = At moment; position = counted p }

-- the mails, the first of which gets this uid
abbrev pub mails_fed : Files → ℕ → Position → List Mail → Feed
mails_fed files uid p [] = ends End
mails_fed files uid p (mail ∷ mails) = fed_first (mail_fed files uid p mail) (mails_fed files (uid + 1) (at_mail files (counted p) mail) mails)

-- the moment that comes last, if there is one
abbrev pub last_fed : Option ℕ → Position → Feed
last_fed None p = ends End
last_fed (Some moment) p = fed_first (moment_fed p moment) (ends End)

-- The change of a line of the steps file, and then what comes of the mails that are left. A line that is no step can't be
-- followed, nor one that takes the next mail where there is none.
abbrev pub line_fed : Files → Option Step → ℕ → Position → List ℕ → List Mail → (ℕ → Position → List Mail → Feed) → Feed
line_fed files None uid p raw mails more = ends (BadLine (p.lines + 1))
line_fed files (Some step.Next) uid p raw [] more = ends (BadLine (p.lines + 1))
line_fed files (Some step.Next) uid p raw (mail ∷ mails) more =
    fed_first (mail_fed files uid (at_line files p raw) mail) (more (uid + 1) (at_mail files (counted (at_line files p raw)) mail) mails)
line_fed files (Some (step.Expunge n)) uid p raw mails more =
    fed_first (record { change = Expunge n; position = counted (at_line files p raw) }) (more uid (counted (at_line files p raw)) mails)
line_fed files (Some (step.Seen n)) uid p raw mails more =
    fed_first (record { change = Seen n; position = counted (at_line files p raw) }) (more uid (counted (at_line files p raw)) mails)
line_fed files (Some (step.At moment)) uid p raw mails more =
    fed_first (moment_fed (at_line files p raw) moment) (more uid (counted (at_line files p raw)) mails)

-- the lines of the steps file over the mails that are left, and then the moment that comes last
abbrev pub lines_fed : Files → Option ℕ → ℕ → Position → List Mail → List (List ℕ) → Feed
lines_fed files last uid p mails [] = last_fed last p
lines_fed files last uid p mails (raw ∷ lines) =
    line_fed files (step_of (content raw)) uid p raw mails (λ uid p mails. lines_fed files last uid p mails lines)

-- ---- the feed of a state

-- what comes of mails, and of lines where a steps file is given
abbrev pub coming : Files → Option ℕ → State → List Mail → Option (List (List ℕ)) → Feed
coming files last s mails None = mails_fed files s.mailbox.next_uid s.position mails
coming files last s mails (Some lines) = lines_fed files last s.mailbox.next_uid s.position mails lines

-- what is left of the mbox and of the steps file
abbrev pub mails_left : Position → Bytes → List Mail
mails_left p mbox = mails_from p.mbox (drop p.mbox mbox)

abbrev pub lines_left : Position → Bytes → List (List ℕ)
lines_left p steps = ended_lines (drop p.steps steps)

-- a moment, where there is one, and then what comes of the mails
abbrev pub mails_feed : Files → State → List Mail → Option ℕ → Feed
mails_feed files s mails None = coming files None s mails None
mails_feed files s mails (Some moment) =
    fed_first (moment_fed s.position moment) (coming files None (after_fed s (moment_fed s.position moment)) mails None)

-- The changes of a run: without a steps file the moment comes first, and with one it comes last, where there is one.
abbrev pub feed : State → Bytes → Option Bytes → Option ℕ → Feed
feed s mbox None moment = mails_feed (files_of mbox None) s (mails_left s.position mbox) moment
feed s mbox (Some steps) moment =
    coming (files_of mbox (Some steps)) moment s (mails_left s.position mbox) (Some (lines_left s.position steps))
