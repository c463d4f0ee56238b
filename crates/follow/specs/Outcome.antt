-- What a run answers and keeps, by its words and by what its devices give.
use Rattle.std.specs.Prelude.{◌≡◌, ◌⊎◌, ◌≤◌, ◌<◌, ℕ, ◌+◌, ◌^◌, Bool, true, false, ◌&&◌, not, nat_lt, bytes_eq, if◌then◌else◌, List, length, Result, Ok, Err, Option, None, Some, IfOk, ok_or, option_map, is_none, is_some, unwrap_or, ⊤}
use Rattle.std.specs.Borrow.{MutBor}
use Rattle.std.specs.Result.{result_map_both}
use Rattle.std.specs.Io.KnownBytes.{Appends, Consumes}
use Rattle.std.proofs.Common.{inl, inr}
use Rattle.outside.specs.Bytes.{AppendsPrefix}
use Rattle.outside.specs.Lent.{Returned}
use Rattle.outside.specs.Moments.{Reached as Left, WhereKnown}
use Rattle.outside.specs.Places.{Places}
use Rattle.outside.specs.declared.shelf.Place.{Place}
use Rattle.mailbox_model.specs.Lists.{Bytes}
use Rattle.state_image.specs.declared.position.Position.{Position}
use Rattle.state_store.specs.States.{State, max_changes}
use Rattle.state_store.specs.Stands.{found_of, stands}
use Rattle.state_store.specs.Commits.{Fill}
use Rattle.state_store.specs.Stored.{fill_in}
use Rattle.keeper.specs.Opening.{opening_cost}
use Rattle.answers.specs.Answers.{answer_of}
use Rattle.answers.specs.Costs.{answer_cost}
use Rattle.answers.specs.declared.question.Question.{Question}
use Rattle.follower.specs.declared.fault.Input.{Input}
use Rattle.follower.specs.declared.fault.Input.TheVariants.{Mbox, Steps}
use Rattle.follow.specs.declared.words.Command.{Command}
use Rattle.follow.specs.declared.words.Command.TheVariants as command
use Rattle.follow.specs.declared.words.Request.{Request}
use Rattle.follow.specs.declared.status.Refusal.{Refusal}
use Rattle.follow.specs.declared.status.Refusal.TheVariants as refusal
use Rattle.follow.specs.declared.status.Status.{Status}
use Rattle.follow.specs.declared.status.Status.TheVariants as status
use Rattle.follow.specs.Words.{request}
use Rattle.follower.specs.Committing.{Prefix, committed}
use Rattle.follower.specs.Feed.{Feed, feed}
use Rattle.follower.specs.Inputs.{other_of}
use Rattle.follower.specs.Reached.{Reached, Stop, Full, BadStep, reached}
use Rattle.follower.specs.Spending.{Counts, counts, run_spends}
use Rattle.trial.specs.Costs.{trial_cost}
use Rattle.trial.specs.Summaries.{trial_text}
use Rattle.follow.specs.Statuses.{answer_refusal, line_of, status_of}

-- ---- what comes of following

-- What a run goes by: the own address, the mbox, the steps file where one is given, the state that stands, or where what is
-- kept is damaged, how many reads of kept cards its opening may take, how full the store is, and a moment where one comes.
pub record Given : Type 0 where
  pub me : Bytes
  pub mbox : Bytes
  pub steps : Option Bytes
  pub stand : Result State (Place × ℕ)
  pub opening : ℕ
  pub fill : Fill
  pub moment : Option ℕ

-- the changes of a run from this state
abbrev pub changes : Given → State → Feed
changes g s = feed s g.mbox g.steps g.moment

-- the input that ends before the position up to which it was followed, if one does
abbrev pub short_steps : ℕ → Option Bytes → Option Input
short_steps place None = None
short_steps place (Some steps) = if nat_lt (length steps) place then Some Steps else None

abbrev pub short_of : Position → Bytes → Option Bytes → Option Input
short_of p mbox steps = if nat_lt (length mbox) p.mbox then Some Mbox else short_steps p.steps steps

-- why nothing is followed from a state, if so: it is of another address, an input is short, or one is not the one that was
-- followed
abbrev pub unfit_files : Given → State → Option Input → Option Refusal
unfit_files g s (Some input) = Some (refusal.Short input)
unfit_files g s None = option_map refusal.OtherFiles (other_of s.position g.mbox g.steps)

abbrev pub unfit : Given → State → Option Refusal
unfit g s =
    if bytes_eq s.mailbox.me g.me then unfit_files g s (short_of s.position g.mbox g.steps)
    else Some (refusal.OtherMe s.mailbox.me g.me)

-- how far the changes come, or why none is made
abbrev pub followed_from : Given → State → Option Refusal → Result Reached Refusal
followed_from g s None = Ok (reached s (changes g s))
followed_from g s (Some why) = Err why

abbrev pub followed_if : Given → Result State (Place × ℕ) → Result Reached Refusal
followed_if g (Ok s) = followed_from g s (unfit g s)
followed_if g (Err damage) = Err (refusal.Damaged damage.0 damage.1)

abbrev pub followed : Given → Result Reached Refusal
followed g = followed_if g g.stand

-- the state that is kept after the run
abbrev pub kept_from : Given → State → Option Refusal → State
kept_from g s None = committed s (changes g s)
kept_from g s (Some why) = s

abbrev pub kept_if : Given → Result State (Place × ℕ) → Result State (Place × ℕ)
kept_if g (Ok s) = Ok (kept_from g s (unfit g s))
kept_if g (Err damage) = Err damage

abbrev pub kept : Given → Result State (Place × ℕ)
kept g = kept_if g g.stand

-- ---- the result

abbrev pub stopped : Stop → Refusal
stopped Full = refusal.Full
stopped (BadStep line) = refusal.Steps line

-- the answer where all changes were made
abbrev pub answer_at : Question → Option Stop → State → Result Bytes Refusal
answer_at q None s = result_map_both (λ text. text) answer_refusal (answer_of s.mailbox q)
answer_at q (Some why) s = Err (stopped why)

abbrev pub replied : Question → Result Reached Refusal → Result Bytes Refusal
replied q (Ok r) = answer_at q r.stop r.state
replied q (Err why) = Err why

unfoldable pub result : Question → Given → Result Bytes Refusal
result q g = replied q (followed g)

-- ---- the outcome of a run

-- whether a command asks for an answer, and does not make a trial
abbrev pub asks : Command → Bool
asks (command.Ask q) = true
asks (command.Trial number) = false

-- whether a run follows its files: its words are a request, and ask for an answer
abbrev pub follows : Option Request → Bool
follows None = false
follows (Some r) = asks r.command

-- whether it needs the clock: neither the words nor a steps file tell the moment
abbrev pub needs_clock : Option Request → Bool → Bool
needs_clock None given = false
needs_clock (Some r) given = asks r.command && not given && is_none r.at

-- The moment that comes: with a steps file that of the words, if they give one, and without one theirs or the clock's.
abbrev pub moment_of_run : Option ℕ → Bool → ℕ → Option ℕ
moment_of_run at true clock = at
moment_of_run at false clock = Some (unwrap_or at clock)

-- what a run finds: the mbox, the steps file where one is given, what the shelf keeps, and the clock's moment
pub record Found : Type 0 where
  pub mbox : Bytes
  pub steps : Option Bytes
  pub places : Places
  pub clock : ℕ

-- so of a run over the mbox alone, and over a steps file too
abbrev pub mbox_found : Bytes → Places → ℕ → Found
mbox_found mbox places clock = record { mbox = mbox; steps = None; places = places; clock = clock }

abbrev pub steps_found : Bytes → Bytes → Places → ℕ → Found
steps_found mbox steps places clock = record { mbox = mbox; steps = Some steps; places = places; clock = clock }

-- what it goes by, of the own address and the moment of its words, and of what it finds
abbrev pub given_of : Bytes → Option ℕ → Found → Given
given_of me at found = record {
  me = me;
  mbox = found.mbox;
  steps = found.steps;
  stand = stands me found.places;
  opening = opening_cost me (found_of found.places);
  fill = fill_in found.places;
  moment = moment_of_run at (is_some found.steps) found.clock;
}

-- the same where the words ask for an answer
abbrev pub given_by : Command → Given → Option Given
given_by (command.Ask q) g = Some g
given_by (command.Trial number) g = None

abbrev pub given_in : Option Request → Found → Option Given
given_in None found = None
given_in (Some r) found = given_by r.command (given_of r.me r.at found)

-- the summary of a trial, where the mailbox has a place for each of its mails
abbrev pub trial_result : Bytes → ℕ → Result Bytes Refusal
trial_result me number = ok_or (trial_text me number) refusal.Full

abbrev pub outcome_by : Command → Bytes → Given → Result Bytes Refusal
outcome_by (command.Ask q) me g = result q g
outcome_by (command.Trial number) me g = trial_result me number

abbrev pub outcome_of : Option Request → Found → Result Bytes Refusal
outcome_of None found = Err refusal.Usage
outcome_of (Some r) found = outcome_by r.command r.me (given_of r.me r.at found)

-- of the words and of what is found
abbrev pub outcome : List Bytes → Found → Result Bytes Refusal
outcome words found = outcome_of (request words) found

-- ---- what is kept

-- this address has the same state
abbrev pub SameState : Bytes → Places → Places → Type 0
SameState me old new = stands me new ≡ stands me old

-- the state after the first changes of the run
abbrev pub IsPrefix : Given → Places → Type 0
IsPrefix g c = (s : State) × (g.stand ≡ Ok s) × Prefix s (changes g s) c

-- What a crash may leave: the state of a crash outcome at the start of the run, or that after the first changes.
abbrev pub MayStand : Given → (Places → Type 0) → Places → Type 0
MayStand g outcomes c = Left outcomes (SameState g.me) c ⊎ IsPrefix g c

-- each crash outcome has the state that is kept after the run
abbrev pub KeepsAll : Given → (Places → Type 0) → Type 0
KeepsAll g outcomes = (c : Places) → outcomes c → stands g.me c ≡ kept g

-- A run that ends so has made its last commit, or has refused to go on at a change or before the first.
abbrev pub OnLast : Status → Type 0 → Type 0
OnLast status.Ok P = P
OnLast status.Write P = P
OnLast status.NoChat P = P
OnLast status.NoApp P = P
OnLast status.Steps P = P
OnLast status.Full P = P
OnLast status.Short P = P
OnLast status.OtherFiles P = P
OnLast status.OtherMe P = P
OnLast _ P = ⊤

-- what the words find, where they are a request, may stand; else what might have been left at the start
abbrev pub MayStandIf : Option Given → (Places → Type 0) → Places → Type 0
MayStandIf (Some g) outcomes c = MayStand g outcomes c
MayStandIf None outcomes c = outcomes c

abbrev pub LastIf : Option Given → Status → (Places → Type 0) → Type 0
LastIf (Some g) s outcomes = OnLast s (KeepsAll g outcomes)
LastIf None s outcomes = ⊤

-- ---- what is read and written

-- by the changes and the commits, where the changes are followed
abbrev pub spent_from : Given → State → Option Refusal → Counts
spent_from g s None = run_spends s g.fill (changes g s)
spent_from g s (Some why) = counts 0 0

abbrev pub spent_if : Given → Result State (Place × ℕ) → Counts
spent_if g (Ok s) = spent_from g s (unfit g s)
spent_if g (Err damage) = counts 0 0

-- by opening, by all changes and by all commits, at most
abbrev pub follow_spends : Given → Counts
follow_spends g = counts (g.opening + (spent_if g g.stand).reads) (spent_if g g.stand).written

-- by the answer, where all changes are made
abbrev pub answer_reads : Question → Result Reached Refusal → ℕ
answer_reads q (Ok r) = if is_none r.stop then answer_cost r.state.mailbox q else 0
answer_reads q (Err why) = 0

abbrev pub asked_cost : Question → Given → Counts
asked_cost q g = counts ((follow_spends g).reads + answer_reads q (followed g)) (follow_spends g).written

-- by a run of these words, at most
abbrev pub cost_by : Command → Bytes → Given → Counts
cost_by (command.Ask q) me g = asked_cost q g
cost_by (command.Trial number) me g = counts (trial_cost me number) 0

abbrev pub cost_of : Option Request → Found → Counts
cost_of None found = counts 0 0
cost_of (Some r) found = cost_by r.command r.me (given_of r.me r.at found)

-- ---- what devices tell

-- the devices tell that this is found
pub record Tells (mbox : Option Bytes) (IsSteps : Option Bytes → Type 0) (seen : Option Places) (IsClock : ℕ → Type 0) (found : Found) : Type 0 where
  pub mbox_is : mbox ≡ Some found.mbox
  pub steps_is : IsSteps found.steps
  pub places_is : seen ≡ Some found.places
  pub clock_is : IsClock found.clock

-- these are the bytes that the steps file has left: it tells them where it is given, and there are none where it is not
abbrev pub TellsSteps : Bool → Option Bytes → Option Bytes → Type 0
TellsSteps false told None = ⊤
TellsSteps true told (Some bytes) = told ≡ Some bytes
TellsSteps _ told _ = ⊥

-- so of one that may be lent
abbrev pub LentTells : {S : Type 0} → (S → Option Bytes) → Option (MutBor S) → Option Bytes → Type 0
LentTells left None steps = TellsSteps false None steps
LentTells left (Some lent) steps = TellsSteps true (left lent.now) steps

-- a device was lent, and P relates it before the call to it after the call
abbrev pub IfLentAnd : {S : Type 0} → Option (MutBor S) → Returned S → (S → S → Type 0) → Type 0
IfLentAnd (Some before) (inr (inl after)) P = P before.now after.0.now
IfLentAnd _ _ P = ⊥

-- What became of a clock: where it was needed it was asked once, or the run ended before; else it is unchanged.
abbrev pub AsksClock : {C : Type 0} → (C → C → ℕ → Type 0) → Bool → C → C → Type 0 → Type 0
AsksClock asked false before after ended = after ≡ before
AsksClock asked true before after ended = ((moment : ℕ) × asked before after moment) ⊎ ((after ≡ before) × ended)

-- the moment that the clock gives next, where it is needed
abbrev pub ClockGives : Bool → Option ℕ → ℕ → Type 0
ClockGives false next moment = ⊤
ClockGives true next moment = next ≡ Some moment

-- the same of a run of these words, where it follows its files
abbrev pub Finds : Option Request → Bool → Option Bytes → (Option Bytes → Type 0) → Option Places → Option ℕ → Found → Type 0
Finds asked given mbox IsSteps seen next found = follows asked ≡ true → Tells mbox IsSteps seen (ClockGives (needs_clock asked given) next) found

-- ---- statuses

-- A status comes exactly where this holds, unless memory runs out.
pub record ComesWhere (answered : Status) (holds : Type 0) (result : Status) : Type 0 where
  pub only : result ≡ answered → holds
  pub always : holds → (result ≡ answered) ⊎ (result ≡ status.Memory)

-- how a run may end that follows no files
abbrev pub EndsBare : Status → Type 0
EndsBare status.Ok = ⊤
EndsBare status.Usage = ⊤
EndsBare status.Write = ⊤
EndsBare status.Memory = ⊤
EndsBare status.Full = ⊤
EndsBare _ = ⊥

-- A status other than Read, Disk, Endless and Memory is the outcome's; Write comes only where the outcome is an answer.
abbrev pub Agrees : Result Bytes Refusal → Status → Type 0
Agrees outcome status.Read = ⊤
Agrees outcome status.Disk = ⊤
Agrees outcome status.Endless = ⊤
Agrees outcome status.Memory = ⊤
Agrees (Ok text) status.Ok = ⊤
Agrees (Ok text) status.Write = ⊤
Agrees (Ok text) _ = ⊥
Agrees (Err why) s = s ≡ status_of why

-- ---- what is put

-- a line was put, or a prefix of it where the sink's count rose
abbrev pub PutsWhole : Option Bytes → Option Bytes → Bytes → Type 0 → Type 0
PutsWhole old new line out_rose = Appends old new line ⊎ (AppendsPrefix old new line × out_rose)

-- Where the outcome is a refusal its own line was put, unless a device failed, an input did not end or memory ran out before.
abbrev pub PutsRefused : Option Bytes → Option Bytes → Type 0 → Refusal → Status → Type 0
PutsRefused old new out_rose why status.Read = ⊤
PutsRefused old new out_rose why status.Disk = ⊤
PutsRefused old new out_rose why status.Endless = ⊤
PutsRefused old new out_rose why status.Memory = ⊤
PutsRefused old new out_rose why s = PutsWhole old new (line_of why) out_rose

-- At Ok the whole answer was put, and at Write a prefix of it; and where there is none, the line that says why.
abbrev pub PutsOutcome : Option Bytes → Option Bytes → Type 0 → Result Bytes Refusal → Status → Type 0
PutsOutcome old new out_rose (Ok text) status.Ok = Appends old new text
PutsOutcome old new out_rose (Ok text) status.Write = AppendsPrefix old new text
PutsOutcome old new out_rose (Ok text) _ = ⊤
PutsOutcome old new out_rose (Err why) s = PutsRefused old new out_rose why s

-- an input gave bytes, and this holds of how many
abbrev pub Gave : Option Bytes → Option Bytes → (ℕ → Type 0) → Type 0
Gave before after P = (bytes : Bytes) × P (length bytes) × Consumes before after bytes

-- an input that is not there gave none
abbrev pub GaveNone : (ℕ → Type 0) → Type 0
GaveNone P = P 0

-- one that may be lent
abbrev pub LentGave : {S : Type 0} → (S → Option Bytes) → Option (MutBor S) → Returned S → (ℕ → Type 0) → Type 0
LentGave left (Some before) (inr (inl after)) P = Gave (left before.now) (left after.0.now) P
LentGave left _ _ P = GaveNone P

-- no more bytes were taken than so many
abbrev pub TakesUpTo : Option Bytes → Option Bytes → ℕ → Type 0
TakesUpTo before after count = Gave before after (λ n. n ≤ count)

-- so many bytes may be taken of the mbox and of the steps file: 64 GiB and 4 GiB
abbrev pub mbox_budget : ℕ
mbox_budget = 2 ^ 36

abbrev pub steps_budget : ℕ
steps_budget = 2 ^ 32

-- this holds of the state that is kept for an own address, where the shelf tells one
abbrev pub Kept : Bytes → Option Places → (State → Type 0) → Type 0
Kept me seen P = WhereKnown seen (λ places. IfOk (stands me places) P)

-- the same where the words ask for it
abbrev pub KeptBy : Command → Bytes → Option Places → (State → Type 0) → Type 0
KeptBy (command.Ask q) me seen P = Kept me seen P
KeptBy (command.Trial number) me seen P = ⊤

abbrev pub KeptFor : Option Request → Option Places → (State → Type 0) → Type 0
KeptFor None seen P = ⊤
KeptFor (Some r) seen P = KeptBy r.command r.me seen P

-- a byte came in, or as many changes were made before as may be
abbrev pub IsFilled : (mbox_gave steps_gave : (ℕ → Type 0) → Type 0) (kept : (State → Type 0) → Type 0) → Type 0
IsFilled mbox_gave steps_gave kept = mbox_gave (λ n. 1 ≤ n) ⊎ (steps_gave (λ n. 1 ≤ n) ⊎ kept (λ s. max_changes ≤ s.position.count))

-- What has to have happened for a refusal, beside what the outcome says: a device failed, or the budget of an input was
-- taken. And whatever the inputs tell, one is short only where it gave fewer bytes than were followed of it by what is kept,
-- a line is refused only where the steps file gave as many bytes as that is its number, and a change has no room only where
-- an input gave a byte, or as many changes were made before as may be.
abbrev pub CauseOf : (mbox_rose steps_rose shelf_rose : Type 0) (mbox_gave steps_gave : (ℕ → Type 0) → Type 0) (kept : (State → Type 0) → Type 0)
    → Refusal → Type 0
CauseOf mbox_rose steps_rose shelf_rose mbox_gave steps_gave kept (refusal.Read Mbox) = mbox_rose
CauseOf mbox_rose steps_rose shelf_rose mbox_gave steps_gave kept (refusal.Read Steps) = steps_rose
CauseOf mbox_rose steps_rose shelf_rose mbox_gave steps_gave kept refusal.Disk = shelf_rose
CauseOf mbox_rose steps_rose shelf_rose mbox_gave steps_gave kept (refusal.Endless Mbox) = mbox_gave (λ n. n ≡ mbox_budget)
CauseOf mbox_rose steps_rose shelf_rose mbox_gave steps_gave kept (refusal.Endless Steps) = steps_gave (λ n. n ≡ steps_budget)
CauseOf mbox_rose steps_rose shelf_rose mbox_gave steps_gave kept (refusal.Short Mbox) = mbox_gave (λ n. kept (λ s. n < s.position.mbox))
CauseOf mbox_rose steps_rose shelf_rose mbox_gave steps_gave kept (refusal.Short Steps) = steps_gave (λ n. kept (λ s. n < s.position.steps))
CauseOf mbox_rose steps_rose shelf_rose mbox_gave steps_gave kept (refusal.Steps number) = steps_gave (λ n. number ≤ n)
CauseOf mbox_rose steps_rose shelf_rose mbox_gave steps_gave kept refusal.Full = IsFilled mbox_gave steps_gave kept
CauseOf mbox_rose steps_rose shelf_rose mbox_gave steps_gave kept _ = ⊤

-- At every other status the line of a refusal with that status and its cause was put, or a prefix of it where the sink's
-- count rose.
abbrev pub PutsLine : Option Bytes → Option Bytes → (Refusal → Type 0) → Type 0 → Status → Type 0
PutsLine old new cause out_rose status.Ok = ⊤
PutsLine old new cause out_rose status.Write = ⊤
PutsLine old new cause out_rose s =
    (why : Refusal) × (s ≡ status_of why) × cause why × PutsWhole old new (line_of why) out_rose
