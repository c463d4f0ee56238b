-- The status, its code and its fault line.
use Rattle.std.specs.Prelude.{ℕ, List, [], ◌++◌, codes, Result, Ok, Err}
use Rattle.std.specs.Fmt.{decimal}
use Rattle.outside.specs.Places.{place_name}
use Rattle.mailbox_model.specs.Lists.{Bytes}
use Rattle.answers.specs.declared.fault.AnswerFault.{AnswerFault}
use Rattle.answers.specs.declared.fault.AnswerFault.TheVariants as answer
use Rattle.follower.specs.Following.{input_name}
use Rattle.follower.specs.declared.fault.RunFault.{RunFault}
use Rattle.follower.specs.declared.fault.RunFault.TheVariants as fault
use Rattle.trial.specs.declared.fault.TrialFault.{TrialFault}
use Rattle.trial.specs.declared.fault.TrialFault.TheVariants as of_trial
use Rattle.follow.specs.declared.status.Refusal.{Refusal}
use Rattle.follow.specs.declared.status.Refusal.TheVariants as refusal
use Rattle.follow.specs.declared.status.Status.{Status}
use Rattle.follow.specs.declared.status.Status.TheVariants as status

abbrev pub code_of : Status → ℕ
code_of status.Ok = 0
code_of status.Usage = 1
code_of status.Read = 2
code_of status.Steps = 3
code_of status.Disk = 4
code_of status.Write = 5
code_of status.Memory = 6
code_of status.Full = 7
code_of status.NoChat = 8
code_of status.Damaged = 9
code_of status.Short = 10
code_of status.OtherMe = 11
code_of status.Endless = 12
code_of status.OtherFiles = 13
code_of status.NoApp = 14

abbrev pub status_of : Refusal → Status
status_of refusal.Usage = status.Usage
status_of (refusal.Read input) = status.Read
status_of (refusal.Steps line) = status.Steps
status_of refusal.Disk = status.Disk
status_of refusal.Write = status.Write
status_of refusal.Memory = status.Memory
status_of refusal.Full = status.Full
status_of refusal.NoChat = status.NoChat
status_of (refusal.Damaged place at) = status.Damaged
status_of (refusal.Short input) = status.Short
status_of (refusal.OtherFiles input) = status.OtherFiles
status_of (refusal.OtherMe kept me) = status.OtherMe
status_of (refusal.Endless input) = status.Endless
status_of refusal.NoApp = status.NoApp

-- a run for this address is refused where its files can't be followed
abbrev pub refusal_of : Bytes → RunFault → Refusal
refusal_of me (fault.Read input) = refusal.Read input
refusal_of me (fault.Endless input) = refusal.Endless input
refusal_of me (fault.Short input) = refusal.Short input
refusal_of me (fault.OtherFiles input) = refusal.OtherFiles input
refusal_of me (fault.Steps line) = refusal.Steps line
refusal_of me fault.Full = refusal.Full
refusal_of me fault.Disk = refusal.Disk
refusal_of me (fault.Damaged place at) = refusal.Damaged place at
refusal_of me (fault.OtherMe other) = refusal.OtherMe other me
refusal_of me fault.Memory = refusal.Memory

-- what is said of a refusal
abbrev pub said_of : Refusal → List ℕ
said_of refusal.Usage = codes "usage: --me ADDR [--at N] list | chat KEY | contacts | updates ID [--info] | trial N"
said_of (refusal.Read input) = codes "read fault: " ++ input_name input
said_of (refusal.Steps line) = codes "steps line " ++ decimal line
said_of refusal.Disk = codes "disk fault"
said_of refusal.Write = codes "write fault"
said_of refusal.Memory = codes "out of memory"
said_of refusal.Full = codes "mailbox full"
said_of refusal.NoChat = codes "no such chat"
said_of (refusal.Damaged place at) = codes "damaged " ++ place_name place ++ codes " at " ++ decimal at
said_of (refusal.Short input) = codes "short " ++ input_name input
said_of (refusal.OtherFiles input) = codes "other " ++ input_name input
said_of (refusal.OtherMe kept me) = codes "other address " ++ kept ++ codes ", not " ++ me
said_of (refusal.Endless input) = codes "endless " ++ input_name input
said_of refusal.NoApp = codes "no such app"

abbrev pub line : List ℕ → List ℕ
line said = codes "chats: " ++ said ++ codes "\n"

-- The line that says why there is no answer. Where the answer could not be written, neither is a line.
abbrev pub line_of : Refusal → List ℕ
line_of refusal.Write = []
line_of refusal.Usage = line (said_of refusal.Usage)
line_of (refusal.Read input) = line (said_of (refusal.Read input))
line_of (refusal.Steps n) = line (said_of (refusal.Steps n))
line_of refusal.Disk = line (said_of refusal.Disk)
line_of refusal.Memory = line (said_of refusal.Memory)
line_of refusal.Full = line (said_of refusal.Full)
line_of refusal.NoChat = line (said_of refusal.NoChat)
line_of (refusal.Damaged place at) = line (said_of (refusal.Damaged place at))
line_of (refusal.Short input) = line (said_of (refusal.Short input))
line_of (refusal.OtherFiles input) = line (said_of (refusal.OtherFiles input))
line_of (refusal.OtherMe kept me) = line (said_of (refusal.OtherMe kept me))
line_of (refusal.Endless input) = line (said_of (refusal.Endless input))
line_of refusal.NoApp = line (said_of refusal.NoApp)

abbrev pub answer_refusal : AnswerFault → Refusal
answer_refusal answer.NoChat = refusal.NoChat
answer_refusal answer.NoApp = refusal.NoApp
answer_refusal answer.Write = refusal.Write
answer_refusal answer.Memory = refusal.Memory

abbrev pub trial_refusal : TrialFault → Refusal
trial_refusal of_trial.Full = refusal.Full
trial_refusal of_trial.Write = refusal.Write
trial_refusal of_trial.Memory = refusal.Memory

-- how a run ends whose reply this is
abbrev pub status_in : Result Unit Refusal → Status
status_in (Ok _) = status.Ok
status_in (Err why) = status_of why
