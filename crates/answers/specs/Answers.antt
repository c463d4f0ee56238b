-- The text that answers a question, and what was put of it.
use Rattle.std.specs.Prelude.{◌≡◌, Bool, true, false, not, ◌||◌, bytes_eq, find, Option, Result, Ok, Err, ok_or, ⊤}
use Rattle.std.specs.Io.KnownBytes.{Appends}
use Rattle.kit.specs.Options.{◌>>=◌}
use Rattle.kit.specs.Ids.{is_id}
use Rattle.kit.specs.Reading.{read_as}
use Rattle.outside.specs.Bytes.{AppendsPrefix}
use Rattle.outside.specs.declared.faults.PrintFault.{PrintFault}
use Rattle.outside.specs.declared.faults.PrintFault.TheVariants as print
use Rattle.card_type.specs.declared.key.ChatKey.{ChatKey}
use Rattle.card_type.specs.KeyTexts.{key_text}
use Rattle.mailbox_model.specs.declared.row.UpdateRow.{UpdateRow}
use Rattle.mailbox_model.specs.Answers as model
use Rattle.mailbox_model.specs.Lists.{Bytes}
use Rattle.mailbox_model.specs.Mailbox.{Mailbox}
use Rattle.mailbox_model.specs.Pages.{keys}
use Rattle.engine.specs.declared.fault.AskFault.{AskFault}
use Rattle.engine.specs.declared.fault.AskFault.TheVariants as ask
use Rattle.answers.specs.declared.fault.AnswerFault.{AnswerFault}
use Rattle.answers.specs.declared.fault.AnswerFault.TheVariants as fault
use Rattle.answers.specs.declared.question.Question.{Question}
use Rattle.answers.specs.declared.question.Question.TheVariants as question

-- the chat in the list whose key has this text
abbrev pub named_key : Mailbox → Bytes → Option ChatKey
named_key m text = find (λ key. bytes_eq (key_text key) text) (keys m)

-- whether an update is wanted: each is, or where an info is asked for, one that has an info
abbrev pub is_wanted : Bool → UpdateRow → Bool
is_wanted info row = not info || model.has_info row

-- the updates of an app: all, or those that have an info
abbrev pub updates_asked : Bool → Bytes → model.Question
updates_asked false id = model.AllUpdates id
updates_asked true id = model.InfoUpdates id

-- The text, by the definition of the mailbox, or why there is none: no chat in the list has the key, or no shown app the id.
-- The list and the contacts are always there.
abbrev pub answer_of : Mailbox → Question → Result Bytes AnswerFault
answer_of m question.List = ok_or (model.answer m model.AllChats) fault.NoChat
answer_of m question.Contacts = ok_or (model.answer m model.AllContacts) fault.NoChat
answer_of m (question.Chat text) = ok_or (named_key m text >>= λ key. model.answer m (model.OneChat key)) fault.NoChat
answer_of m (question.Updates text info) = ok_or (read_as is_id text >>= λ id. model.answer m (updates_asked info id)) fault.NoApp

-- At Ok the answer was put whole, and at Write a prefix of it. Any other reason but memory is the one that the mailbox gives.
abbrev pub Puts : Result Bytes AnswerFault → Option Bytes → Option Bytes → Result Unit AnswerFault → Type 0
Puts (Ok text) old new (Ok _) = Appends old new text
Puts (Ok text) old new (Err fault.Write) = AppendsPrefix old new text
Puts answer old new (Ok _) = ⊥
Puts answer old new (Err fault.Memory) = ⊤
Puts answer old new (Err fault.Write) = ⊥
Puts answer old new (Err why) = answer ≡ Err why

-- an engine is stale only where memory ran out before
abbrev pub ask_fault : AskFault → AnswerFault
ask_fault ask.NoChat = fault.NoChat
ask_fault ask.NoApp = fault.NoApp
ask_fault ask.Stale = fault.Memory
ask_fault ask.Memory = fault.Memory

abbrev pub print_fault : PrintFault → AnswerFault
print_fault print.Write = fault.Write
print_fault print.Memory = fault.Memory
