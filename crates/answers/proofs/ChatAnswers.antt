-- What is put of the page of a chat.
use Rattle.std.proofs.Common.{◌≡◌, Option, None, Some, Result, Ok, Err, option_map, ok_or, refl, sym, ap, subst, ◌∙◌}
use Rattle.std.specs.Prelude.{◌≢◌, IfNone, IfSome}
use Rattle.std.specs.Io.KnownBytes.{Appends}
use Rattle.outside.specs.Bytes.{AppendsPrefix}
use Rattle.outside.specs.declared.faults.PrintFault.{PrintFault}
use Rattle.outside.specs.declared.faults.PrintFault.TheVariants as print
use Rattle.card_type.specs.declared.key.ChatKey.{ChatKey}
use Rattle.card_type.specs.KeyTexts.{key_text}
use Rattle.mailbox_model.specs.declared.page.ChatPage.{ChatPage}
use Rattle.mailbox_model.specs.Lists.{Bytes}
use Rattle.mailbox_model.specs.Mailbox.{IsMailbox, Mailbox}
use Rattle.mailbox_model.specs.Pages.{page}
use Rattle.mailbox_model.specs.Printed.{chat_text}
use Rattle.engine.specs.Followed.{Followed, IsChatCause}
use Rattle.engine.specs.declared.fault.AskFault.{AskFault}
use Rattle.engine.specs.declared.fault.AskFault.TheVariants as ask
use Rattle.answers.specs.declared.fault.AnswerFault.{AnswerFault}
use Rattle.answers.specs.declared.fault.AnswerFault.TheVariants as fault
use Rattle.answers.specs.declared.question.Question.TheVariants as question
use Rattle.answers.specs.Answers.{Puts, answer_of, ask_fault, print_fault}
use Rattle.answers.proofs.KeyLaws.{IsKey}
use Rattle.answers.proofs.NamedChats.{chat_answer, no_page_of_text, page_of_text}

pub puts_memory : (a : Result Bytes AnswerFault) (old new : Option Bytes) → Puts a old new (Err fault.Memory)
puts_memory (Ok text) old new = tt
puts_memory (Err why) old new = tt

puts_none : (a : Result Bytes AnswerFault) (old new : Option Bytes) → a ≡ Err fault.NoChat → Puts a old new (Err fault.NoChat)
puts_none a old new is = subst (λ a. Puts a old new (Err fault.NoChat)) (sym is) refl

-- ---- the answer, by the page of the key

pub no_answer : (m : Mailbox) (text : Bytes) (old new : Option Bytes) → IsMailbox m → ((k : ChatKey) → IsKey k → key_text k ≢ text)
    → Puts (answer_of m (question.Chat text)) old new (Err fault.NoChat)
no_answer m text old new rules other =
    puts_none (answer_of m (question.Chat text)) old new
    (chat_answer m text ∙ ap (λ o. ok_or (option_map chat_text o) fault.NoChat) (no_page_of_text m text rules other))

by_page : (m : Mailbox) (key : ChatKey) (text : Bytes) → key_text key ≡ text → answer_of m (question.Chat text) ≡ ok_or (option_map chat_text (page m key)) fault.NoChat
by_page m key text is = chat_answer m text ∙ ap (λ o. ok_or (option_map chat_text o) fault.NoChat) (page_of_text m key text is)

-- ---- what the engine and the printing answer

pub not_asked : (e : Followed) (key : ChatKey) (text : Bytes) (old new : Option Bytes) (why : AskFault) → key_text key ≡ text → IsChatCause key e why
    → Puts (answer_of e.mailbox (question.Chat text)) old new (Err (ask_fault why))
not_asked e key text old new ask.NoChat is none =
    puts_none (answer_of e.mailbox (question.Chat text)) old new (by_page e.mailbox key text is ∙ ap (λ o. ok_or (option_map chat_text o) fault.NoChat) none)
not_asked e key text old new ask.NoApp is never = absurd never
not_asked e key text old new ask.Stale is stale = puts_memory (answer_of e.mailbox (question.Chat text)) old new
not_asked e key text old new ask.Memory is memory = puts_memory (answer_of e.mailbox (question.Chat text)) old new

answered : (m : Mailbox) (key : ChatKey) (text : Bytes) (p : ChatPage) → key_text key ≡ text → page m key ≡ Some p → answer_of m (question.Chat text) ≡ Ok (chat_text p)
answered m key text p is found = by_page m key text is ∙ ap (λ o. ok_or (option_map chat_text o) fault.NoChat) found

pub not_printed : (m : Mailbox) (key : ChatKey) (text : Bytes) (p : ChatPage) (old new : Option Bytes) (why : PrintFault) → key_text key ≡ text → page m key ≡ Some p
    → (why ≡ print.Write → AppendsPrefix old new (chat_text p)) → Puts (answer_of m (question.Chat text)) old new (Err (print_fault why))
not_printed m key text p old new print.Write is found put =
    subst (λ a. Puts a old new (Err fault.Write)) (sym (answered m key text p is found)) (put refl)
not_printed m key text p old new print.Memory is found put = puts_memory (answer_of m (question.Chat text)) old new

pub printed : (m : Mailbox) (key : ChatKey) (text : Bytes) (p : ChatPage) (old new : Option Bytes) → key_text key ≡ text → page m key ≡ Some p
    → Appends old new (chat_text p) → Puts (answer_of m (question.Chat text)) old new (Ok tt)
printed m key text p old new is found put = subst (λ a. Puts a old new (Ok tt)) (sym (answered m key text p is found)) put

-- ---- the key that is read of a text

pub no_key : (o : Option ChatKey) (bytes text : Bytes) → o ≡ None → bytes ≡ text → IfNone o ((k : ChatKey) → IsKey k → key_text k ≢ bytes) → (k : ChatKey) → IsKey k → key_text k ≢ text
no_key None bytes text is same none = subst (λ text. (k : ChatKey) → IsKey k → key_text k ≢ text) same none
no_key (Some key) bytes text is same none = absurd cc

pub its_key : (o : Option ChatKey) (key : ChatKey) (bytes text : Bytes) → o ≡ Some key → bytes ≡ text → IfSome o (λ k. key_text k ≡ bytes) → key_text key ≡ text
its_key None key bytes text is same read = absurd cc
its_key (Some k) key bytes text is same read = (let one : k ≡ key = cc in ap key_text (sym one) ∙ read ∙ same)
