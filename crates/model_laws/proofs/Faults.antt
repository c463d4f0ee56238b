-- A mail that cannot be read is a line of the list, and nothing else.
use Rattle.std.proofs.Common.{◌≡◌, ap, false, Err, [], ◌∷◌, ◌++◌}
use Rattle.std.proofs.lemmas.List.Elements.{filter_map-append}
use Rattle.lists.specs.Distinct.{firsts}
use Rattle.mailbox_model.specs.declared.change.Change.TheVariants.{ArriveFault}
use Rattle.mailbox_model.specs.declared.change.Fault.{Fault}
use Rattle.mailbox_model.specs.Mailbox.{Mailbox, new_entry, after}
use Rattle.mailbox_model.specs.Present.{same_id, present}
use Rattle.mailbox_model.specs.ChatList.{fault_by, list_page}
use Rattle.mailbox_model.specs.Answers.{Question, answer}
use Rattle.mailbox_model.specs.Answers.Question.{AllChats, OneChat, AllContacts, AllUpdates, InfoUpdates}
use Rattle.mailbox_model.proofs.MailLaws.{mails-fault}
use Rattle.model_laws.specs.Questions.{is_of_list}
use Rattle.model_laws.proofs.Parts.{list_rows_in, answer_in}

present-fault : (m : Mailbox) (fault : Fault) → present (after m (ArriveFault fault)) ≡ present m
present-fault m fault = ap (firsts same_id) (mails-fault m fault)

pub rows-fault : (m : Mailbox) (fault : Fault) → (list_page (after m (ArriveFault fault))).rows ≡ (list_page m).rows
rows-fault m fault = ap (list_rows_in m.me m.now) (present-fault m fault)

pub faults-fault : (m : Mailbox) (fault : Fault)
    → (list_page (after m (ArriveFault fault))).faults ≡ (list_page m).faults ++ record { uid = m.next_uid; fault = fault } ∷ []
faults-fault m fault = filter_map-append (λ entry. fault_by entry.uid entry.read) m.entries (new_entry m (Err fault) ∷ [])

pub others-fault : (m : Mailbox) (fault : Fault) (question : Question) → is_of_list question ≡ false
    → answer (after m (ArriveFault fault)) question ≡ answer m question
others-fault m fault AllChats other = cc
others-fault m fault (OneChat key) other = ap (λ ps. answer_in m.me m.now ps [] (OneChat key)) (present-fault m fault)
others-fault m fault AllContacts other = ap (λ ps. answer_in m.me m.now ps [] AllContacts) (present-fault m fault)
others-fault m fault (AllUpdates id) other = ap (λ ps. answer_in m.me m.now ps [] (AllUpdates id)) (present-fault m fault)
others-fault m fault (InfoUpdates id) other = ap (λ ps. answer_in m.me m.now ps [] (InfoUpdates id)) (present-fault m fault)
