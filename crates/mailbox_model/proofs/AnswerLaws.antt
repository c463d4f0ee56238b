-- One mailbox has one text.
use Rattle.std.proofs.Common.{◌≡◌, refl, ◌∙◌, ℕ}
use Rattle.mailbox_model.specs.Mailbox.{Mailbox}
use Rattle.mailbox_model.specs.Answers.{Question, answer}
use Rattle.mailbox_model.specs.Answers.Question.{AllChats, OneChat, AllContacts, AllUpdates, InfoUpdates}

-- the next uid does not matter
any_next : (m : Mailbox) (next : ℕ) (question : Question) → answer m question ≡ answer (record m { next_uid = next }) question
any_next m next AllChats = refl
any_next m next (OneChat key) = refl
any_next m next AllContacts = refl
any_next m next (AllUpdates id) = refl
any_next m next (InfoUpdates id) = refl

pub same_answer : (m n : Mailbox) → m.me ≡ n.me → m.now ≡ n.now → m.entries ≡ n.entries → (question : Question)
    → answer m question ≡ answer n question
same_answer m n me now entries question =
    any_next m n.next_uid question
    ∙ (λ i. answer (record { me = me i; now = now i; next_uid = n.next_uid; entries = entries i }) question)
