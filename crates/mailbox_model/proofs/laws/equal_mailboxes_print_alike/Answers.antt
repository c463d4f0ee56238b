use Rattle.mailbox_model.proofs.AnswerLaws.{same_answer}
use Rattle.mailbox_model.proofs.laws.equal_mailboxes_print_alike.Goals as goal

pub returns : goal.returns
returns c = same_answer
