use Rattle.mailbox_model.proofs.RuleLaws.{entry_again}
use Rattle.mailbox_model.proofs.laws.items_and_cards_make_entries.Goals as goal

pub returns : goal.returns
returns c = entry_again
