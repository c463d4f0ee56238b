use Rattle.card_record.proofs.CardLaws.{card_again, card_taken, card_once}
use Rattle.card_record.proofs.laws.each_card_has_one_record.Goals as goal

pub returns-clause-read : goal.returns-clause-read
returns-clause-read c = card_again

pub returns-clause-spelled : goal.returns-clause-spelled
returns-clause-spelled c = card_taken

pub returns-clause-once : goal.returns-clause-once
returns-clause-once c = card_once
