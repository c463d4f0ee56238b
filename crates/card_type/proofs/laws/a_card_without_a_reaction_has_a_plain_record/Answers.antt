use Rattle.std.proofs.Common.{length, ap}
use Rattle.card_type.proofs.Plain.{plain}
use Rattle.card_type.proofs.laws.a_card_without_a_reaction_has_a_plain_record.Goals as goal

pub returns-clause-record : goal.returns-clause-record
returns-clause-record c = plain

pub returns-clause-weight : goal.returns-clause-weight
returns-clause-weight c = λ card none. ap length (plain card none)
