use Rattle.mailbox_model.proofs.CivilLaws.{civil_date_is}
use Rattle.mailbox_model.proofs.laws.a_day_has_one_date.Goals as goal

pub returns : goal.returns
returns c = civil_date_is
