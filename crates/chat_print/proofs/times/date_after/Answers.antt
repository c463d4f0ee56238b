use Rattle.std.proofs.Common.{arith, w64}
use Rattle.std.proofs.lemmas.Int.{to_z_pos}
use Rattle.mailbox_model.proofs.CivilLaws.{civil_date_is}
use Rattle.chat_print.proofs.times.date_after.Goals as goal

pub returns-clause-parts : goal.returns-clause-parts
returns-clause-parts c =
    let day = rw c.unwrap.ensures at c.from_unix_epoch_day.ensures.value in
    civil_date_is c.unwrap.result c.args.days (rw (to_z_pos w64 c.args.days (omega arith)) at day)
