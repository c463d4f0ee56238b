use Rattle.state_image.proofs.ChangeLaws.{change_answer}
use Rattle.state_image.proofs.change.read_change.Goals as goal

pub returns-in-Ok-clause-valid : goal.returns-in-Ok-clause-valid
returns-in-Ok-clause-valid c =
    (change_answer c.args.bytes.now c.args.at c.in-Ok.change c.take_change.new.rest (λ i. (c.type_inv.bytes i).fits) c.requires (rw c.rest_from-rest.ensures at c.in-Ok.ensures)).0

pub returns-in-Ok-clause-spelled : goal.returns-in-Ok-clause-spelled
returns-in-Ok-clause-spelled c =
    rw (c.saturating_sub.ensures, c.len.ensures.value)
    (change_answer c.args.bytes.now c.args.at c.in-Ok.change c.take_change.new.rest (λ i. (c.type_inv.bytes i).fits) c.requires (rw c.rest_from-rest.ensures at c.in-Ok.ensures)).1
