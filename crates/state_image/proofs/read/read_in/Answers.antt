use Rattle.state_image.proofs.ImageLaws.{read_is_image}
use Rattle.state_image.proofs.read.read_in.Goals as goal

pub returns-in-Ok-clause-spelled : goal.returns-in-Ok-clause-spelled
returns-in-Ok-clause-spelled c =
    read_is_image c.args.traced c.args.bytes.now c.in-Ok.read.0.mailbox c.in-Ok.read.1 c.read_body.new.rest (λ i. (c.type_inv.bytes i).fits)
    c.requires.named (rw c.rest_from-rest.ensures at c.in-Ok.ensures.body)

pub returns-in-Ok-clause-position : goal.returns-in-Ok-clause-position
returns-in-Ok-clause-position c =
    (read_is_image c.args.traced c.args.bytes.now c.in-Ok.read.0.mailbox c.in-Ok.read.1 c.read_body.new.rest (λ i. (c.type_inv.bytes i).fits)
    c.requires.named (rw c.rest_from-rest.ensures at c.in-Ok.ensures.body)).fits.is
