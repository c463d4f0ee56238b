use Rattle.mail_headers.proofs.Angles.{no_open, first_angle}
use Rattle.mail_headers.proofs.id.first_angle.Goals as goal

pub returns-in_err-_outside : goal.returns-in_err-_outside
returns-in_err-_outside c = rw c.from_residual.ensures (no_open c.args.bytes.now c.in_err-_outside.ensures.parts)

pub returns : goal.returns
returns c =
    first_angle c.args.bytes.now c.in_ok-_outside._outside.now c.in_ok-_outside.opened.now c.split_once-2.result
    c.in_ok-_outside.ensures.parts c.split_once-2.ensures.parts c.split_once-2.ensures.shorter c.in_ok-_outside.ensures.shorter
