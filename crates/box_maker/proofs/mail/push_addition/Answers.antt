use Rattle.std.proofs.Common.{append_assoc}
use Rattle.box_maker.specs.Mails.{added_line}
use Rattle.box_maker.proofs.mail.push_addition.Goals as goal

pub returns : goal.returns
unfolding added_line
returns c = rw (c.in_ok-write.ensures.bytes, c.in_ok-push_group.ensures) (simp append_assoc)
