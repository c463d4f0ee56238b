use Rattle.std.proofs.Common.{append_assoc}
use Rattle.box_maker.specs.Mails.{chat_line, group_lines}
use Rattle.box_maker.proofs.mail.push_group.Goals as goal

pub returns : goal.returns
unfolding group_lines chat_line
returns c = rw (c.in_ok-write.ensures.bytes, c.in_ok-push_str.ensures.bytes) (simp append_assoc)
