use Rattle.std.proofs.Common.{sym, ◌∙◌}
use Rattle.mail_headers.proofs.Angles.{without_white-none}
use Rattle.mail_headers.proofs.id.push_angle.Goals as goal

pub returns-else-has_white : goal.returns-else-has_white
returns-else-has_white c = rw (without_white-none c.args.inside.now (sym c.has_white.ensures ∙ c.if-has_white.false)) c.push_id-else-has_white.ensures
