use Rattle.std.proofs.Common.{sym, ◌∙◌}
use Rattle.mail_headers.proofs.Names.{name_and_rest-continued}
use Rattle.mail_headers.proofs.field.name_and_rest.Goals as goal

pub returns-then-continues : goal.returns-then-continues
returns-then-continues c = sym (name_and_rest-continued c.args.line.now (sym c.continues.ensures ∙ c.if-continues.true))
