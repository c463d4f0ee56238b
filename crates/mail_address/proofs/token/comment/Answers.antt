use Rattle.std.proofs.lemmas.List.{take_rest}
use Rattle.mail_address.proofs.TokenLemmas.{skipped}
use Rattle.mail_address.proofs.token.comment.Goals as goal

pub returns-clause-tokens : goal.returns-clause-tokens
returns-clause-tokens c = rw (take_rest, c.comment_len.ensures.value) (skipped _ c.args.after.now)
