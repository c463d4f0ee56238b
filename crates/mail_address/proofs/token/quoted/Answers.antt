use Rattle.mail_address.proofs.TokenLemmas.{tokens-quoted}
use Rattle.mail_address.proofs.token.quoted.Goals as goal

pub returns-clause-tokens : goal.returns-clause-tokens
returns-clause-tokens c =
    rw (c.without_first.ensures.value, c.split_at.ensures.front, c.split_at.ensures.back, c.quoted_len.ensures.value) (tokens-quoted c.args.after.now)
