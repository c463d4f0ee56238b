use Rattle.std.proofs.Common.{◌∙◌}
use Rattle.mail_address.proofs.TokenLemmas.{position_or_length, tokens-atom}
use Rattle.mail_address.specs.Tokens.{ends_atom}
use Rattle.mail_address.proofs.token.atom.Goals as goal

pub returns-clause-tokens : goal.returns-clause-tokens
returns-clause-tokens c =
    let bytes = c.args.bytes.now in
    let end = rw c.atom_end.ensures.value at c.unwrap_or.ensures ∙ position_or_length ends_atom bytes in
    rw (c.split_at.ensures.front, c.split_at.ensures.back, end) (tokens-atom bytes c.requires.some c.requires.first)
