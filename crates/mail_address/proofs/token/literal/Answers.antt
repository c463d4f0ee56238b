use Rattle.std.proofs.Common.{sym, ◌∙◌}
use Rattle.mail_address.proofs.TokenLemmas.{literal_closed, literal_open}
use Rattle.mail_address.proofs.token.literal.Goals as goal
use Rattle.mail_address.proofs.token.literal.Goals.{in-Some, in-None}

pub returns-clause-tokens : goal.returns-clause-tokens
returns-clause-tokens c =
    let bytes = c.args.bytes.now in
    rw (c.split_at.ensures.front, c.split_at.ensures.back) (elim c.match-bracket_offset.branch [
      | in-Some w ↦ rw w.end-is (literal_closed bytes w.in-Some.at c.requires (sym w.in-Some.is ∙ c.bracket_offset.ensures.value))
      | in-None w ↦ rw w.end-is (literal_open bytes c.requires (sym w.in-None.is ∙ c.bracket_offset.ensures.value))
    ])
