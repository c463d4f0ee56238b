use Rattle.transfer_code.proofs.EscapeLemmas.{decodes_to, decodes_alone}
use Rattle.transfer_code.proofs.escapes.unescaped.Goals as goal

pub returns-clause-decodes : goal.returns-clause-decodes
returns-clause-decodes c = rw (c.in_ok-push_unescaped.ensures, c.new-out.ensures.items) (decodes_to c.args.bytes.now)

pub returns-clause-alone : goal.returns-clause-alone
returns-clause-alone c other decodes =
    rw (c.in_ok-push_unescaped.ensures, c.new-out.ensures.items) (decodes_alone c.args.bytes.now other decodes)
