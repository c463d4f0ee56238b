use Rattle.std.proofs.Common.{subst}
use Rattle.memchr.specs.Find.{IsFirstByte, is_byte}
use Rattle.transfer_code.proofs.SymbolRuns.{padding-found, padding-missing}
use Rattle.transfer_code.proofs.sextets.before_padding.Goals as goal

pub returns-in-Some : goal.returns-in-Some
returns-in-Some c = padding-found c.args.bytes.now c.in-Some.at (subst (IsFirstByte (is_byte 61) c.args.bytes.now) c.in-Some.is c.memchr.ensures)

pub returns-in-None : goal.returns-in-None
returns-in-None c = padding-missing c.args.bytes.now (subst (IsFirstByte (is_byte 61) c.args.bytes.now) c.in-None.is c.memchr.ensures)
