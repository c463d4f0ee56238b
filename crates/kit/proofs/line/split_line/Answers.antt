use Rattle.std.proofs.Common.{subst, arith, length}
use Rattle.std.proofs.lemmas.List.{drop_all, take_all}
use Rattle.memchr.specs.Find.{IsFirstByte, is_byte}
use Rattle.kit.proofs.RawLines.{lf_found, lf_missing, raw_lines-ended, raw_lines-whole}
use Rattle.kit.proofs.line.split_line.Goals as goal

pub returns-in-Some-clause-lines : goal.returns-in-Some-clause-lines
returns-in-Some-clause-lines c =
    let bytes = c.args.bytes.now in
    let found = subst (IsFirstByte (is_byte 10) bytes) c.in-Some.is c.memchr.ensures in
    rw (c.split_at.ensures.front, c.split_at.ensures.back) (raw_lines-ended bytes c.in-Some.at (lf_found bytes c.in-Some.at found) found.0.high)

pub returns-in-None-clause-lines : goal.returns-in-None-clause-lines
returns-in-None-clause-lines c =
    let bytes = c.args.bytes.now in
    let missing = lf_missing bytes (subst (IsFirstByte (is_byte 10) bytes) c.in-None.is c.memchr.ensures) in
    rw (c.split_at-in-None.ensures.front, c.split_at-in-None.ensures.back, take_all (length bytes) bytes (omega arith), drop_all (length bytes) bytes (omega arith))
    (raw_lines-whole bytes c.if-is_empty.ensures missing)
