use Rattle.std.proofs.Common.{◌≡◌, ◌++◌, sym, ap, subst, ◌∙◌, length, append-nil}
use Rattle.std.specs.Prelude.{All}
use Rattle.kit.specs.Lines.{IsLineWithin, lines, placed}
use Rattle.kit.proofs.LineLemmas.{lines_within}
use Rattle.kit.proofs.line.lines.Goals as goal

pub returns-clause-within : goal.returns-clause-within
returns-clause-within c =
    let bytes = c.args.bytes.now in
    let found = c.loop-raw.found.items in
    let all : found ≡ lines bytes = sym (append-nil found) ∙ sym (ap (λ ls. found ++ placed c.loop-raw.start ls) c.in_default.ensures.lines) ∙ c.loop-raw.invariant.so_far in
    subst (All (IsLineWithin (length bytes))) (sym all) (lines_within bytes)
