use Rattle.std.proofs.Common.{◌+◌, ◌<◌, length, arith}
use Rattle.std.proofs.lemmas.Grind.{common_steps}
use Rattle.mboxrd.proofs.Unchanged.{unchanged_line, unchanged_start, unchanged_rest}
use Rattle.mboxrd.proofs.step.unchanged.Goals as goal

pub returns-then-line_end-held-clause-steps : goal.returns-then-line_end-held-clause-steps
returns-then-line_end-held-clause-steps c =
    unchanged_line c.args.held.now c.loop-end.read c.memchr.result c.in-Some.end c.loop-end.invariant.steps c.memchr.ensures c.in-Some.is

pub loop-end-preserved : goal.loop-end-preserved
loop-end-preserved c =
    let line = unchanged_line c.args.held.now c.loop-end.read c.memchr.result c.in-Some.end c.loop-end.invariant.steps c.memchr.ensures c.in-Some.is in
    let lt : c.loop-end.read + c.in-Some.end + 1 < length c.args.held.now = grind (arith, common_steps, c.in-Some.ensures.0.high) in
    record {
      within = omega arith;
      steps = unchanged_start c.args.held.now (c.loop-end.read + c.in-Some.end + 1) line lt (c.begins_text.ensures c.if-not-begins_text.false);
    }

pub returns-clause-steps : goal.returns-clause-steps
returns-clause-steps c = unchanged_rest c.args.held.now c.loop-end.read c.memchr.result c.loop-end.invariant.steps c.memchr.ensures c.in_default.is
