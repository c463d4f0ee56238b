use Rattle.std.proofs.Common.{rules}
use Rattle.steps_file.proofs.Passed.{keeps}
use Rattle.steps_file.proofs.line_start.LineStart.keep.Goals as goal

pub returns : goal.returns
returns c = keeps c.self.inside.len c.min-count.result _ c.self.inside.bytes c.copy_from_slice.new.self c.args.chunk.now c.args.self.now (search rules) c.self.invariant (search rules) (search rules) c.self.view_is
