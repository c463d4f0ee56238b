use Rattle.std.proofs.lemmas.Slice.Eq.{strip_prefix_is}
use Rattle.std.specs.Cmp.{unsigned_Decides}
use Rattle.kit.proofs.OptionCases.{some_from_match, none_from_match}
use Rattle.kit.proofs.cut.strip_prefix.Goals as goal

pub returns-clause-some : goal.returns-clause-some
returns-clause-some c =
    some_from_match c.strip_prefix.result _ _
    (strip_prefix_is unsigned_Decides c.args.bytes.now c.args.prefix.now c.strip_prefix.result c.strip_prefix.ensures.cases)

pub returns-clause-none : goal.returns-clause-none
returns-clause-none c =
    none_from_match c.strip_prefix.result _ _
    (strip_prefix_is unsigned_Decides c.args.bytes.now c.args.prefix.now c.strip_prefix.result c.strip_prefix.ensures.cases)
