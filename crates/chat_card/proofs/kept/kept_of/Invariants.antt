use Rattle.std.proofs.Common.{◌≡◌, ◌++◌, drop, map}
use Rattle.std.specs.Prelude.{reverse}
use Rattle.chat_card.specs.declared.way.Way.TheVariants.{Together}
use Rattle.chat_card.specs.Shown.{forest}
use Rattle.chat_card.specs.Views.{kept}
use Rattle.chat_card.specs.Walks.{kept_by}
use Rattle.chat_card.proofs.KeptLemmas.{spread}
use Rattle.chat_card.proofs.kept.kept_of.Given as goal

abbrev pub invariant-loop-i : goal.invariant-loop-i
invariant-loop-i l = map kept l.found.items ++ spread (reverse l.parents.items) (forest (drop l.i l.parts)) ≡ kept_by Together (forest l.parts)
