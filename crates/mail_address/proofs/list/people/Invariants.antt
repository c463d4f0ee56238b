use Rattle.std.proofs.Common.{◌≡◌, ◌++◌, length}
use Rattle.mail_address.specs.People.{people}
use Rattle.mail_address.specs.Tokens.{tokens}
use Rattle.mail_address.specs.Views.{state}
use Rattle.mail_address.proofs.Rest.{left}
use Rattle.mail_address.proofs.list.people.Given as goal

-- those found, and those that the element so far and the rest name, are all
abbrev pub invariant-loop-token : goal.invariant-loop-token
invariant-loop-token l = l.found.items ++ left (state l.element) (tokens l.left) ≡ people l.body

abbrev pub decreases-loop-token : goal.decreases-loop-token
decreases-loop-token l = length l.left
