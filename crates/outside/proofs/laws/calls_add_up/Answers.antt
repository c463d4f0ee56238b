use Rattle.std.proofs.Common.{sym, subst}
use Rattle.outside.specs.Crash.{Torn, PartlyCut}
use Rattle.outside.specs.Unsynced.{Leaves}
use Rattle.outside.proofs.Model.{changed_at, other_at}
use Rattle.outside.proofs.laws.calls_add_up.Goals as goal

pub returns-clause-write : goal.returns-clause-write
returns-clause-write g c place at n synced calls follows old x left =
    let before = follows x left in
    (_, old before.0 before.1, changed_at place (Torn at n) before.0 x before.2)

pub returns-clause-cut : goal.returns-clause-cut
returns-clause-cut g c place n synced calls follows old x left =
    let before = follows x left in
    (_, old before.0 before.1, changed_at place (PartlyCut n) before.0 x before.2)

pub returns-clause-other : goal.returns-clause-other
returns-clause-other g c place called synced calls other follows old x left =
    let before = follows x left in
    subst (Leaves synced calls) (sym (other_at called place before.0 x other before.2)) (old before.0 before.1)
