use Rattle.outside.specs.Places.{Changes}
use Rattle.outside.specs.Crash.{PartlyCut}
use Rattle.outside.proofs.Moments.{one_call, call_and_sync, nothing_changed, cut_same}
use Rattle.outside.proofs.calls.cut_and_sync.Goals as goal

pub returns-in_err-cut-clause-any_moment : goal.returns-in_err-cut-clause-any_moment
returns-in_err-cut-clause-any_moment g c =
    let H = g.H.Shelf in
    let old = c.args.shelf.now in
    let change = Changes c.args.place (PartlyCut c.args.size) in
    one_call H.moment H.left_since old c.cut.new.self change (H.may_leave old) (H.may_leave c.cut.new.self) (g.met.H.Shelf.only_now old) (λ x. nothing_changed c.args.place (PartlyCut c.args.size) x (cut_same c.args.size))
    c.cut.ensures.clock c.cut.ensures.crash

pub returns-in_err-sync-clause-any_moment : goal.returns-in_err-sync-clause-any_moment
returns-in_err-sync-clause-any_moment g c =
    let H = g.H.Shelf in
    let old = c.args.shelf.now in
    let change = Changes c.args.place (PartlyCut c.args.size) in
    call_and_sync H.moment H.left_since old c.cut.new.self c.sync.new.self change (H.may_leave old) (H.may_leave c.cut.new.self) (H.may_leave c.sync.new.self) (g.met.H.Shelf.only_now old) (λ x. nothing_changed c.args.place (PartlyCut c.args.size) x (cut_same c.args.size))
    c.cut.ensures.clock c.cut.ensures.crash c.sync.ensures.clock c.sync.ensures.crash

pub returns-clause-any_moment : goal.returns-clause-any_moment
returns-clause-any_moment g c =
    let H = g.H.Shelf in
    let old = c.args.shelf.now in
    let change = Changes c.args.place (PartlyCut c.args.size) in
    call_and_sync H.moment H.left_since old c.cut.new.self c.sync.new.self change (H.may_leave old) (H.may_leave c.cut.new.self) (H.may_leave c.sync.new.self) (g.met.H.Shelf.only_now old) (λ x. nothing_changed c.args.place (PartlyCut c.args.size) x (cut_same c.args.size))
    c.cut.ensures.clock c.cut.ensures.crash c.sync.ensures.clock c.sync.ensures.crash
