use Rattle.std.proofs.Common.{length}
use Rattle.outside.specs.Places.{Changes}
use Rattle.outside.specs.Crash.{Torn}
use Rattle.outside.proofs.Moments.{one_call, call_and_sync, nothing_changed, torn_same}
use Rattle.outside.proofs.calls.write_and_sync.Goals as goal

pub returns-in_err-write_at-clause-any_moment : goal.returns-in_err-write_at-clause-any_moment
returns-in_err-write_at-clause-any_moment g c =
    let H = g.H.Shelf in
    let old = c.args.shelf.now in
    let change = Changes c.args.place (Torn c.args.at (length c.args.bytes.now)) in
    one_call H.moment H.left_since old c.write_at.new.self change (H.may_leave old) (H.may_leave c.write_at.new.self) (g.met.H.Shelf.only_now old) (λ x. nothing_changed c.args.place (Torn c.args.at (length c.args.bytes.now)) x (torn_same c.args.at (length c.args.bytes.now)))
    c.write_at.ensures.clock c.write_at.ensures.crash

pub returns-in_err-sync-clause-any_moment : goal.returns-in_err-sync-clause-any_moment
returns-in_err-sync-clause-any_moment g c =
    let H = g.H.Shelf in
    let old = c.args.shelf.now in
    let change = Changes c.args.place (Torn c.args.at (length c.args.bytes.now)) in
    call_and_sync H.moment H.left_since old c.write_at.new.self c.sync.new.self change (H.may_leave old) (H.may_leave c.write_at.new.self) (H.may_leave c.sync.new.self) (g.met.H.Shelf.only_now old) (λ x. nothing_changed c.args.place (Torn c.args.at (length c.args.bytes.now)) x (torn_same c.args.at (length c.args.bytes.now)))
    c.write_at.ensures.clock c.write_at.ensures.crash c.sync.ensures.clock c.sync.ensures.crash

pub returns-clause-any_moment : goal.returns-clause-any_moment
returns-clause-any_moment g c =
    let H = g.H.Shelf in
    let old = c.args.shelf.now in
    let change = Changes c.args.place (Torn c.args.at (length c.args.bytes.now)) in
    call_and_sync H.moment H.left_since old c.write_at.new.self c.sync.new.self change (H.may_leave old) (H.may_leave c.write_at.new.self) (H.may_leave c.sync.new.self) (g.met.H.Shelf.only_now old) (λ x. nothing_changed c.args.place (Torn c.args.at (length c.args.bytes.now)) x (torn_same c.args.at (length c.args.bytes.now)))
    c.write_at.ensures.clock c.write_at.ensures.crash c.sync.ensures.clock c.sync.ensures.crash
