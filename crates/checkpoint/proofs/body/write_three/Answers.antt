use Rattle.std.proofs.Common.{◌≡◌, ◌≤◌, ◌++◌, length, sym, subst, arith}
use Rattle.outside.specs.Places.{content, Changes}
use Rattle.outside.specs.Crash.{Holds}
use Rattle.outside.specs.Moments.{Reached}
use Rattle.checkpoint.specs.Parts.{SameGate}
use Rattle.outside.proofs.Moments.{started, goes_on}
use Rattle.outside.proofs.Known.{to_some, from_known, known_on}
use Rattle.checkpoint.proofs.Writes.{same_gate, gate_kept, sizes, known_all}
use Rattle.checkpoint.proofs.body.write_three.Goals as goal

pub returns-in_err-write_at-clause-any_moment : goal.returns-in_err-write_at-clause-any_moment
returns-in_err-write_at-clause-any_moment g c =
    let first = g.H.Shelf.may_leave c.args.shelf.now in
    let P = Reached first (Changes c.args.place SameGate) in
    let L0 = started g.H.Shelf.moment g.H.Shelf.left_since c.args.shelf.now P (λ x left. (x, g.met.H.Shelf.only_now c.args.shelf.now x left, same_gate c.args.place x)) in
    let K1 = gate_kept c.args.place 1 (length c.args.number.now) first first (g.H.Shelf.may_leave c.write_at.new.self) (omega arith) (λ x left. (x, left, same_gate c.args.place x)) c.write_at.ensures.crash in
    let L1 = goes_on g.H.Shelf.moment g.H.Shelf.left_since c.args.shelf.now c.args.shelf.now c.write_at.new.self P (g.H.Shelf.may_leave c.write_at.new.self) L0 c.write_at.ensures.clock K1 in
    L1

pub returns-in_err-write_at-2-clause-any_moment : goal.returns-in_err-write_at-2-clause-any_moment
returns-in_err-write_at-2-clause-any_moment g c =
    let first = g.H.Shelf.may_leave c.args.shelf.now in
    let P = Reached first (Changes c.args.place SameGate) in
    let L0 = started g.H.Shelf.moment g.H.Shelf.left_since c.args.shelf.now P (λ x left. (x, g.met.H.Shelf.only_now c.args.shelf.now x left, same_gate c.args.place x)) in
    let K1 = gate_kept c.args.place 1 (length c.args.number.now) first first (g.H.Shelf.may_leave c.write_at.new.self) (omega arith) (λ x left. (x, left, same_gate c.args.place x)) c.write_at.ensures.crash in
    let L1 = goes_on g.H.Shelf.moment g.H.Shelf.left_since c.args.shelf.now c.args.shelf.now c.write_at.new.self P (g.H.Shelf.may_leave c.write_at.new.self) L0 c.write_at.ensures.clock K1 in
    let K2 = gate_kept c.args.place 9 (length c.args.len.now) first (g.H.Shelf.may_leave c.write_at.new.self) (g.H.Shelf.may_leave c.write_at-2.new.self) (omega arith) K1 c.write_at-2.ensures.crash in
    let L2 = goes_on g.H.Shelf.moment g.H.Shelf.left_since c.args.shelf.now c.write_at.new.self c.write_at-2.new.self P (g.H.Shelf.may_leave c.write_at-2.new.self) L1 c.write_at-2.ensures.clock K2 in
    L2

pub returns-in_err-write_at-3-clause-any_moment : goal.returns-in_err-write_at-3-clause-any_moment
returns-in_err-write_at-3-clause-any_moment g c =
    let first = g.H.Shelf.may_leave c.args.shelf.now in
    let P = Reached first (Changes c.args.place SameGate) in
    let L0 = started g.H.Shelf.moment g.H.Shelf.left_since c.args.shelf.now P (λ x left. (x, g.met.H.Shelf.only_now c.args.shelf.now x left, same_gate c.args.place x)) in
    let K1 = gate_kept c.args.place 1 (length c.args.number.now) first first (g.H.Shelf.may_leave c.write_at.new.self) (omega arith) (λ x left. (x, left, same_gate c.args.place x)) c.write_at.ensures.crash in
    let L1 = goes_on g.H.Shelf.moment g.H.Shelf.left_since c.args.shelf.now c.args.shelf.now c.write_at.new.self P (g.H.Shelf.may_leave c.write_at.new.self) L0 c.write_at.ensures.clock K1 in
    let K2 = gate_kept c.args.place 9 (length c.args.len.now) first (g.H.Shelf.may_leave c.write_at.new.self) (g.H.Shelf.may_leave c.write_at-2.new.self) (omega arith) K1 c.write_at-2.ensures.crash in
    let L2 = goes_on g.H.Shelf.moment g.H.Shelf.left_since c.args.shelf.now c.write_at.new.self c.write_at-2.new.self P (g.H.Shelf.may_leave c.write_at-2.new.self) L1 c.write_at-2.ensures.clock K2 in
    let K3 = gate_kept c.args.place 17 (length c.args.image.now) first (g.H.Shelf.may_leave c.write_at-2.new.self) (g.H.Shelf.may_leave c.write_at-3.new.self) (omega arith) K2 c.write_at-3.ensures.crash in
    let L3 = goes_on g.H.Shelf.moment g.H.Shelf.left_since c.args.shelf.now c.write_at-2.new.self c.write_at-3.new.self P (g.H.Shelf.may_leave c.write_at-3.new.self) L2 c.write_at-3.ensures.clock K3 in
    L3

pub returns-in_err-sync-clause-any_moment : goal.returns-in_err-sync-clause-any_moment
returns-in_err-sync-clause-any_moment g c =
    let first = g.H.Shelf.may_leave c.args.shelf.now in
    let P = Reached first (Changes c.args.place SameGate) in
    let L0 = started g.H.Shelf.moment g.H.Shelf.left_since c.args.shelf.now P (λ x left. (x, g.met.H.Shelf.only_now c.args.shelf.now x left, same_gate c.args.place x)) in
    let K1 = gate_kept c.args.place 1 (length c.args.number.now) first first (g.H.Shelf.may_leave c.write_at.new.self) (omega arith) (λ x left. (x, left, same_gate c.args.place x)) c.write_at.ensures.crash in
    let L1 = goes_on g.H.Shelf.moment g.H.Shelf.left_since c.args.shelf.now c.args.shelf.now c.write_at.new.self P (g.H.Shelf.may_leave c.write_at.new.self) L0 c.write_at.ensures.clock K1 in
    let K2 = gate_kept c.args.place 9 (length c.args.len.now) first (g.H.Shelf.may_leave c.write_at.new.self) (g.H.Shelf.may_leave c.write_at-2.new.self) (omega arith) K1 c.write_at-2.ensures.crash in
    let L2 = goes_on g.H.Shelf.moment g.H.Shelf.left_since c.args.shelf.now c.write_at.new.self c.write_at-2.new.self P (g.H.Shelf.may_leave c.write_at-2.new.self) L1 c.write_at-2.ensures.clock K2 in
    let K3 = gate_kept c.args.place 17 (length c.args.image.now) first (g.H.Shelf.may_leave c.write_at-2.new.self) (g.H.Shelf.may_leave c.write_at-3.new.self) (omega arith) K2 c.write_at-3.ensures.crash in
    let L3 = goes_on g.H.Shelf.moment g.H.Shelf.left_since c.args.shelf.now c.write_at-2.new.self c.write_at-3.new.self P (g.H.Shelf.may_leave c.write_at-3.new.self) L2 c.write_at-3.ensures.clock K3 in
    goes_on g.H.Shelf.moment g.H.Shelf.left_since c.args.shelf.now c.write_at-3.new.self c.sync.new.self P (g.H.Shelf.may_leave c.sync.new.self) L3 c.sync.ensures.clock (λ x left. K3 x (c.sync.ensures.crash x left))

pub returns-clause-any_moment : goal.returns-clause-any_moment
returns-clause-any_moment g c =
    let first = g.H.Shelf.may_leave c.args.shelf.now in
    let P = Reached first (Changes c.args.place SameGate) in
    let L0 = started g.H.Shelf.moment g.H.Shelf.left_since c.args.shelf.now P (λ x left. (x, g.met.H.Shelf.only_now c.args.shelf.now x left, same_gate c.args.place x)) in
    let K1 = gate_kept c.args.place 1 (length c.args.number.now) first first (g.H.Shelf.may_leave c.write_at.new.self) (omega arith) (λ x left. (x, left, same_gate c.args.place x)) c.write_at.ensures.crash in
    let L1 = goes_on g.H.Shelf.moment g.H.Shelf.left_since c.args.shelf.now c.args.shelf.now c.write_at.new.self P (g.H.Shelf.may_leave c.write_at.new.self) L0 c.write_at.ensures.clock K1 in
    let K2 = gate_kept c.args.place 9 (length c.args.len.now) first (g.H.Shelf.may_leave c.write_at.new.self) (g.H.Shelf.may_leave c.write_at-2.new.self) (omega arith) K1 c.write_at-2.ensures.crash in
    let L2 = goes_on g.H.Shelf.moment g.H.Shelf.left_since c.args.shelf.now c.write_at.new.self c.write_at-2.new.self P (g.H.Shelf.may_leave c.write_at-2.new.self) L1 c.write_at-2.ensures.clock K2 in
    let K3 = gate_kept c.args.place 17 (length c.args.image.now) first (g.H.Shelf.may_leave c.write_at-2.new.self) (g.H.Shelf.may_leave c.write_at-3.new.self) (omega arith) K2 c.write_at-3.ensures.crash in
    let L3 = goes_on g.H.Shelf.moment g.H.Shelf.left_since c.args.shelf.now c.write_at-2.new.self c.write_at-3.new.self P (g.H.Shelf.may_leave c.write_at-3.new.self) L2 c.write_at-3.ensures.clock K3 in
    goes_on g.H.Shelf.moment g.H.Shelf.left_since c.args.shelf.now c.write_at-3.new.self c.sync.new.self P (g.H.Shelf.may_leave c.sync.new.self) L3 c.sync.ensures.clock (λ x left. K3 x (c.sync.ensures.crash x left))

pub write_at-requires : goal.write_at-requires
write_at-requires g c = to_some (g.H.Shelf.seen c.args.shelf.now) (λ s. 1 ≤ length (content s c.args.place)) c.requires.gate

pub write_at-requires-2 : goal.write_at-requires-2
write_at-requires-2 g c =
    let seen = g.H.Shelf.seen in
    let number = c.args.number.now in
    let first = from_known (seen c.args.shelf.now) (seen c.write_at.new.self) (Changes c.args.place (Holds 1 number)) c.in_ok-write_at.ensures.holds in
    to_some (seen c.write_at.new.self) (λ s. 9 ≤ length (content s c.args.place)) (λ s is. let b = first.back s is in let n = c.requires.number_len in let h = sizes c.args.place number number number c.requires.number_len c.requires.number_len 1 number b.places s (c.requires.gate b.places b.is) b.holds in omega (arith, h, n))

pub write_at-requires-3 : goal.write_at-requires-3
write_at-requires-3 g c =
    let seen = g.H.Shelf.seen in
    let number = c.args.number.now in
    let size = c.args.len.now in
    let first = from_known (seen c.args.shelf.now) (seen c.write_at.new.self) (Changes c.args.place (Holds 1 number)) c.in_ok-write_at.ensures.holds in
    let second = from_known (seen c.write_at.new.self) (seen c.write_at-2.new.self) (Changes c.args.place (Holds 9 size)) c.in_ok-write_at-2.ensures.holds in
    to_some (seen c.write_at-2.new.self) (λ s. 17 ≤ length (content s c.args.place)) (λ s is.
    let b = second.back s is in
    let a = first.back b.places b.is in
    let grow = sizes c.args.place number number number c.requires.number_len c.requires.number_len in
    let n = c.requires.number_len in
    let k = c.requires.len_len in
    let nine : 9 ≤ length (content b.places c.args.place) = omega (arith, grow 1 number a.places b.places (c.requires.gate a.places a.is) a.holds, n) in
    omega (arith, grow 9 size b.places s nine b.holds, k))

pub returns-clause-holds : goal.returns-clause-holds
returns-clause-holds g c =
    let seen = g.H.Shelf.seen in
    let number = c.args.number.now in
    let size = c.args.len.now in
    let place = c.args.place in
    let whole = Changes place (Holds 1 (number ++ size ++ c.args.image.now)) in
    let first = from_known (seen c.args.shelf.now) (seen c.write_at.new.self) (Changes place (Holds 1 number)) c.in_ok-write_at.ensures.holds in
    let second = from_known (seen c.write_at.new.self) (seen c.write_at-2.new.self) (Changes place (Holds 9 size)) c.in_ok-write_at-2.ensures.holds in
    let third = from_known (seen c.write_at-2.new.self) (seen c.write_at-3.new.self) (Changes place (Holds 17 c.args.image.now)) c.in_ok-write_at-3.ensures.holds in
    let fourth = from_known (seen c.write_at-3.new.self) (seen c.sync.new.self) (λ old new. new ≡ old) c.in_ok-sync.ensures.reads in
    known_on (seen c.args.shelf.now) (seen c.write_at-3.new.self) (seen c.sync.new.self) whole (λ old new. new ≡ old) whole
    (λ x y z is p q. subst (whole x) (sym q) p)
    (known_all place number size c.args.image.now c.requires.number_len c.requires.len_len (seen c.args.shelf.now) (seen c.write_at.new.self) (seen c.write_at-2.new.self) (seen c.write_at-3.new.self) c.requires.gate first second third)
    fourth
