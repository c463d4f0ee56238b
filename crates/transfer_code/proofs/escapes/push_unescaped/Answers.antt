use Rattle.std.proofs.Common.{sym}
use Rattle.std.proofs.lemmas.List.{take_rest}
use Rattle.transfer_code.proofs.EscapeLemmas.{after_escape, after_other}
use Rattle.transfer_code.proofs.escapes.push_unescaped.Goals as goal

pub loop-i-preserved-in-Some : goal.loop-i-preserved-in-Some
loop-i-preserved-in-Some c =
    let found = sym c.in-Some.ensures in
    rw c.in_ok-push.ensures.items
    (after_escape c.loop-i.i c.in-Some.byte c.loop-i.out.items c.args.bytes.now _ (rw take_rest at found) c.loop-i.invariant)

pub loop-i-preserved : goal.loop-i-preserved
loop-i-preserved c =
    let none = sym c.in_default.ensures in
    rw c.in_ok-push-2.ensures.items
    (after_other c.loop-i.i c.loop-i.out.items c.args.bytes.now _ c.loop-i-test.true (rw take_rest at none) c.loop-i.invariant)
