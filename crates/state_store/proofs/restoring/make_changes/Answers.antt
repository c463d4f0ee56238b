use Rattle.std.proofs.Common.{suc, length, drop, sym, ◌∙◌, map-id}
use Rattle.std.proofs.Common.{rules}
use Rattle.std.proofs.lemmas.Iterator.Adapters.{YieldsList-from_vec}
use Rattle.std.proofs.lemmas.Iterator.Consumers.{YieldsList-so_far, YieldsList-turn}
use Rattle.std.proofs.lemmas.Result.{err_from_is_err_and}
use Rattle.state_store.proofs.Making.{made_next, made_no_more, next_of}
use Rattle.state_store.proofs.restoring.make_changes.Goals as goal

pub loop-at-preserved : goal.loop-at-preserved
loop-at-preserved c =
    made_next c.args.mailbox.now.mailbox c.loop-at.mailbox.mailbox c.args.changes.items c.loop-at.yielded (c.in-Some.at, c.in-Some.change) c.loop-at.invariant
    c.make_change.new.mailbox.mailbox c.in_ok-make_change.ensures.makes

pub returns-in_err-make_change-clause-makes : goal.returns-in_err-make_change-clause-makes
returns-in_err-make_change-clause-makes c =
    let p = err_from_is_err_and c.from_residual.result c.from_residual.ensures.1 in
    let all = c.args.changes.items in
    let taken = c.loop-at.yielded in
    let road = YieldsList-from_vec {s = c.into_iter-at-iterator.result} all (search rules) (search rules) in
    let so_far = YieldsList-so_far road taken c.loop-at.at-iterator c.loop-at.yielded_by in
    let turn = YieldsList-turn road taken c.loop-at.at-iterator c.loop-at.yielded_by c.next.result c.next.new.self (c.in-Some.at, c.in-Some.change) c.in-Some.is c.next.ensures.steps in
    let is = next_of all taken (c.in-Some.at, c.in-Some.change) (sym (map-id taken) ∙ so_far) turn.0 turn.1 in
    rw (p.1, p.2) (made_no_more c.args.mailbox.now.mailbox c.loop-at.mailbox.mailbox all taken (c.in-Some.at, c.in-Some.change) c.loop-at.invariant
    (drop (suc (length taken)) all) is c.in_err-make_change.field-0.0 c.in_err-make_change.ensures.makes)
