use Rattle.std.proofs.Common.{sym, ◌∙◌, arith}
use Rattle.std.proofs.lemmas.Result.{on_ok_weaker}
use Rattle.tail_journal.proofs.Waiting.{after_head, has_room}
use Rattle.tail_journal.proofs.pending.append_after_head.Goals as goal

pub returns-then-not-is_empty-clause-changes : goal.returns-then-not-is_empty-clause-changes
returns-then-not-is_empty-clause-changes c =
    let old = c.args.group.now.items in
    let room = has_room old c.args.group.now.len (omega (arith, c.args.group.now.ok)) c.requires (sym c.is_empty.ensures ∙ c.if-not-is_empty.true) in
    on_ok_weaker c.append_change.result (after_head old c.append_change.new.out.items _ room) c.append_change.ensures
