use Rattle.std.proofs.Common.{map}
use Rattle.checkpoint.specs.Kept.{seen_kept}
use Rattle.tail_journal.specs.Read.{applied_of}
use Rattle.state_store.specs.States.{state_of}
use Rattle.state_store.specs.Stands.{begins}
use Rattle.state_store.proofs.Making.{comes_by}
use Rattle.state_store.proofs.restoring.restore.Goals as goal

pub returns-clause-comes : goal.returns-clause-comes
returns-clause-comes c =
    comes_by (begins c.args.me.now (seen_kept c.args.kept)) (state_of (c.in_ok-mailbox.mailbox, c.in_ok-mailbox.position)) (state_of (c.make_groups.new.mailbox, c.make_groups.new.position)) (map applied_of c.args.groups.items)
    c.in_ok-mailbox.ensures.state c.keeps_rules.ensures c.requires.fit c.in_ok-make_groups.ensures.makes
