use Rattle.mailbox_model.proofs.RuleLaws.{empty_keeps, change_keeps, changes_keep}
use Rattle.mailbox_model.proofs.laws.changes_keep_the_rules.Goals as goal

pub returns-clause-empty : goal.returns-clause-empty
returns-clause-empty c = empty_keeps

pub returns-clause-after : goal.returns-clause-after
returns-clause-after c = change_keeps

pub returns-clause-all : goal.returns-clause-all
returns-clause-all c = changes_keep
