use Rattle.std.proofs.Common.{refl}
use Rattle.thread_links.proofs.MailLaws.{cites_absent, cites_added, cites_removed, cites_there}
use Rattle.thread_links.proofs.laws.cites_follow_from_mails.Goals as goal

pub returns-clause-present : goal.returns-clause-present
returns-clause-present c = λ m. refl

pub returns-clause-add : goal.returns-clause-add
returns-clause-add c = cites_added

pub returns-clause-absent : goal.returns-clause-absent
returns-clause-absent c = cites_absent

pub returns-clause-remove : goal.returns-clause-remove
returns-clause-remove c = cites_removed

pub returns-clause-there : goal.returns-clause-there
returns-clause-there c = cites_there
