use Rattle.outside.specs.contracts.quiet_source.QuietSourceSource.TheImpl.{ghosts}
use Rattle.trial.proofs.AheadLaws.{next_arrives, no_answer}
use Rattle.trial.proofs.box_mails.BoxMails.next_arrival.Goals as goal
use Rattle.trial.proofs.box_mails.BoxMails.next_arrival.Goals.{in-Ok, in-Err-Memory}

pub returns-clause-next : goal.returns-clause-next
returns-clause-next c = elim c.match-next.branch [
  | in-Ok w ↦ next_arrives c.args.self.now (ghosts.left c.self.inside.source) (ghosts.left c.next.new.source) c.self.inside.reader c.next.new.self c.args.uid w.in-Ok.taken
      c.match-next.result w.arrival_of.result c.self.view_is c.self.invariant w.result-is w.arrival_of.ensures.change w.in-Ok.ensures.answer
  | in-Err-Memory w ↦ no_answer c.match-next.result _ _ w.result-is
]
