use Rattle.std.proofs.lemmas.Option.{IfSome_then}
use Rattle.repair.proofs.Sets.{id_gone}
use Rattle.repair.proofs.turned.next_of.Goals as goal

pub returns-clause-once : goal.returns-clause-once
returns-clause-once c =
    id_gone c.args.ids.now.keys c.pop_first.new.self.keys c.pop_first.result (IfSome_then c.pop_first.result c.pop_first.ensures.updates (λ id updates. updates.0))
