use Rattle.std.proofs.Common.{ap, ◌∙◌}
use Rattle.std.specs.Str.{bytes_eq}
use Rattle.indexmap.specs.IndexSet.{insert_key}
use Rattle.group_roster.proofs.Once.{once_more}
use Rattle.group_roster.proofs.said.say.Goals as goal

pub returns : goal.returns
returns c before is =
    c.in_ok-insert.ensures.keys ∙ ap (insert_key bytes_eq c.args.said.now.keys) c.in_ok-copy.ensures
    ∙ ap (λ ks. insert_key bytes_eq ks c.args.addr.now) is ∙ once_more before c.args.addr.now
