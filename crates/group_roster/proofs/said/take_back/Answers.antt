use Rattle.std.proofs.Common.{sym, ap, ◌∙◌}
use Rattle.std.specs.Option.{option_map_or}
use Rattle.mailbox_model.specs.Lists.{without}
use Rattle.group_roster.proofs.Once.{said_without}
use Rattle.group_roster.proofs.said.take_back.Goals as goal

pub returns-in-Some : goal.returns-in-Some
returns-in-Some c before is =
    let all = c.args.said.now.keys in
    c.shift_remove.ensures.keys ∙ said_without c.in-Some.addr all before is
    ∙ ap (λ o. option_map_or (λ removed. without removed all) o all) (sym c.in-Some.is)
