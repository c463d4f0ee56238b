use Rattle.std.proofs.Common.{sym, ap, ◌∙◌}
use Rattle.std.specs.Prelude.{◌-◌, length, slice_get}
use Rattle.std.specs.Option.{option_copied}
use Rattle.state_image.proofs.ItemsRead.{last_is}
use Rattle.state_image.proofs.entries.last_uid.Goals as goal

pub returns-in-Some : goal.returns-in-Some
returns-in-Some c =
    sym (last_is c.args.mailbox.now.mailbox.entries c.in-Some.item.now
    (ap (λ items. slice_get items (length items - 1)) (sym c.items.ensures) ∙ sym c.last.ensures.value ∙ ap option_copied c.in-Some.is))
