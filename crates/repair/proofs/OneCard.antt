-- A change leaves under each uid the card that it has.
use Rattle.std.proofs.Common.{sym, [], ◌∷◌}
use Rattle.mailbox_model.specs.declared.change.Change.{Change}
use Rattle.mailbox_model.specs.Mailbox.{Mailbox, after, IsMailbox}
use Rattle.mailbox_model.proofs.UidLaws.{one_card}
use Rattle.indexes.proofs.Mails.{card_is}
use Rattle.repair.specs.Turned.{NameOneMail}

pub change_names_one : (m : Mailbox) (change : Change) → IsMailbox m → NameOneMail m (after m change)
change_names_one m change rules uid t u before later =
    sym (one_card m (change ∷ []) uid t.placed.card u.placed.card rules.uids (card_is m uid t before) (card_is (after m change) uid u later))
