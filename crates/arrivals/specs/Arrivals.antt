-- What a mail is to a mailbox: an arrival with its card, or with the reason why it has none.
use Rattle.std.specs.Prelude.{ℕ, nat_lt, if◌then◌else◌, length, Option, Some, None, Result, Ok, Err}
use Rattle.mboxrd.specs.Answers.{max_mail_len}
use Rattle.mboxrd.specs.Mails.{Mail}
use Rattle.mboxrd.specs.declared.taken.Taken.{Taken}
use Rattle.mboxrd.specs.declared.taken.Taken.TheVariants as taken
use Rattle.card_type.specs.declared.card.Card.{Card}
use Rattle.chat_card.specs.Cards.{card_of}
use Rattle.chat_card.specs.declared.fault.CardFault.{CardFault}
use Rattle.chat_card.specs.declared.fault.CardFault.TheVariants as of_card
use Rattle.mailbox_model.specs.declared.change.Fault.{Fault}
use Rattle.mailbox_model.specs.declared.change.Fault.TheVariants as fault
use Rattle.mailbox_model.specs.declared.change.Change.{Change}
use Rattle.mailbox_model.specs.declared.change.Change.TheVariants.{Arrive, ArriveFault}

-- why a mail has no card; that memory runs out is no fault of a mail, and no card is read so
abbrev pub fault_of : CardFault → Fault
fault_of of_card.NoFields = fault.NoFields
fault_of of_card.NoFrom = fault.NoFrom
fault_of of_card.CardTooLong = fault.CardTooLong
fault_of of_card.Memory = fault.TooLong

abbrev pub arrival_with : Result Card CardFault → Change
arrival_with (Ok card) = Arrive card
arrival_with (Err why) = ArriveFault (fault_of why)

-- the arrival of a mail that gets this uid
abbrev pub arrival_of : ℕ → Mail → Change
arrival_of uid mail =
    if nat_lt max_mail_len (length mail.bytes) then ArriveFault fault.TooLong else arrival_with (card_of uid mail.bytes)

-- the arrival of what was taken of an mbox, if that was a mail
abbrev pub arrival_taken : ℕ → Taken → Option Change
arrival_taken uid (taken.Mail mail) = Some (arrival_with (card_of uid mail.items))
arrival_taken uid (taken.TooLong) = Some (ArriveFault fault.TooLong)
arrival_taken uid (taken.End) = None
