-- The uid that comes after an arrival.
use Rattle.std.proofs.Common.{◌≡◌, ℕ, ◌+◌, Bool, true, false, length, Result, Ok, Err, refl, if◌then◌else◌, nat_lt}
use Rattle.mboxrd.specs.Answers.{max_mail_len}
use Rattle.mboxrd.specs.Mails.{Mail}
use Rattle.card_type.specs.declared.card.Card.{Card}
use Rattle.chat_card.specs.Cards.{card_of}
use Rattle.chat_card.specs.declared.fault.CardFault.{CardFault}
use Rattle.mailbox_model.specs.declared.change.Change.TheVariants.{ArriveFault}
use Rattle.mailbox_model.specs.declared.change.Fault.TheVariants as fault
use Rattle.mailbox_model.specs.Mailbox.{Mailbox, after}
use Rattle.arrivals.specs.Arrivals.{arrival_of, arrival_with}

-- an arrival takes the next uid
pub next_uid_after : (m : Mailbox) (uid : ℕ) (mail : Mail) → (after m (arrival_of uid mail)).next_uid ≡ m.next_uid + 1
next_uid_after m uid mail = by (nat_lt max_mail_len (length mail.bytes)) (card_of uid mail.bytes)
  where
    by : (long : Bool) (read : Result Card CardFault) → (after m (if long then ArriveFault fault.TooLong else arrival_with read)).next_uid ≡ m.next_uid + 1
    by true read = refl
    by false (Ok card) = refl
    by false (Err why) = refl
