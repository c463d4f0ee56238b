-- Worked rows of the definitions, which compute.
use Rattle.std.proofs.Common.{◌≡◌, [], ◌∷◌, None, codes, refl}
use Rattle.std.specs.Fmt.{digits}
use Rattle.mboxrd.specs.Mails.{Mail}
use Rattle.mailbox_model.specs.declared.change.Change.TheVariants.{ArriveFault, At}
use Rattle.mailbox_model.specs.declared.change.Fault.TheVariants.{NoFrom}
use Rattle.mailbox_model.specs.Mailbox.{Mailbox, end_of_uids}
use Rattle.arrivals.specs.Arrivals.{arrival_of}
use Rattle.trial.specs.Summaries.{summary_text}
use Rattle.trial.specs.Trials.{after_allowed, arrivals}

line_of_7 : summary_text 7 (record { chats = 415; shown = 1572; fresh = 1387 }) ≡ codes "trial 7: 2000 mails, 415 chats, 1572 shown, 1387 fresh\n"
unfolding digits
line_of_7 = refl

-- the mails of a trial get the uids 1, 2 and so on
arrivals_of_two : (a b : Mail) → arrivals 1 (a ∷ b ∷ []) ≡ arrival_of 1 a ∷ arrival_of 2 b ∷ []
arrivals_of_two a b = refl

-- a mailbox whose uids come to their end has place for no mail
last_mailbox : Mailbox
last_mailbox = record { me = codes "me@x.org"; now = 0; next_uid = end_of_uids; entries = [] }

full_at_the_second : after_allowed last_mailbox (At 5 ∷ ArriveFault NoFrom ∷ []) ≡ None
unfolding last_mailbox
full_at_the_second = refl
