-- What a reader has ahead, before and after a call.
use Rattle.std.proofs.Common.{◌≡◌, ℕ, ◌≤◌, ◌<◌, List, [], ◌∷◌, ◌++◌, length, Option, Some, None, if◌then◌else◌, ap, sym, subst, ◌∙◌, arith, length-append}
use Rattle.std.specs.Prelude.{IfOk, Result, Ok, Err}
use Rattle.std.proofs.lemmas.Bool.{le-ltb, lt-ltb}
use Rattle.source_buffer.specs.Known.{IfKnown}
use Rattle.mboxrd.specs.Answers.{IsNext, max_mail_len}
use Rattle.mboxrd.specs.Mails.{Mail, mails_from}
use Rattle.mboxrd.specs.Reading.{Reading, Takes, position}
use Rattle.mboxrd.specs.declared.taken.Taken.{Taken}
use Rattle.mboxrd.specs.declared.taken.Taken.TheVariants as taken
use Rattle.chat_card.specs.Cards.{card_of}
use Rattle.mailbox_model.specs.declared.change.Change.{Change}
use Rattle.mailbox_model.specs.declared.change.Change.TheVariants.{ArriveFault}
use Rattle.mailbox_model.specs.declared.change.Fault.TheVariants as fault
use Rattle.mailbox_model.specs.Lists.{Bytes}
use Rattle.arrivals.specs.Arrivals.{arrival_of, arrival_taken, arrival_with}
use Rattle.trial.specs.Ahead.{Ahead, ArrivesNext, IsWithin, mails_ahead}

-- the bytes that were taken are no longer left
pub still_within : (l m : Option Bytes) (old new : Reading) (bytes : Bytes) → Takes l m old new bytes → IsWithin l old → IsWithin m new
still_within None m old new bytes took within = absurd within
still_within (Some before) None old new bytes took within = absurd took.left
still_within (Some before) (Some after) old new bytes took within =
    omega (arith, within, took.taken, took.budget, ap length took.left, length-append bytes after)

-- so the budget is never reached
pub never_endless : (m : Option Bytes) (r : Reading) → IsWithin m r → r.taken ≡ r.budget → ⊥
never_endless None r within spent = within
never_endless (Some left) r within spent = omega (arith, within, spent)

short_arrival : (uid : ℕ) (mail : Mail) → length mail.bytes ≤ max_mail_len → arrival_of uid mail ≡ arrival_with (card_of uid mail.bytes)
short_arrival uid mail short = ap (λ b. if b then ArriveFault fault.TooLong else arrival_with (card_of uid mail.bytes)) (le-ltb max_mail_len (length mail.bytes) short)

long_arrival : (uid : ℕ) (mail : Mail) → max_mail_len < length mail.bytes → arrival_of uid mail ≡ ArriveFault fault.TooLong
long_arrival uid mail long = ap (λ b. if b then ArriveFault fault.TooLong else arrival_with (card_of uid mail.bytes)) (lt-ltb max_mail_len (length mail.bytes) long)

-- the arrival of what the reader gives
taken_next : (uid : ℕ) (mails others : List Mail) (t : Taken) (old new : Reading) → IsNext mails t old new others → ArrivesNext uid mails (arrival_taken uid t) others
taken_next uid [] others (taken.Mail v) old new h = absurd h
taken_next uid [] others (taken.TooLong) old new h = absurd h
taken_next uid [] others (taken.End) old new h = h.0
taken_next uid (mail ∷ mails) others (taken.End) old new h = absurd h
taken_next uid (mail ∷ mails) others (taken.Mail v) old new h =
    (ap (λ bytes. arrival_with (card_of uid bytes)) h.0 ∙ sym (short_arrival uid mail h.1), h.4)
taken_next uid (mail ∷ mails) others (taken.TooLong) old new h = (sym (long_arrival uid mail h.0), h.3)

-- over what the reader has ahead
pub arrives_next : (l m : Option Bytes) (old new : Reading) (uid : ℕ) (t : Taken) (change : Option Change) → IsWithin l old → change ≡ arrival_taken uid t
    → IfKnown l m (λ before after. IsNext (mails_from (position old) (old.held ++ before)) t old new (mails_from (position new) (new.held ++ after)))
    → ArrivesNext uid (mails_ahead l old) change (mails_ahead m new)
arrives_next None m old new uid t change within is next_one = absurd within
arrives_next (Some before) None old new uid t change within is next_one = absurd next_one
arrives_next (Some before) (Some after) old new uid t change within is next_one =
    subst (λ change. ArrivesNext uid (mails_from (position old) (old.held ++ before)) change (mails_from (position new) (new.held ++ after))) (sym is)
    (taken_next uid (mails_from (position old) (old.held ++ before)) (mails_from (position new) (new.held ++ after)) t old new next_one)

-- the same of what the call answers, where this is the arrival of what the reader gave
pub next_arrives : {E : Type 0} (a : Ahead) (l m : Option Bytes) (old new : Reading) (uid : ℕ) (t : Taken) (r s : Result (Option Change) E)
    → record { mails = mails_ahead l old; refused = old.refused } ≡ a → IsWithin l old → r ≡ s → IfOk s (λ change. change ≡ arrival_taken uid t)
    → IfKnown l m (λ before after. IsNext (mails_from (position old) (old.held ++ before)) t old new (mails_from (position new) (new.held ++ after)))
    → IfOk r (λ change. ArrivesNext uid a.mails change (mails_ahead m new))
next_arrives a l m old new uid t r s seen within same change next_one =
    subst (λ r. IfOk r (λ change. ArrivesNext uid a.mails change (mails_ahead m new))) (sym same) (by s change)
  where
    by : {E : Type 0} (s : Result (Option Change) E) → IfOk s (λ change. change ≡ arrival_taken uid t) → IfOk s (λ change. ArrivesNext uid a.mails change (mails_ahead m new))
    by (Ok change) is =
        subst (λ (a : Ahead). ArrivesNext uid a.mails change (mails_ahead m new)) seen (arrives_next l m old new uid t change within is next_one)
    by (Err why) is = tt

pub no_answer : {T E : Type 0} (r : Result T E) (why : E) (P : T → Type 0) → r ≡ Err why → IfOk r P
no_answer r why P is = subst (λ r. IfOk r P) (sym is) tt
