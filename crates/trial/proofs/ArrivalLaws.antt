-- Arrivals one after the other.
use Rattle.std.proofs.Common.{◌≡◌, ℕ, ◌+◌, ◌<◌, Bool, true, false, ◌||◌, List, [], ◌∷◌, length, Option, Some, None, if◌then◌else◌, refl, ap, sym, subst, ◌∙◌, arith}
use Rattle.mboxrd.specs.Mails.{Mail, mails_from}
use Rattle.box_maker.specs.Boxes.{trial_box}
use Rattle.mailbox_model.specs.declared.change.Change.{Change}
use Rattle.mailbox_model.specs.declared.change.Change.TheVariants.{At}
use Rattle.mailbox_model.specs.Lists.{Bytes}
use Rattle.mailbox_model.specs.Mailbox.{Mailbox, after, after_all, empty_mailbox, full}
use Rattle.arrivals.specs.Arrivals.{arrival_of}
use Rattle.arrivals.proofs.Uids.{next_uid_after}
use Rattle.trial.specs.declared.fault.TrialFault.{TrialFault}
use Rattle.trial.specs.declared.fault.TrialFault.TheVariants as fault
use Rattle.trial.specs.Ahead.{ArrivesNext}
use Rattle.trial.specs.Faults.{IsUnmade}
use Rattle.trial.specs.Trials.{after_allowed, arrivals, is_one_full, trial_mailbox, trial_mails}

-- ---- one change

pub made_one : (m n : Mailbox) (change : Change) → full m change ≡ false → n ≡ after m change → after_allowed m (change ∷ []) ≡ Some n
made_one m n change room is = ap (λ b. if b || false then None else Some (after m change)) room ∙ ap Some (sym is)

pub full_one : (m : Mailbox) (change : Change) → full m change ≡ true → IsUnmade (after_allowed m (change ∷ [])) fault.Full
full_one m change none = subst (λ o. IsUnmade o fault.Full) (sym (ap (λ b. if b || false then None else Some (after m change)) none)) tt

pub memory_one : (m : Option Mailbox) → IsUnmade m fault.Memory
memory_one None = tt
memory_one (Some m) = tt

-- ---- and the others after it

-- the first of some changes, by whether it is full
abbrev by_first : Mailbox → Change → List Change → Bool → Option Mailbox
by_first m change changes b = if b || is_one_full (after m change) changes then None else Some (after_all (after m change) changes)

goes_on : (m n : Mailbox) (change : Change) (changes : List Change) → after_allowed m (change ∷ []) ≡ Some n → after_allowed m (change ∷ changes) ≡ after_allowed n changes
goes_on m n change changes = by (full m change)
  where
    by : (b : Bool) → by_first m change [] b ≡ Some n → by_first m change changes b ≡ after_allowed n changes
    by true e = absurd cc
    by false e = (let same : after m change ≡ n = cc in ap (λ (m : Mailbox). after_allowed m changes) same)

pub made_is : (m n : Mailbox) (change : Change) → after_allowed m (change ∷ []) ≡ Some n → n ≡ after m change
made_is m n change = by (full m change)
  where
    by : (b : Bool) → by_first m change [] b ≡ Some n → n ≡ after m change
    by true e = absurd cc
    by false e = cc

ends_before : (m : Mailbox) (change : Change) (changes : List Change) (why : TrialFault) → IsUnmade (after_allowed m (change ∷ [])) why → IsUnmade (after_allowed m (change ∷ changes)) why
ends_before m change changes why = by (full m change) why
  where
    by : (b : Bool) (why : TrialFault) → IsUnmade (by_first m change [] b) why → IsUnmade (by_first m change changes b) why
    by true why h = h
    by false fault.Full h = absurd h
    by false fault.Write h = absurd h
    by false fault.Memory h = memory_one (by_first m change changes false)

-- ---- arrivals

-- the arrival of the next mail, and then of the others
pub arrival_made : (m n : Mailbox) (uid : ℕ) (mails others : List Mail) (o : Option Change) (change : Change) → o ≡ Some change → uid ≡ m.next_uid → ArrivesNext uid mails o others
    → after_allowed m (change ∷ []) ≡ Some n → after_allowed m (arrivals m.next_uid mails) ≡ after_allowed n (arrivals n.next_uid others)
arrival_made m n uid [] others None change is at next_one made = absurd cc
arrival_made m n uid [] others (Some first) change is at next_one made = absurd next_one
arrival_made m n uid (mail ∷ mails) others None change is at next_one made = absurd next_one
arrival_made m n uid (mail ∷ mails) others (Some first) change is at next_one made =
    let same : first ≡ change = cc in
    let arrival : change ≡ arrival_of m.next_uid mail = sym same ∙ next_one.0 ∙ ap (λ (u : ℕ). arrival_of u mail) at in
    let one : after_allowed m (arrival_of m.next_uid mail ∷ []) ≡ Some n = ap (λ (c : Change). after_allowed m (c ∷ [])) (sym arrival) ∙ made in
    let next_uid : n.next_uid ≡ m.next_uid + 1 = ap (λ (x : Mailbox). x.next_uid) (made_is m n (arrival_of m.next_uid mail) one) ∙ next_uid_after m m.next_uid mail in
    goes_on m n (arrival_of m.next_uid mail) (arrivals (m.next_uid + 1) mails) one
    ∙ (λ i. after_allowed n (arrivals (sym next_uid i) (sym next_one.1 i)))

pub arrival_unmade : (m : Mailbox) (uid : ℕ) (mails others : List Mail) (o : Option Change) (change : Change) (why : TrialFault) → o ≡ Some change → uid ≡ m.next_uid → ArrivesNext uid mails o others
    → IsUnmade (after_allowed m (change ∷ [])) why → IsUnmade (after_allowed m (arrivals m.next_uid mails)) why
arrival_unmade m uid [] others None change why is at next_one unmade = absurd cc
arrival_unmade m uid [] others (Some first) change why is at next_one unmade = absurd next_one
arrival_unmade m uid (mail ∷ mails) others None change why is at next_one unmade = absurd next_one
arrival_unmade m uid (mail ∷ mails) others (Some first) change why is at next_one unmade =
    let same : first ≡ change = cc in
    let arrival : change ≡ arrival_of m.next_uid mail = sym same ∙ next_one.0 ∙ ap (λ (u : ℕ). arrival_of u mail) at in
    ends_before m (arrival_of m.next_uid mail) (arrivals (m.next_uid + 1) mails) why (subst (λ (c : Change). IsUnmade (after_allowed m (c ∷ [])) why) arrival unmade)

-- no mail is left, so nothing more arrives
pub none_arrives : (m : Mailbox) (uid : ℕ) (mails others : List Mail) (o : Option Change) → o ≡ None → ArrivesNext uid mails o others
    → after_allowed m (arrivals m.next_uid mails) ≡ Some m
none_arrives m uid [] others o is next_one = refl
none_arrives m uid (mail ∷ mails) others None is next_one = absurd next_one
none_arrives m uid (mail ∷ mails) others (Some change) is next_one = absurd cc

pub fewer_left : (uid : ℕ) (mails others : List Mail) (o : Option Change) (change : Change) → o ≡ Some change → ArrivesNext uid mails o others → length others < length mails
fewer_left uid [] others None change is next_one = absurd cc
fewer_left uid [] others (Some first) change is next_one = absurd next_one
fewer_left uid (mail ∷ mails) others None change is next_one = absurd next_one
fewer_left uid (mail ∷ mails) others (Some first) change is next_one = omega (arith, ap length next_one.1)

-- ---- a trial

-- a moment is never full
pub moment_made : (m : Mailbox) (moment : ℕ) (o : Option Mailbox) (why : TrialFault) → IsUnmade (after_allowed m (At moment ∷ [])) why → IsUnmade o why
moment_made m moment o fault.Full h = absurd h
moment_made m moment o fault.Write h = absurd h
moment_made m moment o fault.Memory h = memory_one o

-- after the moment the mails arrive
pub trial_made : (me : Bytes) (number : ℕ) (m n : Mailbox) (mails : List Mail) (bytes : Bytes) → m ≡ empty_mailbox me → after_allowed m (At 1706745600 ∷ []) ≡ Some n
    → mails ≡ mails_from 0 bytes → bytes ≡ trial_box number 2000 me → trial_mailbox me number ≡ after_allowed n (arrivals n.next_uid mails)
trial_made me number m n mails bytes start made all is =
    let one : after_allowed (empty_mailbox me) (At 1706745600 ∷ []) ≡ Some n = ap (λ (m : Mailbox). after_allowed m (At 1706745600 ∷ [])) (sym start) ∙ made in
    let uid : n.next_uid ≡ 1 = ap (λ (x : Mailbox). x.next_uid) (made_is (empty_mailbox me) n (At 1706745600) one) in
    let same : mails ≡ trial_mails me number = all ∙ ap (mails_from 0) is in
    goes_on (empty_mailbox me) n (At 1706745600) (arrivals 1 (trial_mails me number)) one ∙ (λ i. after_allowed n (arrivals (sym uid i) (sym same i)))
