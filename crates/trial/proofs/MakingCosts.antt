-- What the changes of a trial cost, one after the other.
use Rattle.std.proofs.Common.{◌≡◌, ℕ, ◌+◌, ◌≤◌, List, [], ◌∷◌, Option, Some, None, ap, sym, subst, ◌∙◌, arith}
use Rattle.mboxrd.specs.Mails.{Mail, mails_from}
use Rattle.box_maker.specs.Boxes.{trial_box}
use Rattle.mailbox_model.specs.declared.change.Change.{Change}
use Rattle.mailbox_model.specs.declared.change.Change.TheVariants.{At}
use Rattle.mailbox_model.specs.Lists.{Bytes}
use Rattle.mailbox_model.specs.Mailbox.{Mailbox, after, empty_mailbox}
use Rattle.touched_chats.specs.Costs.{change_cost, change_costs}
use Rattle.arrivals.specs.Arrivals.{arrival_of}
use Rattle.arrivals.proofs.Uids.{next_uid_after}
use Rattle.trial.specs.Ahead.{ArrivesNext}
use Rattle.trial.specs.Costs.{making_cost}
use Rattle.trial.specs.Trials.{after_allowed, arrivals, trial_mails}
use Rattle.trial.proofs.ArrivalLaws.{made_is}

-- of the first, and then of the others
spent_first : (now later all first others both : ℕ) → both ≡ first + others → now + both ≤ all → later ≤ now + first → later + others ≤ all
spent_first now later all first others both is most spent = omega (arith, is, most, spent)

within_both : (now later all others : ℕ) → later + others ≤ all → later ≤ all
within_both now later all others most = omega (arith, most)

-- the arrival of the next mail, and then of the others
arrival_costs : (m : Mailbox) (uid : ℕ) (mails others : List Mail) (o : Option Change) (change : Change) → o ≡ Some change → uid ≡ m.next_uid → ArrivesNext uid mails o others
    → change_costs m (arrivals m.next_uid mails) ≡ change_cost m change + change_costs (after m change) (arrivals (after m change).next_uid others)
arrival_costs m uid [] others None change is at next_one = absurd cc
arrival_costs m uid [] others (Some first) change is at next_one = absurd next_one
arrival_costs m uid (mail ∷ mails) others None change is at next_one = absurd next_one
arrival_costs m uid (mail ∷ mails) others (Some first) change is at next_one =
    let same : first ≡ change = cc in
    let arrival : change ≡ arrival_of m.next_uid mail = sym same ∙ next_one.0 ∙ ap (λ (u : ℕ). arrival_of u mail) at in
    let next_uid : (after m change).next_uid ≡ m.next_uid + 1 = ap (λ (c : Change). (after m c).next_uid) arrival ∙ next_uid_after m m.next_uid mail in
    λ i. change_cost m (sym arrival i) + change_costs (after m (sym arrival i)) (arrivals (sym next_uid i) (sym next_one.1 i))

pub arrival_spent : (m n : Mailbox) (uid : ℕ) (mails others : List Mail) (o : Option Change) (change : Change) (now later all : ℕ) → o ≡ Some change → uid ≡ m.next_uid
    → ArrivesNext uid mails o others → after_allowed m (change ∷ []) ≡ Some n → now + change_costs m (arrivals m.next_uid mails) ≤ all → later ≤ now + change_cost m change
    → later + change_costs n (arrivals n.next_uid others) ≤ all
arrival_spent m n uid mails others o change now later all is at next_one made most spent =
    subst (λ (n : Mailbox). later + change_costs n (arrivals n.next_uid others) ≤ all) (sym (made_is m n change made))
    (spent_first now later all _ _ _ (arrival_costs m uid mails others o change is at next_one) most spent)

-- also where it is not made
pub arrival_within : (m : Mailbox) (uid : ℕ) (mails others : List Mail) (o : Option Change) (change : Change) (now later all : ℕ) → o ≡ Some change → uid ≡ m.next_uid
    → ArrivesNext uid mails o others → now + change_costs m (arrivals m.next_uid mails) ≤ all → later ≤ now + change_cost m change → later ≤ all
arrival_within m uid mails others o change now later all is at next_one most spent =
    within_both now later all _ (spent_first now later all _ _ _ (arrival_costs m uid mails others o change is at next_one) most spent)

-- after the moment the mails arrive
pub trial_costs : (me : Bytes) (number : ℕ) (m n : Mailbox) (mails : List Mail) (bytes : Bytes) → m ≡ empty_mailbox me → after_allowed m (At 1706745600 ∷ []) ≡ Some n
    → mails ≡ mails_from 0 bytes → bytes ≡ trial_box number 2000 me → making_cost me number ≡ change_cost m (At 1706745600) + change_costs n (arrivals n.next_uid mails)
trial_costs me number m n mails bytes start made all is =
    let begun : n ≡ after (empty_mailbox me) (At 1706745600) = made_is m n (At 1706745600) made ∙ ap (λ (m : Mailbox). after m (At 1706745600)) start in
    let uid : n.next_uid ≡ 1 = ap (λ (x : Mailbox). x.next_uid) begun in
    let same : mails ≡ trial_mails me number = all ∙ ap (mails_from 0) is in
    λ i. change_cost (sym start i) (At 1706745600) + change_costs (sym begun i) (arrivals (sym uid i) (sym same i))

-- the moment alone
pub moment_within : (me : Bytes) (number : ℕ) (m : Mailbox) (old new : ℕ) → m ≡ empty_mailbox me → new ≤ old + change_cost m (At 1706745600) → new ≤ old + making_cost me number
moment_within me number m old new start spent =
    first_of old new _ _ (subst (λ (m : Mailbox). new ≤ old + change_cost m (At 1706745600)) start spent)
  where
    first_of : (old new first others : ℕ) → new ≤ old + first → new ≤ old + (first + others)
    first_of old new first others le = omega (arith, le)

pub trial_spent : (me : Bytes) (number : ℕ) (m n : Mailbox) (mails : List Mail) (bytes : Bytes) (old mid new : ℕ) → m ≡ empty_mailbox me → after_allowed m (At 1706745600 ∷ []) ≡ Some n
    → mails ≡ mails_from 0 bytes → bytes ≡ trial_box number 2000 me → mid ≤ old + change_cost m (At 1706745600) → new ≤ mid + change_costs n (arrivals n.next_uid mails)
    → new ≤ old + making_cost me number
trial_spent me number m n mails bytes old mid new start made all is first others =
    of_both old mid new _ _ _ (trial_costs me number m n mails bytes start made all is) first others
  where
    of_both : (old mid new first others both : ℕ) → both ≡ first + others → mid ≤ old + first → new ≤ mid + others → new ≤ old + both
    of_both old mid new first others both is before after = omega (arith, is, before, after)
