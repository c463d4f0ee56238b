-- The place of a chat in the order is one for its date among the dates.
use Rattle.std.proofs.Common.{◌≡◌, refl, ℕ, zero, suc, Option, Some, None, List, [], ◌∷◌, length, take, drop, is_some, true, false, subst, sym, arith}
use Rattle.std.specs.List.{AllByRecursion, zip}
use Rattle.std.specs.Ordering.{is_lt}
use Rattle.std.proofs.lemmas.Bool.{false≢true}
use Rattle.card_type.specs.declared.key.ChatKey.{ChatKey}
use Rattle.mailbox_model.specs.ChatList.{Dated, dated_cmp}
use Rattle.chatlist.specs.Dates.{IsDateFit}
use Rattle.chatlist.specs.Orders.{IsPlaceOf}

-- what comes before a chat with a date has one
before_known : (k key : ChatKey) (v : Option ℕ) (date : Option ℕ) → is_some date ≡ true → is_lt (dated_cmp (k, v) (key, date)) ≡ true → is_some v ≡ true
before_known k key v None known before = absurd (false≢true known)
before_known k key None (Some d) known before = absurd (false≢true before)
before_known k key (Some v) (Some d) known before = refl

-- what does not come before a chat without one has none
after_none : (k key : ChatKey) (v : Option ℕ) (date : Option ℕ) → is_some date ≡ false → is_lt (dated_cmp (k, v) (key, date)) ≡ false → is_some v ≡ false
after_none k key v (Some d) none after = absurd (false≢true (sym none))
after_none k key None None none after = refl
after_none k key (Some v) None none after = absurd (false≢true (sym after))

module _ (key : ChatKey) (date : Option ℕ) where
  all_known : (ks : List ChatKey) (vs : List (Option ℕ)) (i : ℕ) → length ks ≡ length vs → is_some date ≡ true
      → AllByRecursion (λ e. is_lt (dated_cmp e (key, date)) ≡ true) (take i (zip ks vs)) → AllByRecursion (λ d. is_some d ≡ true) (take i vs)
  all_known ks vs zero same known all = tt
  all_known [] [] (suc i) same known all = tt
  all_known [] (v ∷ vs) (suc i) same known all = absurd (omega arith)
  all_known (k ∷ ks) [] (suc i) same known all = tt
  all_known (k ∷ ks) (v ∷ vs) (suc i) same known all = (before_known k key v date known all.0, all_known ks vs i (omega arith) known all.1)

  all_none : (ks : List ChatKey) (vs : List (Option ℕ)) → length ks ≡ length vs → is_some date ≡ false
      → AllByRecursion (λ e. is_lt (dated_cmp e (key, date)) ≡ false) (zip ks vs) → AllByRecursion (λ d. is_some d ≡ false) vs
  all_none [] [] same none all = tt
  all_none [] (v ∷ vs) same none all = absurd (omega arith)
  all_none (k ∷ ks) [] same none all = tt
  all_none (k ∷ ks) (v ∷ vs) same none all = (after_none k key v date none all.0, all_none ks vs (omega arith) none all.1)

  none_from : (ks : List ChatKey) (vs : List (Option ℕ)) (i : ℕ) → length ks ≡ length vs → is_some date ≡ false
      → AllByRecursion (λ e. is_lt (dated_cmp e (key, date)) ≡ false) (drop i (zip ks vs)) → AllByRecursion (λ d. is_some d ≡ false) (drop i vs)
  none_from ks vs zero same none all = all_none ks vs same none all
  none_from [] [] (suc i) same none all = tt
  none_from [] (v ∷ vs) (suc i) same none all = absurd (omega arith)
  none_from (k ∷ ks) [] (suc i) same none all = tt
  none_from (k ∷ ks) (v ∷ vs) (suc i) same none all = none_from ks vs i (omega arith) none all

  pub fits : (ks : List ChatKey) (vs : List (Option ℕ)) {chats : List Dated} (i : ℕ) → length ks ≡ length vs → zip ks vs ≡ chats → IsPlaceOf (key, date) chats i → IsDateFit date i vs
  fits ks vs i same is place = record {
    known = λ known. all_known ks vs i same known (subst (λ ds. AllByRecursion (λ e. is_lt (dated_cmp e (key, date)) ≡ true) (take i ds)) (sym is) place.before);
    none = λ none. none_from ks vs i same none (subst (λ ds. AllByRecursion (λ e. is_lt (dated_cmp e (key, date)) ≡ false) (drop i ds)) (sym is) place.after);
  }
