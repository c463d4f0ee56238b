-- A chat of the order that gets another date and moves to its place.
use Rattle.std.proofs.Common.{◌≡◌, ◌<◌, ◌≤◌, ◌⊎◌, sym, ap, ap₂, ◌∙◌, subst, ℕ, suc, ◌+◌, Option, Some, List, length, take, drop, get_or, true, false, inl, inr, arith}
use Rattle.std.specs.BTreeMap.{is_at}
use Rattle.std.specs.List.{AllByRecursion, insert, remove, zip}
use Rattle.std.specs.List.Sorted.{IsStrictlySortedBy}
use Rattle.std.specs.Map.{lookup}
use Rattle.std.specs.Ordering.{is_lt}
use Rattle.std.proofs.lemmas.List.Edits.{length-remove}
use Rattle.card_type.specs.declared.key.ChatKey.{ChatKey}
use Rattle.card_type.specs.Keys.{key_cmp}
use Rattle.mailbox_model.specs.ChatList.{Dated, dated_cmp}
use Rattle.chatlist.specs.Places.{without_key, with_place}
use Rattle.chatlist.specs.Dates.{IsDateFit}
use Rattle.chatlist.specs.Orders.{IsPlaceOf}
use Rattle.chatlist.proofs.Fits.{fits}
use Rattle.chatlist.proofs.Kept.{IsKept, length_chats, kept_at, taken, take_out, kept_without, kept_with, put_in, absent_left, stands}
use Rattle.chatlist.proofs.Turns.{place_before, place_after}
use Rattle.chatlist.proofs.Zips.{zipped_at}

-- the place among the others, of a place in a list with a chat at an index
abbrev pub IsLeft : ℕ → ℕ → ℕ → Type 0
IsLeft from place to = ((from < place) × (to + 1 ≡ place)) ⊎ ((place ≤ from) × (to ≡ place))

place_left : (d : Dated) (chats : List Dated) (from place to : ℕ) → from < length chats → IsLeft from place to → IsPlaceOf d chats place → IsPlaceOf d (remove chats from) to
place_left d chats from place to there (inl h) goes =
    let next : place ≡ suc to = omega (arith, h.1) in
    let rest = place_after (λ e. is_lt (dated_cmp e d) ≡ true) (λ e. is_lt (dated_cmp e d) ≡ false) chats from to there (omega (arith, h.0, h.1))
    (subst (λ n. AllByRecursion (λ e. is_lt (dated_cmp e d) ≡ true) (take n chats)) next goes.before)
    (subst (λ n. AllByRecursion (λ e. is_lt (dated_cmp e d) ≡ false) (drop n chats)) next goes.after) in
    record { before = rest.0; after = rest.1 }
place_left d chats from place to there (inr h) goes =
    let rest = place_before (λ e. is_lt (dated_cmp e d) ≡ true) (λ e. is_lt (dated_cmp e d) ≡ false) chats from to there (omega (arith, h.0, h.1))
    (subst (λ n. AllByRecursion (λ e. is_lt (dated_cmp e d) ≡ true) (take n chats)) (sym h.1) goes.before)
    (subst (λ n. AllByRecursion (λ e. is_lt (dated_cmp e d) ≡ false) (drop n chats)) (sym h.1) goes.after) in
    record { before = rest.0; after = rest.1 }

bound : (n from place to : ℕ) → from < n → place ≤ n → IsLeft from place to → to < n
bound n from place to there within (inl h) = omega (arith, h.1)
bound n from place to there within (inr h) = omega (arith, h.0, h.1)

module _ (ks : List ChatKey) (vs : List (Option ℕ)) {chats : List Dated} {key : ChatKey} {before date : Option ℕ} {from place to : ℕ} (kept : IsKept ks vs) (is : zip ks vs ≡ chats)
    (here : lookup (is_at (key_cmp key)) chats ≡ Some before) (at : IsPlaceOf (key, before) chats from) (goes : IsPlaceOf (key, date) chats place)
    (within : place ≤ length chats) (left : IsLeft from place to) where
  pub from_within : from < length ks
  from_within = kept_at ks vs chats key before from kept.0 is here kept.1 kept.2 at

  pub to_within : to < length ks
  to_within = let n = length_chats ks vs chats kept.0 is in bound (length ks) from place to from_within (omega arith) left

  gone : (from < length chats) × (remove chats from ≡ without_key key chats)
  gone = taken ks vs chats key before from kept.0 is here kept.1 kept.2 at

  goes_left : IsPlaceOf (key, date) (without_key key chats) to
  goes_left = subst (λ ds. IsPlaceOf (key, date) ds to) gone.1 (place_left (key, date) chats from place to gone.0 left goes)

  to_left : to ≤ length (without_key key chats)
  to_left =
      let n = length-remove chats from gone.0 in
      let same = ap length gone.1 in
      let most = bound (length chats) from place to gone.0 within left in
      omega arith

  stays : IsKept (remove ks from) (remove vs from)
  stays = kept_without ks vs chats key before from kept is here at

  rest : zip (remove ks from) (remove vs from) ≡ without_key key chats
  rest = take_out ks vs chats key before from kept.0 is here kept.1 kept.2 at

  key_there : get_or ks from key ≡ key
  key_there =
      ap (λ d. d.0) (sym (zipped_at ks vs from key before kept.0 from_within)) ∙ ap (λ ds. (get_or {A = Dated} ds from (key, before)).0) is
      ∙ ap (λ d. d.0) (stands key before chats from here (subst (IsStrictlySortedBy dated_cmp) is kept.1) at.before at.after)

  pub fits_left : IsDateFit date to (remove vs from)
  fits_left = fits key date (remove ks from) (remove vs from) to stays.0 rest goes_left

  -- after both lists were turned
  module _ {turned_ks : List ChatKey} {turned_vs : List (Option ℕ)} (keys : turned_ks ≡ insert (remove ks from) to (get_or ks from key))
      (dates : turned_vs ≡ insert (remove vs from) to date) where
    keys_are : turned_ks ≡ insert (remove ks from) to key
    keys_are = keys ∙ ap (insert (remove ks from) to) key_there

    pub shifted_kept : IsKept turned_ks turned_vs
    shifted_kept =
        rw (keys_are, dates)
        (kept_with (remove ks from) (remove vs from) (without_key key chats) key date to stays rest (absent_left key chats) to_left goes_left)

    pub shifted : zip turned_ks turned_vs ≡ with_place key date chats
    shifted =
        ap₂ zip keys_are dates
        ∙ put_in (remove ks from) (remove vs from) (without_key key chats) key date to stays.0 rest (absent_left key chats) goes_left
