-- The cards of different chats, each with those that name it, are no more than the cost of a repair counts.
use Rattle.std.proofs.Common.{◌≡◌, refl, sym, ap, ◌∙◌, subst, ℕ, ◌+◌, ◌*◌, ◌≤◌, Bool, true, false, not, ◌||◌, cond, Option, Some, None, List, [], ◌∷◌, ◌++◌, length, map, arith, length-append}
use Rattle.std.specs.Prelude.{filter, sum_by}
use Rattle.std.specs.List.{list_any, AllByRecursion, IsDistinct}
use Rattle.std.proofs.lemmas.Bool.{false≢true}
use Rattle.std.proofs.lemmas.List.{map-append}
use Rattle.std.proofs.lemmas.List.Sums.{sum_by-cons, sum_by-append}
use Rattle.card_type.specs.declared.key.ChatKey.{ChatKey}
use Rattle.card_type.specs.Effects.{is_among, names}
use Rattle.card_type.specs.Keys.{key_eq}
use Rattle.mailbox_model.specs.Lists.{Bytes}
use Rattle.mailbox_model.specs.Mailbox.{Mailbox}
use Rattle.mailbox_model.specs.Present.{Placed, Mail, same_uid, present, contents}
use Rattle.mailbox_model.specs.Chats.{chat, is_chat, chat_mails}
use Rattle.mailbox_model.proofs.ListLaws.{key_same, key_turn}
use Rattle.touched_chats.specs.Touched.{IsTouched, HoldsTouched}
use Rattle.touched_chats.specs.Costs.{by_uid, is_in_any, cards_in, citing_unsettled, times_named_among, pairs_of, row_reads, refold_reads, repair_cost, AreHeld}
use Rattle.touched_chats.proofs.Counts.{apart_sum, sum_more}

-- ---- chats of different keys have no card in common

no_card : (m : Mailbox) (key : ChatKey) (held : List ChatKey) → AllByRecursion (λ k. key_eq key k ≡ false) held
    → (t : Mail) → is_chat key (chat m t.placed.card.id) ≡ true → is_in_any m held t ≡ false
no_card m key held a t h = by (chat m t.placed.card.id) held a h
  where
    by : (o : Option ChatKey) (ks : List ChatKey) → AllByRecursion (λ k. key_eq key k ≡ false) ks → is_chat key o ≡ true → list_any (λ k. is_chat k o) ks ≡ false
    by o [] a h = refl
    by None (k ∷ ks) a h = by None ks a.1 h
    by (Some c) (k ∷ ks) a h =
        let same : key ≡ c = key_same key c h in
        rw (key_turn k c ∙ subst (λ d. key_eq d k ≡ false) same a.0) (by (Some c) ks a.1 h)

-- summed chat by chat is summed over the cards of these chats
pub sum_of_chats : (m : Mailbox) (f : Mail → ℕ) (held : List ChatKey) → IsDistinct key_eq held
    → sum_by (λ key. sum_by f (chat_mails m key)) held ≡ sum_by f (filter (is_in_any m held) (contents m))
unfolding IsDistinct
sum_of_chats m f [] d = sym (none (contents m))
  where
    none : (ts : List Mail) → sum_by f (filter (is_in_any m []) ts) ≡ 0
    none [] = refl
    none (t ∷ ts) = none ts
sum_of_chats m f (key ∷ held) d =
    let rest = sum_of_chats m f held d.1 in
    let both = apart_sum f (λ t. is_chat key (chat m t.placed.card.id)) (is_in_any m held) (no_card m key held d.0) (contents m) in
    sum_by-cons (λ key. sum_by f (chat_mails m key)) key held ∙ ap (λ s. sum_by f (chat_mails m key) + s) rest ∙ sym both

-- ---- more chats have more cards

or_true : (b : Bool) → (b || true) ≡ true
or_true true = refl
or_true false = refl

-- chats that are all among others
pub in_any_more : (m : Mailbox) (keys held : List ChatKey) → AllByRecursion (λ key. list_any (key_eq key) held ≡ true) keys → (t : Mail) → is_in_any m keys t ≡ true → is_in_any m held t ≡ true
in_any_more m [] held a t h = absurd (false≢true h)
in_any_more m (key ∷ keys) held a t h =
    elim (is_chat key (chat m t.placed.card.id)) as (λ b. is_chat key (chat m t.placed.card.id) ≡ b → (b || is_in_any m keys t) ≡ true → is_in_any m held t ≡ true) [
      | true ↦ λ e k. found (chat m t.placed.card.id) e held a.0
      | false ↦ λ e k. in_any_more m keys held a.1 t k
    ] refl h
  where
    found : (o : Option ChatKey) → is_chat key o ≡ true → (ks : List ChatKey) → list_any (key_eq key) ks ≡ true → list_any (λ k. is_chat k o) ks ≡ true
    found None e ks g = absurd (false≢true e)
    found (Some c) e [] g = absurd (false≢true g)
    found (Some c) e (k ∷ ks) g =
        let same : key ≡ c = key_same key c e in
        elim (key_eq key k) as (λ b. key_eq key k ≡ b → (b || list_any (key_eq key) ks) ≡ true → (key_eq k c || list_any (λ j. key_eq j c) ks) ≡ true) [
          | true ↦ λ d i. rw (key_turn k c ∙ subst (λ x. key_eq x k ≡ true) same d) refl
          | false ↦ λ d i. rw (found (Some c) e ks i) (or_true (key_eq k c))
        ] refl g

-- ---- what is read fits

-- those of ys whose uid none of xs has
abbrev others : List Mail → List Mail → List Mail
others xs ys = filter (λ y. not (list_any (same_uid y) xs)) ys

-- some name an id, and some more
more_named : (xs ys : List Mail) (id : Bytes) → times_named_among xs id ≤ times_named_among (xs ++ ys) id
more_named xs ys id = omega (arith, both)
  where
    one : Placed → ℕ
    one e = cond (is_among (names e.card) id) 1 0

    both : times_named_among (xs ++ ys) id ≡ times_named_among xs id + times_named_among ys id
    both =
        ap (sum_by one) (map-append (λ e. e.placed) xs ys) ∙ sum_by-append one (map (λ e. e.placed) xs) (map (λ e. e.placed) ys)

-- how many name a card, of those that are present after or before
abbrev named_by_any : Mailbox → Mailbox → Mail → ℕ
named_by_any m n t = times_named_among (by_uid (present n) (present m)) t.placed.card.id

-- a card, and those that name it, among the present ones of after and before
each_named : (m n : Mailbox) (ts : List Mail) → sum_by (row_reads n) ts ≤ length ts + pairs_of m n ts
each_named m n [] = omega arith
each_named m n (t ∷ ts) =
    let rest = each_named m n ts in
    let left = sum_by-cons (row_reads n) t ts in
    let right = sum_by-cons (named_by_any m n) t ts in
    let more = more_named (present n) (others (present n) (present m)) t.placed.card.id in
    omega (arith, rest, left, right, more)

-- the cards of these chats
abbrev pub cards_of : Mailbox → List ChatKey → List Mail
cards_of n held = filter (is_in_any n held) (contents n)

module _ (m n : Mailbox) (held : List ChatKey) where
  abbrev pub left_over : List Mail
  left_over = others (cards_of n held) (cards_of m held)

  pub cards_counted : length (cards_in m n held) ≡ length (cards_of n held) + length left_over
  cards_counted = length-append (cards_of n held) left_over

  pub pairs_within : pairs_of m n (cards_of n held) ≤ pairs_of m n (by_uid (cards_in m n held) (citing_unsettled m n))
  pairs_within =
      let parted = sum_by-append (named_by_any m n) (cards_of n held) left_over in
      let paired = sum_by-append (named_by_any m n) (cards_in m n held) (others (cards_in m n held) (citing_unsettled m n)) in
      omega (arith, parted, paired)

  -- to read each, with those that name it
  pub each_read : sum_by (row_reads n) (cards_of n held)
      ≤ length (cards_of n held) + pairs_of m n (by_uid (cards_in m n held) (citing_unsettled m n))
  each_read = omega (arith, each_named m n (cards_of n held), pairs_within)

pub reads_fit : (m n : Mailbox) (keys held : List ChatKey) → IsDistinct key_eq keys → AreHeld held keys
    → refold_reads n keys ≤ length (cards_in m n held) + pairs_of m n (by_uid (cards_in m n held) (citing_unsettled m n))
reads_fit m n keys held d a =
    let by_chat = sum_of_chats n (row_reads n) keys d in
    let wider = sum_more (row_reads n) (is_in_any n keys) (is_in_any n held) (contents n) (λ t m. in_any_more n keys held a t) in
    omega (arith, by_chat, wider, each_read m n held, cards_counted m n held)

all_held : (m n : Mailbox) (held : List ChatKey) → HoldsTouched m n held → (keys : List ChatKey) → AllByRecursion (IsTouched m n) keys → AreHeld held keys
all_held m n held all [] a = tt
all_held m n held all (key ∷ keys) a = (all key a.0, all_held m n held all keys a.1)

pub cost_fits : (m n : Mailbox) (keys held : List ChatKey) → IsDistinct key_eq keys → AllByRecursion (IsTouched m n) keys → HoldsTouched m n held
    → 4 * refold_reads n keys + 16 ≤ repair_cost m n held
cost_fits m n keys held d a all =
    let fits = reads_fit m n keys held d (all_held m n held all keys a) in
    omega (arith, fits)
