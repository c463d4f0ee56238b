-- The rows of the list, from the order that is kept.
use Rattle.std.proofs.Common.{◌≡◌, refl, sym, ap, ◌∙◌, subst, ℕ, Bool, true, false, ◌||◌, cond, Option, Some, None, List, [], ◌∷◌, map, arith, ◌⊎◌, inl, inr}
use Rattle.std.specs.Prelude.{find, is_some, sum_by}
use Rattle.std.specs.FinMap as map_of
use Rattle.std.specs.List.{AllByRecursion, IsDistinct, list_any}
use Rattle.std.specs.List.Sorted.{IsStrictlySortedBy}
use Rattle.std.specs.Option.{option_map}
use Rattle.std.specs.declared.cmp.Ordering.{Ordering}
use Rattle.std.specs.declared.cmp.Ordering.TheVariants.{Less, Greater}
use Rattle.std.specs.Cmp.{IsTotalOrder}
use Rattle.std.specs.Cmp.Lexicographic.{options_total}
use Rattle.std.specs.Ordering.{ordering_reverse}
use Rattle.std.proofs.lemmas.Bool.{false≢true}
use Rattle.std.proofs.lemmas.Cmp.{on_total, then_total, back_total, nat_cmp_total}
use Rattle.std.proofs.lemmas.List.Elements.{All-from_recursion, recursion_from_All}
use Rattle.std.proofs.lemmas.List.Sorted.{All-permutation, sum_by-IsPermutation}
use Rattle.std.proofs.lemmas.List.Sums.{sum_by-cons}
use Rattle.card_type.specs.declared.key.ChatKey.{ChatKey}
use Rattle.card_type.specs.Keys.{key_cmp, key_eq}
use Rattle.card_type.proofs.Orders.{keys_total}
use Rattle.mailbox_model.specs.declared.list.ListRow.{ListRow}
use Rattle.mailbox_model.specs.ChatList.{Dated, dated_cmp, list_cmp, list_page, list_row}
use Rattle.mailbox_model.specs.Mailbox.{Mailbox}
use Rattle.mailbox_model.specs.Pages.{keys}
use Rattle.mailbox_model.specs.Present.{present}
use Rattle.mailbox_model.proofs.ListLaws.{key_same, key_self, key_turn, rows_all, rows_are, rows_sorted}
use Rattle.mailbox_model.proofs.StateLaws.{time_is}
use Rattle.chat_view.specs.declared.state.ChatState.{ChatState}
use Rattle.indexes.specs.Costs.{chat_cost, list_cost}
use Rattle.chat_view.specs.Standing.{last_date}
use Rattle.indexes.specs.Kept.{AreDated, AreStates, date_at}
use Rattle.indexes.proofs.Paged.{some_from, state_from}

-- ---- lists in one strict order that have the same elements are one

-- one of these
abbrev Among : {X : Type 0} → X → List X → Type 0
Among x [] = ⊥
Among x (y ∷ ys) = (x ≡ y) ⊎ Among x ys

module _ {X : Type 0} (cmp : X → X → Ordering) (total : IsTotalOrder cmp) where
  abbrev Below : X → List X → Type 0
  Below x ys = AllByRecursion (λ y. cmp x y ≡ Less) ys

  below : (x y : X) (ys : List X) → Below x ys → Among y ys → cmp x y ≡ Less
  below x y [] a k = absurd k
  below x y (z ∷ zs) a (inl e) = subst (λ w. cmp x w ≡ Less) (sym e) a.0
  below x y (z ∷ zs) a (inr k) = below x y zs a.1 k

  never : (x y : X) → cmp x y ≡ Less → cmp y x ≡ Less → ⊥
  never x y a b = differ (sym a ∙ total.antisymm x y ∙ ap ordering_reverse b)
    where
      differ : Less ≡ Greater → ⊥
      differ e = cc

  heads : (x y : X) (xs ys : List X) → Below x xs → Below y ys → Among x (y ∷ ys) → Among y (x ∷ xs) → x ≡ y
  heads x y xs ys a b (inl e) k = e
  heads x y xs ys a b (inr j) (inl e) = sym e
  heads x y xs ys a b (inr j) (inr k) = absurd (never x y (below x y xs a k) (below y x ys b j))

  -- what is above x is not x
  tail : (x z y : X) (ys : List X) → x ≡ y → cmp x z ≡ Less → Among z (y ∷ ys) → Among z ys
  tail x z y ys same a (inl e) = let own : cmp x x ≡ Less = subst (λ w. cmp x w ≡ Less) (e ∙ sym same) a in absurd (never x x own own)
  tail x z y ys same a (inr k) = k

  one_list : (xs ys : List X) → IsStrictlySortedBy cmp xs → IsStrictlySortedBy cmp ys
      → ((x : X) → Among x xs → Among x ys) → ((x : X) → Among x ys → Among x xs) → xs ≡ ys
  unfolding IsStrictlySortedBy
  one_list [] [] r s f g = refl
  one_list [] (y ∷ ys) r s f g = absurd (g y (inl refl))
  one_list (x ∷ xs) [] r s f g = absurd (f x (inl refl))
  one_list (x ∷ xs) (y ∷ ys) r s f g =
      let same : x ≡ y = heads x y xs ys r.0 s.0 (f x (inl refl)) (g y (inl refl)) in
      λ i. same i ∷ one_list xs ys r.1 s.1 (λ z k. tail x z y ys same (below x z xs r.0 k) (f z (inr k))) (λ z k. tail y z x xs (sym same) (below y z ys s.0 k) (g z (inr k))) i

-- ---- the date of a key

abbrev same_key : Dated → Dated → Bool
same_key d e = key_eq d.0 e.0

date_is_among : (ds : List Dated) (key : ChatKey) (date : Option ℕ) → date_at ds key ≡ Some date → Among (key, date) ds
date_is_among [] key date h = cc
date_is_among (d ∷ ds) key date h =
    elim (key_eq key d.0) as (λ b. key_eq key d.0 ≡ b → option_map (λ d. d.1) (cond b (Some d) (find (λ d. key_eq key d.0) ds)) ≡ Some date → Among (key, date) (d ∷ ds)) [
      | true ↦ λ e k. inl (both (key_same key d.0 e) (same k))
      | false ↦ λ e k. inr (date_is_among ds key date k)
    ] refl h
  where
    same : Some d.1 ≡ Some date → d.1 ≡ date
    same e = cc

    both : key ≡ d.0 → d.1 ≡ date → (key, date) ≡ d
    both e k = λ i. (e i, sym k i)

among_all : {X : Type 0} (P : X → Type 0) (xs : List X) → AllByRecursion P xs → (x : X) → Among x xs → P x
among_all P [] a x k = absurd k
among_all P (y ∷ ys) a x (inl e) = subst P (sym e) a.0
among_all P (y ∷ ys) a x (inr k) = among_all P ys a.1 x k

among_is_dated : (ds : List Dated) → IsDistinct same_key ds → (d : Dated) → Among d ds → date_at ds d.0 ≡ Some d.1
unfolding IsDistinct
among_is_dated [] once d k = absurd k
among_is_dated (e ∷ ds) once d (inl is) =
    subst (λ o. option_map (λ d. d.1) (find (λ f. key_eq o.0 f.0) (e ∷ ds)) ≡ Some o.1) (sym is) (rw (key_self e.0, find) refl)
among_is_dated (e ∷ ds) once d (inr k) =
    rw (key_turn d.0 e.0 ∙ among_all (λ f. key_eq e.0 f.0 ≡ false) ds once.0 d k, find) (among_is_dated ds once.1 d k)

-- ---- the rows

abbrev dated : ListRow → Dated
dated r = (r.key, r.time)

dates_total : IsTotalOrder dated_cmp
dates_total =
    then_total (on_total (λ (d : Dated). d.1) (back_total (options_total nat_cmp_total))) (on_total (λ (d : Dated). d.0) keys_total)

sorted_dates : (rows : List ListRow) → IsStrictlySortedBy list_cmp rows → IsStrictlySortedBy dated_cmp (map dated rows)
unfolding IsStrictlySortedBy
sorted_dates [] s = tt
sorted_dates (r ∷ rs) s = (others rs s.0, sorted_dates rs s.1)
  where
    others : (qs : List ListRow) → AllByRecursion (λ q. list_cmp r q ≡ Less) qs → AllByRecursion (λ d. dated_cmp (dated r) d ≡ Less) (map dated qs)
    others [] a = tt
    others (q ∷ qs) a = (a.0, others qs a.1)

sum_by-map : {X Y : Type 0} (f : Y → ℕ) (g : X → Y) (xs : List X) → sum_by f (map g xs) ≡ sum_by (λ x. f (g x)) xs
sum_by-map f g [] = refl
sum_by-map f g (x ∷ xs) = omega (arith, sum_by-cons f (g x) (map g xs), sum_by-cons (λ y. f (g y)) x xs, sum_by-map f g xs)

module _ (m : Mailbox) where
  each_row : (ks : List ChatKey) → AllByRecursion (λ r. r ≡ list_row m r.key) (map (list_row m) ks)
  each_row [] = tt
  each_row (k ∷ ks) = (refl, each_row ks)

  all_rows : AllByRecursion (λ r. r ≡ list_row m r.key) (list_page m).rows
  all_rows =
      recursion_from_All (λ r. r ≡ list_row m r.key) (list_page m).rows (All-permutation (λ r. r ≡ list_row m r.key) (map (list_row m) (keys m)) (list_page m).rows (rows_all m) (All-from_recursion (λ r. r ≡ list_row m r.key) (map (list_row m) (keys m)) (each_row (keys m))))

  made_again : (rows : List ListRow) → AllByRecursion (λ r. r ≡ list_row m r.key) rows → rows ≡ map (list_row m) (map (λ r. r.key) rows)
  made_again [] a = refl
  made_again (r ∷ rs) a = λ i. a.0 i ∷ made_again rs a.1 i

  -- a row with its date is there where its key is
  key_is_among : (rows : List ListRow) → AllByRecursion (λ r. r ≡ list_row m r.key) rows → (key : ChatKey)
      → list_any (λ r. key_eq key r.key) rows ≡ true → Among (dated (list_row m key)) (map dated rows)
  key_is_among [] a key h = absurd (false≢true h)
  key_is_among (r ∷ rs) a key h =
      elim (key_eq key r.key) as (λ b. key_eq key r.key ≡ b → (b || list_any (λ r. key_eq key r.key) rs) ≡ true → Among (dated (list_row m key)) (map dated (r ∷ rs))) [
        | true ↦ λ e k. inl (ap (λ k. dated (list_row m k)) (key_same key r.key e) ∙ sym (ap dated a.0))
        | false ↦ λ e k. inr (key_is_among rs a.1 key k)
      ] refl h

  or_true : (b : Bool) → (b || true) ≡ true
  or_true true = refl
  or_true false = refl

  among_is_key : (rows : List ListRow) → AllByRecursion (λ r. r ≡ list_row m r.key) rows → (d : Dated) → Among d (map dated rows)
      → (list_any (λ r. key_eq d.0 r.key) rows ≡ true) × (d ≡ dated (list_row m d.0))
  among_is_key [] a d k = absurd k
  among_is_key (r ∷ rs) a d (inl e) =
      subst (λ o. (list_any (λ r. key_eq o.0 r.key) (r ∷ rs) ≡ true) × (o ≡ dated (list_row m o.0))) (sym e)
      (ap (λ b. b || list_any (λ q. key_eq r.key q.key) rs) (key_self r.key), ap dated a.0)
  among_is_key (r ∷ rs) a d (inr k) =
      let rest = among_is_key rs a.1 d k in
      (ap (λ b. key_eq d.0 r.key || b) rest.0 ∙ or_true (key_eq d.0 r.key), rest.1)

  module _ (chats : map_of.FinMap key_cmp ChatState) (order : List Dated) (states : AreStates m (present m) chats) (dates : AreDated chats order)
      (sorted : IsStrictlySortedBy dated_cmp order) (once : IsDistinct same_key order) where
    abbrev rows : List ListRow
    rows = (list_page m).rows

    time_of : (key : ChatKey) (s : ChatState) → map_of.get chats key ≡ Some s → last_date s ≡ (list_row m key).time
    time_of key s h = ap last_date (state_from m key (map_of.get chats key) (states key) s h) ∙ sym (time_is m key)

    there : (d : Dated) → Among d order → Among d (map dated rows)
    there d k = by (map_of.get chats d.0) refl (sym (dates d.0) ∙ among_is_dated order once d k)
      where
        by : (o : Option ChatState) → map_of.get chats d.0 ≡ o → option_map last_date o ≡ Some d.1 → Among d (map dated rows)
        by None e h = cc
        by (Some s) e h =
            let any : list_any (λ r. key_eq d.0 r.key) rows ≡ true = rows_are m d.0 ∙ sym (some_from m d.0 (map_of.get chats d.0) (states d.0)) ∙ ap is_some e in
            let date : last_date s ≡ d.1 = same h in
            subst (λ time. Among (d.0, time) (map dated rows)) (sym (time_of d.0 s e) ∙ date) (key_is_among rows all_rows d.0 any)
          where
            same : Some (last_date s) ≡ Some d.1 → last_date s ≡ d.1
            same e = cc

    back : (d : Dated) → Among d (map dated rows) → Among d order
    back d k = by (map_of.get chats d.0) refl
      where
        own : (list_any (λ r. key_eq d.0 r.key) rows ≡ true) × (d ≡ dated (list_row m d.0))
        own = among_is_key rows all_rows d k

        by : (o : Option ChatState) → map_of.get chats d.0 ≡ o → Among d order
        by None e = absurd (false≢true (sym (ap is_some e) ∙ some_from m d.0 (map_of.get chats d.0) (states d.0) ∙ sym (rows_are m d.0) ∙ own.0))
        by (Some s) e =
            date_is_among order d.0 d.1 (dates d.0 ∙ ap (option_map last_date) e ∙ ap Some (time_of d.0 s e ∙ sym (ap (λ o. o.1) own.1)))

    order_is : order ≡ map dated rows
    order_is = one_list dated_cmp dates_total order (map dated rows) sorted (sorted_dates rows (rows_sorted m)) there back

    keys_of : (rs : List ListRow) → map (λ d. d.0) (map dated rs) ≡ map (λ r. r.key) rs
    keys_of [] = refl
    keys_of (r ∷ rs) = ap (λ ks. r.key ∷ ks) (keys_of rs)

    keys_in_order : map (λ d. d.0) order ≡ map (λ r. r.key) rows
    keys_in_order = ap (map (λ d. d.0)) order_is ∙ keys_of rows

    pub rows_in_order : map (list_row m) (map (λ d. d.0) order) ≡ rows
    rows_in_order = ap (map (list_row m)) keys_in_order ∙ sym (made_again rows all_rows)

    pub cost_in_order : sum_by (chat_cost m) (map (λ d. d.0) order) ≡ list_cost m
    cost_in_order =
        ap (sum_by (chat_cost m)) keys_in_order ∙ sum_by-map (chat_cost m) (λ r. r.key) rows
        ∙ sum_by-IsPermutation (λ r. chat_cost m r.key) (map (list_row m) (keys m)) rows (rows_all m)
        ∙ sum_by-map (λ r. chat_cost m r.key) (list_row m) (keys m)

-- a chat in the order has a state
module _ (chats : map_of.FinMap key_cmp ChatState) (order : List Dated) (dates : AreDated chats order) where
  date_there : (ds : List Dated) → AllByRecursion (λ key. is_some (date_at ds key) ≡ true) (map (λ d. d.0) ds)
  date_there [] = tt
  date_there (d ∷ ds) = (rw (key_self d.0, find) refl, further (map (λ d. d.0) ds) (date_there ds))
    where
      further : (ks : List ChatKey) → AllByRecursion (λ key. is_some (date_at ds key) ≡ true) ks → AllByRecursion (λ key. is_some (date_at (d ∷ ds) key) ≡ true) ks
      further [] a = tt
      further (k ∷ ks) a =
          (elim (key_eq k d.0) as (λ b. is_some (option_map (λ d. d.1) (cond b (Some d) (find (λ d. key_eq k d.0) ds))) ≡ true) [ true ↦ refl | false ↦ a.0 ], further ks a.1)

  pub each_in_order : AllByRecursion (λ key. is_some (map_of.get chats key) ≡ true) (map (λ d. d.0) order)
  each_in_order = turned (map (λ d. d.0) order) (date_there order)
    where
      mapped : (o : Option ChatState) → is_some (option_map last_date o) ≡ is_some o
      mapped None = refl
      mapped (Some s) = refl

      turned : (ks : List ChatKey) → AllByRecursion (λ key. is_some (date_at order key) ≡ true) ks → AllByRecursion (λ key. is_some (map_of.get chats key) ≡ true) ks
      turned [] a = tt
      turned (k ∷ ks) a = (sym (mapped (map_of.get chats k)) ∙ sym (ap is_some (dates k)) ∙ a.0, turned ks a.1)
