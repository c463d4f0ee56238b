-- The rows of a chat, from the spots that its state keeps.
use Rattle.std.proofs.Common.{Bor, ◌≡◌, refl, sym, ap, ◌∙◌, subst, ◌+◌, ◌≤◌, true, false, cond, Option, Some, None, List, [], ◌∷◌, length, map, arith}
use Rattle.std.specs.Prelude.{if◌then◌else◌, filter, filter_map, is_some, sum_by, nat_lt, IfSome}
use Rattle.std.specs.FinMap as map_of
use Rattle.std.specs.List.{AllByRecursion, cons_option}
use Rattle.std.specs.Option.{option_copied, option_map, option_map_or, option_and_then, option_or}
use Rattle.std.proofs.lemmas.Bool.{false≢true}
use Rattle.std.proofs.lemmas.List.{length-map}
use Rattle.std.proofs.lemmas.List.Elements.{filter_passes, recursion_from_All}
use Rattle.std.proofs.lemmas.List.Sums.{sum_by-cons}
use Rattle.lists.proofs.Inserts.{All-filter}
use Rattle.card_type.specs.declared.key.ChatKey.{ChatKey}
use Rattle.card_type.specs.declared.spot.Spot.{Spot}
use Rattle.card_type.specs.Keys.{key_cmp}
use Rattle.card_type.specs.Kinds.{has_some, is_content, kind_of}
use Rattle.mailbox_model.specs.declared.row.Row.{Row}
use Rattle.mailbox_model.specs.Chats.{chat, chat_mails, is_chat}
use Rattle.mailbox_model.specs.Lists.{last_of}
use Rattle.mailbox_model.specs.Mailbox.{Mailbox, IsMailbox}
use Rattle.mailbox_model.specs.Pages.{page, page_of}
use Rattle.mailbox_model.specs.Present.{Mail, contents, mail_at, present, spot}
use Rattle.mailbox_model.specs.Rows.{row}
use Rattle.mailbox_model.specs.States.{Shown, last_spot, shown_as}
use Rattle.mailbox_model.proofs.ListLaws.{keys_are}
use Rattle.chat_view.specs.declared.state.ChatState.{ChatState}
use Rattle.chat_view.specs.Parts.{state}
use Rattle.indexes.specs.Costs.{page_cost, pairs, row_cost, times_named}
use Rattle.indexes.specs.Kept.{AreStates, spot_at, state_among}
use Rattle.indexes.proofs.Mails.{IsPresent, each_present}
use Rattle.indexes.proofs.Making.{mail_there}

-- what all are, the last one is
last_in : {X : Type 0} (P : X → Type 0) (xs : List X) → AllByRecursion P xs → (x : X) → last_of xs ≡ Some x → P x
last_in P [] a x h = cc
last_in {X} P (y ∷ ys) a x h = by (last_of ys) refl (last_in P ys a.1 x) h
  where
    same : Some y ≡ Some x → y ≡ x
    same e = cc

    by : (o : Option X) → last_of ys ≡ o → (last_of ys ≡ Some x → P x) → option_or o (Some y) ≡ Some x → P x
    by None k further h = subst P (same h) a.0
    by (Some z) k further h = further (k ∙ h)

module _ (m : Mailbox) where
  abbrev at : Mail → Spot
  at t = spot t.placed

  -- the row of the card at a spot
  abbrev pub row_there : Spot → Option Row
  row_there s = option_and_then (row m) (mail_at m s.uid)

  pub one_row : (s : Spot) → spot_at m s.uid ≡ Some s → (shown : Option Row) → ((t : Mail) → mail_at m s.uid ≡ Some t → shown ≡ row m t)
      → shown ≡ row_there s
  one_row s h shown f =
      let t = mail_there m s.uid s h in
      f t.0 t.1 ∙ sym (ap (option_and_then (row m)) t.1)

  -- the last of these that is shown
  abbrev last : List Mail → Option Mail
  last ts = last_of (filter (λ t. is_some (row m t)) ts)

  -- ---- all of them

  pub spots_there : (ts : List Mail) → AllByRecursion (IsPresent m) ts → AllByRecursion (λ s. spot_at m s.uid ≡ Some s) (map at ts)
  spots_there [] a = tt
  spots_there (t ∷ ts) a = (ap (option_map at) a.0.mail, spots_there ts a.1)

  pub rows_there : (ts : List Mail) → AllByRecursion (IsPresent m) ts → filter_map row_there (map at ts) ≡ filter_map (row m) ts
  rows_there [] a = refl
  rows_there (t ∷ ts) a = λ i. cons_option (option_and_then (row m) (a.0.mail i)) (rows_there ts a.1 i)

  spots_are : (ts : List Mail) → map (λ (c : Shown). c.spot) (map (shown_as m) ts) ≡ map at ts
  spots_are [] = refl
  spots_are (t ∷ ts) = ap (λ spots. at t ∷ spots) (spots_are ts)

  rows_cost : (ts : List Mail) → sum_by (λ s. 1 + times_named m s.id) (map at ts) ≤ length ts + pairs m ts
  rows_cost [] = omega arith
  rows_cost (t ∷ ts) =
      omega (arith, sum_by-cons (λ s. 1 + times_named m s.id) (at t) (map at ts), sum_by-cons (λ u. times_named m u.placed.card.id) t ts, rows_cost ts)

  -- ---- the last one

  abbrev with_mark : Mail → Option Row → Shown
  with_mark t r = record { spot = at t; card = t.placed.card; mark = option_map (λ r. r.mark) r }

  last_spot_is : (ts : List Mail) → last_spot (map (shown_as m) ts) ≡ option_map at (last ts)
  last_spot_is [] = refl
  last_spot_is (t ∷ ts) = by (row m t) (last_spot_is ts)
    where
      kept : List Shown
      kept = filter (λ c. is_some c.mark) (map (shown_as m) ts)

      shown : List Mail
      shown = filter (λ u. is_some (row m u)) ts

      either : (a : Option Shown) (b : Option Mail) → option_map (λ c. c.spot) a ≡ option_map at b → (r : Row)
          → option_map (λ c. c.spot) (option_or a (Some (with_mark t (Some r)))) ≡ option_map at (option_or b (Some t))
      either None None h r = refl
      either None (Some u) h r = cc
      either (Some c) None h r = cc
      either (Some c) (Some u) h r = h

      by : (o : Option Row) → option_map (λ c. c.spot) (last_of kept) ≡ option_map at (last_of shown)
          → option_map (λ c. c.spot) (last_of (cond (is_some (with_mark t o).mark) (with_mark t o ∷ kept) kept)) ≡ option_map at (last_of (cond (is_some o) (t ∷ shown) shown))
      by None h = h
      by (Some r) h = either (last_of kept) (last_of shown) h r

  last_is_shown : (ts : List Mail) (t : Mail) → last ts ≡ Some t → is_some (row m t) ≡ true
  last_is_shown ts t h =
      let shown = filter (λ u. is_some (row m u)) ts in
      last_in (λ u. is_some (row m u) ≡ true) shown (recursion_from_All (λ u. is_some (row m u) ≡ true) shown (filter_passes (λ u. is_some (row m u)) ts)) t h

  last_row_is : (ts : List Mail) → last_of (filter_map (row m) ts) ≡ option_and_then (row m) (last ts)
  last_row_is [] = refl
  last_row_is (t ∷ ts) = by (row m t) refl (last_row_is ts)
    where
      shown : List Mail
      shown = filter (λ u. is_some (row m u)) ts

      either : (r : Row) → row m t ≡ Some r → (b : Option Mail) → last ts ≡ b → (a : Option Row) → a ≡ option_and_then (row m) b
          → option_or a (Some r) ≡ option_and_then (row m) (option_or b (Some t))
      either r e None k None h = sym e
      either r e None k (Some x) h = cc
      either r e (Some u) k None h = absurd (false≢true (ap is_some h ∙ last_is_shown ts u k))
      either r e (Some u) k (Some x) h = h

      by : (o : Option Row) → row m t ≡ o → last_of (filter_map (row m) ts) ≡ option_and_then (row m) (last_of shown)
          → last_of (cons_option o (filter_map (row m) ts)) ≡ option_and_then (row m) (last_of (cond (is_some o) (t ∷ shown) shown))
      by None e h = h
      by (Some r) e h = either r e (last_of shown) refl (last_of (filter_map (row m) ts)) h

  last_is_present : (ts : List Mail) → AllByRecursion (IsPresent m) ts → (t : Mail) → last ts ≡ Some t → IsPresent m t
  last_is_present ts a t h =
      let shown = filter (λ u. is_some (row m u)) ts in
      last_in (IsPresent m) shown (All-filter (IsPresent m) (λ u. is_some (row m u)) ts a) t h

  pub last_there : (ts : List Mail) → AllByRecursion (IsPresent m) ts → IfSome (last_spot (map (shown_as m) ts)) (λ s. spot_at m s.uid ≡ Some s)
  last_there ts a = subst (λ o. IfSome o (λ s. spot_at m s.uid ≡ Some s)) (sym (last_spot_is ts)) (by (last ts) refl)
    where
      by : (o : Option Mail) → last ts ≡ o → IfSome (option_map at o) (λ s. spot_at m s.uid ≡ Some s)
      by None k = tt
      by (Some t) k = ap (option_map at) (last_is_present ts a t k).mail

  pub last_row : (ts : List Mail) → AllByRecursion (IsPresent m) ts
      → option_and_then row_there (last_spot (map (shown_as m) ts)) ≡ last_of (filter_map (row m) ts)
  last_row ts a = ap (option_and_then row_there) (last_spot_is ts) ∙ by (last ts) refl ∙ sym (last_row_is ts)
    where
      by : (o : Option Mail) → last ts ≡ o → option_and_then row_there (option_map at o) ≡ option_and_then (row m) o
      by None k = refl
      by (Some t) k = ap (option_and_then (row m)) (last_is_present ts a t k).mail

  pub last_cost : (ts : List Mail)
      → option_map_or (λ s. 1 + times_named m s.id) (last_spot (map (shown_as m) ts)) 0 ≤ option_map_or (λ t. row_cost m t.placed.card.id) (last ts) 0
  last_cost ts =
      subst (λ o. option_map_or (λ s. 1 + times_named m s.id) o 0 ≤ option_map_or (λ t. row_cost m t.placed.card.id) (last ts) 0) (sym (last_spot_is ts)) (by (last ts))
    where
      by : (o : Option Mail) → option_map_or (λ s. 1 + times_named m s.id) (option_map at o) 0 ≤ option_map_or (λ t. row_cost m t.placed.card.id) o 0
      by None = omega arith
      by (Some t) = omega arith

  -- ---- of a chat

  pub all_there : IsMailbox m → (key : ChatKey) → AllByRecursion (IsPresent m) (chat_mails m key)
  all_there rules key =
      All-filter (IsPresent m) (λ t. is_chat key (chat m t.placed.card.id)) (contents m) (All-filter (IsPresent m) (λ t. is_content (kind_of t.placed.card)) (present m) (each_present m rules))

  pub spots_of : (key : ChatKey) (s : ChatState) → s ≡ state m key → s.spots ≡ map at (chat_mails m key)
  spots_of key s same = ap (λ s. s.spots) same ∙ spots_are (chat_mails m key)

  -- the rows are made within the cost of the page
  pub spots_cost : (key : ChatKey) (spots : List Spot) → spots ≡ map at (chat_mails m key)
      → sum_by (λ s. 1 + times_named m s.id) spots ≤ page_cost m key
  spots_cost key spots are =
      subst (λ ss. sum_by (λ s. 1 + times_named m s.id) ss ≤ page_cost m key) (sym are) (omega (arith, rows_cost (chat_mails m key)))

  some_cards : (ts : List Mail) → has_some (map (shown_as m) ts) ≡ has_some ts
  some_cards ts = ap (nat_lt 0) (length-map ts (shown_as m))

  -- where a chat has a state it has a page
  module _ (key : ChatKey) (o : Option ChatState) (is : o ≡ state_among m (present m) key) where
    pub page_from : option_map (λ s. page_of m key) o ≡ page m key
    page_from =
        ap (option_map (λ s. page_of m key)) is
        ∙ elim (has_some (map (shown_as m) (chat_mails m key))) as (λ b. option_map (λ (s : ChatState). page_of m key) (if b then Some (state m key) else None) ≡ (if b then Some (page_of m key) else None)) [ true ↦ refl | false ↦ refl ]
        ∙ ap (λ b. if b then Some (page_of m key) else None) (some_cards (chat_mails m key) ∙ sym (keys_are m key))

    pub state_from : (s : ChatState) → o ≡ Some s → s ≡ state m key
    state_from s h =
        elim (has_some (map (shown_as m) (chat_mails m key))) as (λ b. Some s ≡ (if b then Some (state m key) else None) → s ≡ state m key) [
          | true ↦ λ e. cc
          | false ↦ λ e. cc
        ] (sym h ∙ is)

    pub some_from : is_some o ≡ has_some (chat_mails m key)
    some_from =
        ap is_some is
        ∙ elim (has_some (map (shown_as m) (chat_mails m key))) as (λ b. is_some (if b then Some (state m key) else None) ≡ b) [ true ↦ refl | false ↦ refl ]
        ∙ some_cards (chat_mails m key)

  -- the state that is lent under a key is that of its chat
  pub kept_state : (chats : map_of.FinMap key_cmp ChatState) → AreStates m (present m) chats → (key : ChatKey)
      → (o : Option (Bor ChatState)) (b : Bor ChatState) → option_copied o ≡ map_of.get chats key → o ≡ Some b → b.now ≡ state m key
  kept_state chats states key o b got is = state_from key (map_of.get chats key) (states key) b.now (sym got ∙ ap option_copied is)
