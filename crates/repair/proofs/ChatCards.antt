-- The cards of a chat of a mailbox are in mail order, and have each its id.
use Rattle.std.proofs.Common.{◌≡◌, refl, sym, ap, ◌∙◌, subst, Bool, true, false, cond, Option, Some, None, List, [], ◌∷◌, map}
use Rattle.std.specs.Prelude.{filter, find, if◌then◌else◌}
use Rattle.std.specs.List.{AllByRecursion, IsDistinct}
use Rattle.std.specs.List.Sorted.{IsStrictlySortedBy}
use Rattle.std.specs.Option.{option_map, option_to_list}
use Rattle.std.specs.Ordering.{on}
use Rattle.std.specs.declared.cmp.Ordering.{Ordering}
use Rattle.std.specs.declared.cmp.Ordering.TheVariants.{Less}
use Rattle.std.specs.Str.{bytes_eq}
use Rattle.std.specs.Cmp.Lexicographic.{bytes_decides}
use Rattle.std.proofs.lemmas.List.Kept.{IsStrictlySortedBy-filter}
use Rattle.lists.proofs.DistinctLaws.{IsDistinct-filter}
use Rattle.card_type.specs.declared.key.ChatKey.{ChatKey}
use Rattle.card_type.specs.Spots.{spot_cmp}
use Rattle.mailbox_model.specs.Lists.{Bytes}
use Rattle.mailbox_model.specs.Mailbox.{Mailbox, IsMailbox}
use Rattle.mailbox_model.specs.Present.{Mail, mail_cmp, has_id, same_id, spot, contents, present}
use Rattle.mailbox_model.specs.Chats.{chat, chat_mails, is_chat}
use Rattle.mailbox_model.specs.States.{chat_cards, shown_as}
use Rattle.mailbox_model.proofs.PresentLaws.{present_once, present_sorted}
use Rattle.chat_states.specs.Families.{AreCardsOf}
use Rattle.touched_chats.proofs.Near.{is_content_mail}
use Rattle.touched_chats.proofs.Lists.{filter-map}
use Rattle.repair.specs.Cards.{card_in, content_at}

-- ---- in order

mapped_order : {X Y : Type 0} (cmp : Y → Y → Ordering) (f : X → Y) (xs : List X) → IsStrictlySortedBy (on f cmp) xs → IsStrictlySortedBy cmp (map f xs)
unfolding IsStrictlySortedBy
mapped_order cmp f [] h = tt
mapped_order {X} cmp f (x ∷ xs) h = (each xs h.0, mapped_order cmp f xs h.1)
  where
    each : (ys : List X) → AllByRecursion (λ y. on f cmp x y ≡ Less) ys → AllByRecursion (λ y. cmp (f x) y ≡ Less) (map f ys)
    each [] a = tt
    each (y ∷ ys) a = (a.0, each ys a.1)

-- ---- of each id one

none_alike : (id : Bytes) (t : Mail) (ts : List Mail) → bytes_eq id t.placed.card.id ≡ true → AllByRecursion (λ u. same_id t u ≡ false) ts
    → filter (has_id id) ts ≡ []
none_alike id t [] e a = refl
none_alike id t (u ∷ us) e a =
    let own : id ≡ t.placed.card.id = (bytes_decides id t.placed.card.id).0 e in
    rw (ap (λ i. bytes_eq i u.placed.card.id) own ∙ a.0) (none_alike id t us e a.1)

-- the only one with an id is the one that is found
one_by_id : (id : Bytes) (ts : List Mail) → IsDistinct same_id ts → filter (has_id id) ts ≡ option_to_list (find (has_id id) ts)
unfolding IsDistinct
one_by_id id [] d = refl
one_by_id id (t ∷ ts) d =
    elim (has_id id t) as (λ b. has_id id t ≡ b → cond b (t ∷ filter (has_id id) ts) (filter (has_id id) ts) ≡ option_to_list (cond b (Some t) (find (has_id id) ts))) [
      | true ↦ λ e. ap (λ us. t ∷ us) (none_alike id t ts e d.0)
      | false ↦ λ e. one_by_id id ts d.1
    ] refl

-- where a test asks the id alone
find_by_id : (q : Bytes → Bool) (id : Bytes) (ts : List Mail) → find (has_id id) (filter (λ t. q t.placed.card.id) ts) ≡ (if q id then find (has_id id) ts else None)
find_by_id q id [] = by (q id)
  where
    by : (b : Bool) → find (has_id id) [] ≡ (if b then find (has_id id) [] else None)
    by true = refl
    by false = refl
find_by_id q id (t ∷ ts) = by (has_id id t) refl (find_by_id q id ts)
  where
    rest : List Mail
    rest = filter (λ u. q u.placed.card.id) ts

    by : (b : Bool) → has_id id t ≡ b → find (has_id id) rest ≡ (if q id then find (has_id id) ts else None)
        → find (has_id id) (cond (q t.placed.card.id) (t ∷ rest) rest) ≡ (if q id then cond b (Some t) (find (has_id id) ts) else None)
    by true e more = here (q t.placed.card.id) refl
      where
        same : q id ≡ q t.placed.card.id
        same = ap q ((bytes_decides id t.placed.card.id).0 e)

        here : (c : Bool) → q t.placed.card.id ≡ c → find (has_id id) (cond c (t ∷ rest) rest) ≡ (if q id then Some t else None)
        here true k = rw e (rw (same ∙ k) refl)
        here false k = more ∙ rw (same ∙ k) refl
    by false e more = here (q t.placed.card.id)
      where
        here : (c : Bool) → find (has_id id) (cond c (t ∷ rest) rest) ≡ (if q id then find (has_id id) ts else None)
        here true = rw e more
        here false = more

-- ---- of a chat

module _ (m : Mailbox) (rules : IsMailbox m) (key : ChatKey) where
  sorted : IsStrictlySortedBy mail_cmp (chat_mails m key)
  sorted =
      IsStrictlySortedBy-filter mail_cmp (λ t. is_chat key (chat m t.placed.card.id)) (contents m)
      (IsStrictlySortedBy-filter mail_cmp is_content_mail (present m) (present_sorted m rules.uids))

  distinct : IsDistinct same_id (chat_mails m key)
  distinct =
      IsDistinct-filter same_id (λ t. is_chat key (chat m t.placed.card.id)) (contents m)
      (IsDistinct-filter same_id is_content_mail (present m) (present_once m))

  each_by_id : (id : Bytes) → filter (λ c. bytes_eq id c.spot.id) (chat_cards m key) ≡ option_to_list (card_in m key id)
  each_by_id id =
      filter-map (λ c. bytes_eq id c.spot.id) (shown_as m) (chat_mails m key)
      ∙ ap (map (shown_as m)) (one_by_id id (chat_mails m key) distinct ∙ ap option_to_list (find_by_id (λ i. is_chat key (chat m i)) id (contents m)))
      ∙ one (is_chat key (chat m id)) (content_at m id)
    where
      one : (b : Bool) (o : Option Mail) → map (shown_as m) (option_to_list (if b then o else None)) ≡ option_to_list (if b then option_map (shown_as m) o else None)
      one true None = refl
      one true (Some t) = refl
      one false o = refl

  -- the cards of a chat are those that have it
  pub cards_of_chat : AreCardsOf (card_in m key) (chat_cards m key)
  cards_of_chat = record { order = order; each = each_by_id }
    where
      spots_map : (ts : List Mail) → map (λ c. c.spot) (map (shown_as m) ts) ≡ map (λ t. spot t.placed) ts
      spots_map [] = refl
      spots_map (t ∷ ts) = ap (λ ss. spot t.placed ∷ ss) (spots_map ts)

      order : IsStrictlySortedBy spot_cmp (map (λ c. c.spot) (chat_cards m key))
      order = subst (IsStrictlySortedBy spot_cmp) (sym (spots_map (chat_mails m key))) (mapped_order spot_cmp (λ t. spot t.placed) (chat_mails m key) sorted)
