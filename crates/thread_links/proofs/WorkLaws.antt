-- The chats while a list of work is worked off, first to last: each card that is not on the list keeps the rule.
use Rattle.std.proofs.Common.{◌≡◌, refl, sym, ap, ◌∙◌, subst, Bool, true, false, ◌||◌, cond, Option, Some, None, List, [], ◌∷◌, ◌++◌, ◌⊎◌, inl, inr, append_assoc, append-nil}
use Rattle.std.specs.Prelude.{if◌then◌else◌}
use Rattle.std.specs.List.{find, AllByRecursion, cons_option}
use Rattle.std.specs.Option.{option_and_then, option_eq}
use Rattle.std.specs.Str.{bytes_eq}
use Rattle.std.specs.Cmp.Lexicographic.{bytes_decides}
use Rattle.std.proofs.lemmas.Bool.{both_ways, cases_Bool, or_parts, or_from}
use Rattle.std.proofs.lemmas.List.Elements.{filter_map-append}
use Rattle.lists.proofs.Inserts.{found_passes}
use Rattle.card_type.specs.declared.key.ChatKey.{ChatKey}
use Rattle.card_type.specs.declared.spot.Spot.{Spot}
use Rattle.card_type.specs.Effects.{is_among}
use Rattle.card_type.specs.Keys.{key_eq}
use Rattle.mailbox_model.specs.declared.links.Cites.{Cites}
use Rattle.mailbox_model.specs.Lists.{Bytes}
use Rattle.mailbox_model.specs.Chats.{chat_from, is_id_among, parent_among, DistinctIds, chat_among, moved}
use Rattle.thread_links.specs.Work.{Chats, KeepRuleBut, moves_to}
use Rattle.mailbox_model.proofs.ChatLaws.{chat_by_parent}
use Rattle.mailbox_model.proofs.MailLaws.{bytes_turn}
use Rattle.mailbox_model.proofs.ListLaws.{key_self as key_alike}

-- ---- what holds of each

pub all_append : {X : Type 0} (P : X → Type 0) (xs ys : List X) → AllByRecursion P xs → AllByRecursion P ys → AllByRecursion P (xs ++ ys)
all_append P [] ys a b = b
all_append P (x ∷ xs) ys a b = (a.0, all_append P xs ys a.1 b)

pub all_right : {X : Type 0} (P : X → Type 0) (xs ys : List X) → AllByRecursion P (xs ++ ys) → AllByRecursion P ys
all_right P [] ys a = a
all_right P (x ∷ xs) ys a = all_right P xs ys a.1

pub all_by : {X : Type 0} (P Q : X → Type 0) → ((x : X) → P x → Q x) → (xs : List X) → AllByRecursion P xs → AllByRecursion Q xs
all_by P Q h [] a = tt
all_by P Q h (x ∷ xs) a = (h x a.0, all_by P Q h xs a.1)

pub all_both : {X : Type 0} (P Q R : X → Type 0) → ((x : X) → P x → Q x → R x) → (xs : List X) → AllByRecursion P xs → AllByRecursion Q xs → AllByRecursion R xs
all_both P Q R h [] a b = tt
all_both P Q R h (x ∷ xs) a b = (h x a.0 b.0, all_both P Q R h xs a.1 b.1)

-- ---- the rule, but for the cards that are on a list

-- the chats of cards keep it with any list
pub chats_keep_but : (pending : Spot → Bool) (all earlier ts : List Cites) → all ≡ earlier ++ ts → DistinctIds all → KeepRuleBut (chat_among all) pending earlier ts
chats_keep_but pending all earlier [] e d = tt
chats_keep_but pending all earlier (t ∷ ts) e d = (
  λ _. subst (λ us. chat_among us t.spot.id ≡ Some (chat_from t (option_and_then (chat_among us) (parent_among earlier t)))) (sym e) (chat_by_parent earlier t ts (subst DistinctIds e d)),
  chats_keep_but pending all (earlier ++ t ∷ []) ts (e ∙ sym (append_assoc earlier (t ∷ []) ts)) d,
)

-- what is found is in the list
pub find_in : (p : Bytes → Bool) (ids : List Bytes) (id : Bytes) → find p ids ≡ Some id → is_among ids id ≡ true
find_in p [] id h = cc
find_in p (c ∷ ids) id h =
    elim (p c) as (λ b. cond b (Some c) (find p ids) ≡ Some id → (bytes_eq id c || is_among ids id) ≡ true) [
      | true ↦ λ k. let same : id ≡ c = cc in let e : bytes_eq id c ≡ true = (bytes_decides id c).1 same in rw e refl
      | false ↦ λ k. rw (find_in p ids id k) (or_true (bytes_eq id c))
    ] h
  where
    or_true : (b : Bool) → (b || true) ≡ true
    or_true true = refl
    or_true false = refl

-- two families that agree at the id that is found, if any
pub same_found : (f g : Chats) (o : Option Bytes) → ((p : Bytes) → o ≡ Some p → g p ≡ f p) → option_and_then f o ≡ option_and_then g o
same_found f g None h = refl
same_found f g (Some p) h = sym (h p refl)

module _ (f g : Chats) (x : Cites) (others : (id : Bytes) → bytes_eq id x.spot.id ≡ false → g id ≡ f id) where
  -- the parent of one that x is not before
  parent_before : (earlier : List Cites) (t : Cites) → is_id_among earlier x.spot.id ≡ false → option_and_then f (parent_among earlier t) ≡ option_and_then g (parent_among earlier t)
  parent_before earlier t n = same_found f g (parent_among earlier t) (λ p h. others p (differs p (found_passes (is_id_among earlier) t.candidates p h)))
    where
      differs : (p : Bytes) → is_id_among earlier p ≡ true → bytes_eq p x.spot.id ≡ false
      differs p h =
          elim (bytes_eq p x.spot.id) as (λ b. bytes_eq p x.spot.id ≡ b → b ≡ false) [
            | false ↦ λ _. refl
            | true ↦ λ e. absurd (both_ways (is_id_among earlier x.spot.id) n (subst (λ q. is_id_among earlier q ≡ true) ((bytes_decides p x.spot.id).0 e) h))
          ] refl

  -- and of one that does not name x, or where x stayed
  parent_after : (earlier : List Cites) (t : Cites) → (is_among t.candidates x.spot.id ≡ false) ⊎ (g x.spot.id ≡ f x.spot.id) → option_and_then f (parent_among earlier t) ≡ option_and_then g (parent_among earlier t)
  parent_after earlier t c = same_found f g (parent_among earlier t) (λ p h. at p (find_in (is_id_among earlier) t.candidates p h) c (cases_Bool (bytes_eq p x.spot.id)))
    where
      at : (p : Bytes) → is_among t.candidates p ≡ true → (is_among t.candidates x.spot.id ≡ false) ⊎ (g x.spot.id ≡ f x.spot.id) → (bytes_eq p x.spot.id ≡ true) ⊎ (bytes_eq p x.spot.id ≡ false) → g p ≡ f p
      at p i c (inr e) = others p e
      at p i (inr s) (inl e) = subst (λ q. g q ≡ f q) (sym ((bytes_decides p x.spot.id).0 e)) s
      at p i (inl n) (inl e) = absurd (both_ways (is_among t.candidates x.spot.id) n (subst (λ q. is_among t.candidates q ≡ true) ((bytes_decides p x.spot.id).0 e) i))

  -- one more card that x is not
  pub not_among : (earlier : List Cites) (t : Cites) → is_id_among earlier x.spot.id ≡ false → bytes_eq t.spot.id x.spot.id ≡ false → is_id_among (earlier ++ t ∷ []) x.spot.id ≡ false
  not_among [] t h d = rw (bytes_turn x.spot.id t.spot.id ∙ d) refl
  not_among (y ∷ ys) t h d = let parts = or_parts (bytes_eq x.spot.id y.spot.id) (is_id_among ys x.spot.id) h in or_from (bytes_eq x.spot.id y.spot.id) (is_id_among (ys ++ t ∷ []) x.spot.id) parts.0 (not_among ys t parts.1 d)

  -- among cards that x is not, another chat of x changes nothing
  pub keep_without : (pending : Spot → Bool) (earlier ts : List Cites) → is_id_among earlier x.spot.id ≡ false → AllByRecursion (λ t. bytes_eq t.spot.id x.spot.id ≡ false) ts
      → KeepRuleBut f pending earlier ts → KeepRuleBut g pending earlier ts
  keep_without pending earlier [] n d k = tt
  keep_without pending earlier (t ∷ ts) n d k = (
    λ p. others t.spot.id d.0 ∙ k.0 p ∙ ap (λ o. Some (chat_from t o)) (parent_before earlier t n),
    keep_without pending (earlier ++ t ∷ []) ts (not_among earlier t n d.0) d.1 k.1,
  )

  module _ (pending next : Spot → Bool) where
    -- a later card is on the new list where it was on the old one, or names x and x moved
    abbrev pub Handed : Cites → Type 0
    Handed t = next t.spot ≡ false → (pending t.spot ≡ false) × ((is_among t.candidates x.spot.id ≡ false) ⊎ (g x.spot.id ≡ f x.spot.id))

    further : (earlier later : List Cites) → AllByRecursion (λ t. bytes_eq t.spot.id x.spot.id ≡ false) later → AllByRecursion Handed later → KeepRuleBut f pending earlier later → KeepRuleBut g next earlier later
    further earlier [] d h s = tt
    further earlier (t ∷ later) d h s =
        (λ n. let k = h.0 n in others t.spot.id d.0 ∙ s.0 k.0 ∙ ap (λ o. Some (chat_from t o)) (parent_after earlier t k.1), further (earlier ++ t ∷ []) later d.1 h.1 s.1)

    -- x was looked at: it gets its chat, and those later ones that name it go on the list where it moved
    pub looked_at : (earlier before later : List Cites) → is_id_among earlier x.spot.id ≡ false → AllByRecursion (λ t. bytes_eq t.spot.id x.spot.id ≡ false) before → AllByRecursion (λ t. bytes_eq t.spot.id x.spot.id ≡ false) later
        → g x.spot.id ≡ Some (chat_from x (option_and_then f (parent_among (earlier ++ before) x)))
        → AllByRecursion (λ t. next t.spot ≡ false → pending t.spot ≡ false) before → AllByRecursion Handed later
        → KeepRuleBut f pending earlier (before ++ x ∷ later) → KeepRuleBut g next earlier (before ++ x ∷ later)
    looked_at earlier [] later n db dl e hb hl s =
        let here : g x.spot.id ≡ Some (chat_from x (option_and_then f (parent_among earlier x))) = subst (λ es. g x.spot.id ≡ Some (chat_from x (option_and_then f (parent_among es x)))) (append-nil earlier) e in
        (λ _. here ∙ ap (λ o. Some (chat_from x o)) (parent_before earlier x n), further (earlier ++ x ∷ []) later dl hl s.1)
    looked_at earlier (t ∷ before) later n db dl e hb hl s = (
      λ k. others t.spot.id db.0 ∙ s.0 (hb.0 k) ∙ ap (λ o. Some (chat_from t o)) (parent_before earlier t n),
      looked_at (earlier ++ t ∷ []) before later (not_among earlier t n db.0) db.1 dl (subst (λ es. g x.spot.id ≡ Some (chat_from x (option_and_then f (parent_among es x)))) (sym (append_assoc earlier (t ∷ []) before)) e) hb.1 hl s.1,
    )

-- ---- the moves so far

key_self : (o : Option ChatKey) → option_eq key_eq o o ≡ true
key_self None = refl
key_self (Some key) = key_alike key

no_move : (id : Bytes) (before after : Option ChatKey) → after ≡ before → moved id before after ≡ None
no_move id before after e =
    ap (moved id before) e ∙ ap (λ b. if b then None else Some (record { id = id; before = before; after = before })) (key_self before)

pub no_moves : (old f : Chats) (ts : List Cites) → AllByRecursion (λ t. f t.spot.id ≡ old t.spot.id) ts → moves_to old f ts ≡ []
no_moves old f [] a = refl
no_moves old f (t ∷ ts) a = (λ i. cons_option (no_move t.spot.id (old t.spot.id) (f t.spot.id) a.0 i) (moves_to old f ts)) ∙ no_moves old f ts a.1

pub same_moves : (old f g : Chats) (ts : List Cites) → AllByRecursion (λ t. g t.spot.id ≡ f t.spot.id) ts → moves_to old g ts ≡ moves_to old f ts
same_moves old f g [] a = refl
same_moves old f g (t ∷ ts) a = λ i. cons_option (moved t.spot.id (old t.spot.id) (a.0 i)) (same_moves old f g ts a.1 i)

abbrev pub Apart : Cites → List Cites → Type 0
Apart x ts = AllByRecursion (λ t. bytes_eq t.spot.id x.spot.id ≡ false) ts

-- x and later cards had their old chats: the move of x comes after the others
pub one_move : (old f g : Chats) (before : List Cites) (x : Cites) (later : List Cites)
    → ((id : Bytes) → bytes_eq id x.spot.id ≡ false → g id ≡ f id)
    → Apart x before → Apart x later → AllByRecursion (λ t. f t.spot.id ≡ old t.spot.id) (x ∷ later)
    → moves_to old g (before ++ x ∷ later) ≡ moves_to old f (before ++ x ∷ later) ++ cons_option (moved x.spot.id (f x.spot.id) (g x.spot.id)) []
one_move old f g before x later others ab al fresh =
    let m = λ (h : Chats) (t : Cites). moved t.spot.id (old t.spot.id) (h t.spot.id) in
    let first : moves_to old g before ≡ moves_to old f before = same_moves old f g before (all_by (λ t. bytes_eq t.spot.id x.spot.id ≡ false) (λ t. g t.spot.id ≡ f t.spot.id) (λ t n. others t.spot.id n) before ab) in
    let last : moves_to old g later ≡ [] = no_moves old g later (all_both (λ t. bytes_eq t.spot.id x.spot.id ≡ false) (λ t. f t.spot.id ≡ old t.spot.id) (λ t. g t.spot.id ≡ old t.spot.id) (λ t n h. others t.spot.id n ∙ h) later al fresh.1) in
    let none : moves_to old f (x ∷ later) ≡ [] = no_moves old f (x ∷ later) fresh in
    filter_map-append (m g) before (x ∷ later)
    ∙ (λ i. first i ++ cons_option (moved x.spot.id (sym fresh.0 i) (g x.spot.id)) (last i))
    ∙ ap (λ ms. ms ++ cons_option (moved x.spot.id (f x.spot.id) (g x.spot.id)) []) (sym (filter_map-append (m f) before (x ∷ later) ∙ ap (λ ms. moves_to old f before ++ ms) none ∙ append-nil (moves_to old f before)))
