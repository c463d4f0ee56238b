-- The loop over a list of work: what holds before each card that is looked at, how it begins, and what is left at its end.
use Rattle.std.proofs.Common.{◌≡◌, refl, sym, ap, ◌∙◌, subst, Bool, true, false, ◌||◌, Option, Some, None, List, [], ◌∷◌, ◌++◌, ◌⊎◌}
use Rattle.std.specs.Prelude.{if◌then◌else◌, unwrap_or}
use Rattle.std.specs.List.{AllByRecursion, cons_option}
use Rattle.std.specs.Option.{option_map, option_and_then}
use Rattle.std.specs.Str.{bytes_eq}
use Rattle.std.specs.Cmp.Lexicographic.{bytes_decides}
use Rattle.std.proofs.lemmas.Bool.{both_ways}
use Rattle.lists.proofs.Inserts.{found_passes}
use Rattle.lists.proofs.Rising.{never_back, below_of}
use Rattle.card_type.specs.declared.key.ChatKey.{ChatKey}
use Rattle.card_type.specs.declared.key.ChatKey.TheVariants.{SelfChat}
use Rattle.card_type.specs.declared.spot.Spot.{Spot}
use Rattle.card_type.specs.Effects.{is_among}
use Rattle.card_type.specs.Spots.{spot_cmp}
use Rattle.card_type.proofs.Orders.{spots_total}
use Rattle.mailbox_model.specs.declared.links.Cites.{Cites}
use Rattle.mailbox_model.specs.declared.links.Moved.{Moved}
use Rattle.mailbox_model.specs.Lists.{Bytes}
use Rattle.mailbox_model.specs.Chats.{chat_from, is_id_among, parent_among, KeepRule, DistinctIds, chat_among, moved, moves}
use Rattle.mailbox_model.proofs.ChatLaws.{chats_only}
use Rattle.thread_links.specs.Work.{Chats, is_before, KeepRuleBut, moves_to, IsWorking}
use Rattle.thread_links.proofs.WorkLaws.{all_append, all_right, all_by, all_both, chats_keep_but, keep_without, Handed, looked_at, no_moves, same_moves, Apart, one_move}
use Rattle.thread_links.proofs.SeedLaws.{Listed, seed_added, seed_removed}

pub all_any : {X : Type 0} (P : X → Type 0) → ((x : X) → P x) → (xs : List X) → AllByRecursion P xs
all_any P h [] = tt
all_any P h (x ∷ xs) = (h x, all_any P h xs)

-- x stands between cards that come before it and cards that come after it, and none has its id
pub record IsBetween (before : List Cites) (x : Cites) (later : List Cites) : Type 0 where
  pub below : AllByRecursion (λ t. is_before t.spot x.spot ≡ true) before
  pub above : AllByRecursion (λ t. is_before x.spot t.spot ≡ true) later
  pub first : Apart x before
  pub last : Apart x later

-- of cards around x, those that are not before a later spot have another id than x and come after it
later_ones : (Q : Cites → Type 0) (s : Spot) (before : List Cites) (x : Cites) (later : List Cites) → IsBetween before x later → is_before x.spot s ≡ true
    → ((t : Cites) → is_before x.spot t.spot ≡ true → bytes_eq t.spot.id x.spot.id ≡ false → Q t) → AllByRecursion (λ t. is_before t.spot s ≡ false → Q t) (before ++ x ∷ later)
later_ones Q s before x later p h q =
    all_append (λ t. is_before t.spot s ≡ false → Q t) before (x ∷ later)
    (all_by (λ t. is_before t.spot x.spot ≡ true) (λ t. is_before t.spot s ≡ false → Q t) (λ t b n. absurd (both_ways (is_before t.spot s) n ((below_of spot_cmp spots_total).trans t.spot x.spot s b h))) before p.below)
    (λ n. absurd (both_ways (is_before x.spot s) n h), all_both (λ t. is_before x.spot t.spot ≡ true) (λ t. bytes_eq t.spot.id x.spot.id ≡ false) (λ t. is_before t.spot s ≡ false → Q t) (λ t a i n. q t a i) later p.above p.last)

module _ (old f g : Chats) (pending next : Spot → Bool) (x : Cites) (others : (id : Bytes) → bytes_eq id x.spot.id ≡ false → g id ≡ f id) where
  -- a card on the list is looked at: it gets its chat, and where it moved the later ones that name it go on the list
  pub look : (before later first last : List Cites) (told : List Moved) → IsWorking old f pending (first ++ x ∷ last) (before ++ x ∷ later) told
      → pending x.spot ≡ true → IsBetween before x later → IsBetween first x last
      → g x.spot.id ≡ Some (chat_from x (option_and_then f (parent_among before x)))
      → ((s : Spot) → next s ≡ false → bytes_eq s.id x.spot.id ≡ false → pending s ≡ false)
      → ((s : Spot) → next s ≡ true → is_before x.spot s ≡ true)
      → AllByRecursion (λ t. next t.spot ≡ false → (is_among t.candidates x.spot.id ≡ false) ⊎ (g x.spot.id ≡ f x.spot.id)) later
      → IsWorking old g next (first ++ x ∷ last) (before ++ x ∷ later) (told ++ cons_option (moved x.spot.id (f x.spot.id) (g x.spot.id)) [])
  look before later first last told w on p q here passes after handed = record {
    rule = looked_at f g x others pending next [] before later refl p.first p.last here
        (all_by (λ t. bytes_eq t.spot.id x.spot.id ≡ false) (λ t. next t.spot ≡ false → pending t.spot ≡ false) (λ t d n. passes t.spot n d) before p.first)
        (all_both (λ t. bytes_eq t.spot.id x.spot.id ≡ false) (λ t. next t.spot ≡ false → (is_among t.candidates x.spot.id ≡ false) ⊎ (g x.spot.id ≡ f x.spot.id)) (Handed f g x others pending next) (λ t d h n. (passes t.spot n d, h n)) later p.last handed)
        w.rule;
    fresh = λ s n.
        all_both (λ t. is_before t.spot x.spot ≡ false → f t.spot.id ≡ old t.spot.id) (λ t. is_before t.spot s ≡ false → (is_before x.spot t.spot ≡ true) × (bytes_eq t.spot.id x.spot.id ≡ false)) (λ t. is_before t.spot s ≡ false → g t.spot.id ≡ old t.spot.id)
        (λ t k l m. others t.spot.id (l m).1 ∙ k (never_back spot_cmp spots_total x.spot t.spot (l m).0)) (first ++ x ∷ last) (w.fresh x.spot on)
        (later_ones (λ t. (is_before x.spot t.spot ≡ true) × (bytes_eq t.spot.id x.spot.id ≡ false)) s first x last q (after s n) (λ t a i. (a, i)));
    moves = ap (λ ms. ms ++ cons_option (moved x.spot.id (f x.spot.id) (g x.spot.id)) []) w.moves ∙ sym (one_move old f g first x last others q.first q.last stay);
  }
    where
      not_itself : is_before x.spot x.spot ≡ false
      not_itself =
          elim (is_before x.spot x.spot) as (λ b. is_before x.spot x.spot ≡ b → b ≡ false) [ false ↦ λ _. refl | true ↦ λ e. absurd (both_ways (is_before x.spot x.spot) (never_back spot_cmp spots_total x.spot x.spot e) e) ] refl

      stay : AllByRecursion (λ t. f t.spot.id ≡ old t.spot.id) (x ∷ last)
      stay =
          all_both (λ t. is_before t.spot x.spot ≡ false → f t.spot.id ≡ old t.spot.id) (λ t. is_before t.spot x.spot ≡ false) (λ t. f t.spot.id ≡ old t.spot.id) (λ t k n. k n) (x ∷ last)
          (all_right (λ t. is_before t.spot x.spot ≡ false → f t.spot.id ≡ old t.spot.id) first (x ∷ last) (w.fresh x.spot on))
          (not_itself, all_by (λ t. is_before x.spot t.spot ≡ true) (λ t. is_before t.spot x.spot ≡ false) (λ t a. never_back spot_cmp spots_total x.spot t.spot a) last q.above)

-- ---- how it begins

-- a card comes
pub begun_added : (pending : Spot → Bool) (before : List Cites) (c : Cites) (later : List Cites) → DistinctIds (before ++ later)
    → pending c.spot ≡ true → Listed (chat_among (before ++ later)) pending c.spot.id later
    → IsWorking (chat_among (before ++ later)) (chat_among (before ++ later)) pending (before ++ c ∷ later) (before ++ c ∷ later) []
begun_added pending before c later d on listed =
    let old = chat_among (before ++ later) in
    record {
      rule = seed_added old pending c on [] before later listed (chats_keep_but (λ _. false) (before ++ later) [] (before ++ later) refl d);
      fresh = λ s p. all_any (λ t. is_before t.spot s ≡ false → old t.spot.id ≡ old t.spot.id) (λ t n. refl) (before ++ c ∷ later);
      moves = sym (no_moves old old (before ++ c ∷ later) (all_any (λ t. old t.spot.id ≡ old t.spot.id) (λ t. refl) (before ++ c ∷ later)));
    }

-- a card goes
pub begun_removed : (f : Chats) (pending : Spot → Bool) (before : List Cites) (c : Cites) (later : List Cites) → DistinctIds (before ++ c ∷ later) → IsBetween before c later
    → ((id : Bytes) → bytes_eq id c.spot.id ≡ false → f id ≡ chat_among (before ++ c ∷ later) id) → f c.spot.id ≡ None
    → ((s : Spot) → pending s ≡ true → is_before c.spot s ≡ true)
    → Listed (chat_among (before ++ c ∷ later)) pending c.spot.id later
    → IsWorking (chat_among (before ++ c ∷ later)) f pending (before ++ c ∷ later) (before ++ later) (cons_option (moved c.spot.id (chat_among (before ++ c ∷ later) c.spot.id) None) [])
begun_removed f pending before c later d p others gone after listed =
    let old = chat_among (before ++ c ∷ later) in
    record {
      rule = keep_without old f c others pending [] (before ++ later) refl (all_append (λ t. bytes_eq t.spot.id c.spot.id ≡ false) before later p.first p.last)
          (seed_removed old pending c [] before later listed (chats_keep_but (λ _. false) (before ++ c ∷ later) [] (before ++ c ∷ later) refl d));
      fresh = λ s n. later_ones (λ t. f t.spot.id ≡ old t.spot.id) s before c later p (after s n) (λ t a i. others t.spot.id i);
      moves = ap (λ o. cons_option (moved c.spot.id (old c.spot.id) o) []) (sym gone)
          ∙ ap (λ ms. ms ++ cons_option (moved c.spot.id (old c.spot.id) (f c.spot.id)) []) (sym (no_moves old old (before ++ c ∷ later) (all_any (λ t. old t.spot.id ≡ old t.spot.id) (λ t. refl) (before ++ c ∷ later))))
          ∙ sym (one_move old old f before c later others p.first p.last (all_any (λ t. old t.spot.id ≡ old t.spot.id) (λ t. refl) (c ∷ later)));
    }

-- ---- how it ends

module _ (f : Chats) where
  -- the chat of an id, and of an id without one any
  abbrev given : Bytes → ChatKey
  given id = unwrap_or (f id) SelfChat

  abbrev Has : Cites → Type 0
  Has t = f t.spot.id ≡ Some (given t.spot.id)

  has : (o : Option ChatKey) (key : ChatKey) → o ≡ Some key → o ≡ Some (unwrap_or o SelfChat)
  has o key e = e ∙ ap (λ p. Some (unwrap_or p SelfChat)) (sym e)

  known : (ts : List Cites) → AllByRecursion Has ts → (id : Bytes) → is_id_among ts id ≡ true → f id ≡ Some (given id)
  known [] a id h = cc
  known (t ∷ ts) a id h =
      elim (bytes_eq id t.spot.id) as (λ b. bytes_eq id t.spot.id ≡ b → (b || is_id_among ts id) ≡ true → f id ≡ Some (given id)) [
        | true ↦ λ e k. subst (λ i. f i ≡ Some (given i)) (sym ((bytes_decides id t.spot.id).0 e)) a.0
        | false ↦ λ e k. known ts a.1 id k
      ] refl h

  parent_is : (o : Option Bytes) → ((p : Bytes) → o ≡ Some p → f p ≡ Some (given p)) → option_and_then f o ≡ option_map given o
  parent_is None h = refl
  parent_is (Some p) h = h p refl

  kept : (pending : Spot → Bool) → ((s : Spot) → pending s ≡ false) → (earlier ts : List Cites) → AllByRecursion Has earlier → KeepRuleBut f pending earlier ts
      → KeepRule given earlier ts × AllByRecursion Has ts
  kept pending none earlier [] a k = (tt, tt)
  kept pending none earlier (t ∷ ts) a k =
      let here = k.0 (none t.spot) in
      let parent = parent_is (parent_among earlier t) (λ p e. known earlier a p (found_passes (is_id_among earlier) t.candidates p e)) in
      let it : Has t = has (f t.spot.id) (chat_from t (option_and_then f (parent_among earlier t))) here in
      let rest = kept pending none (earlier ++ t ∷ []) ts (all_append Has earlier (t ∷ []) a (it, tt)) k.1 in
      ((ap (λ o. unwrap_or o SelfChat) here ∙ ap (chat_from t) parent, rest.0), (it, rest.1))

  -- with an empty list the chats are those of the cards
  pub finished : (pending : Spot → Bool) → ((s : Spot) → pending s ≡ false) → (ts : List Cites) → KeepRuleBut f pending [] ts
      → ((id : Bytes) → is_id_among ts id ≡ false → f id ≡ None) → (id : Bytes) → f id ≡ chat_among ts id
  finished pending none ts k strange id =
      let all = kept pending none [] ts tt k in
      elim (is_id_among ts id) as (λ b. is_id_among ts id ≡ b → f id ≡ (if b then Some (given id) else None)) [
        | true ↦ λ e. known ts all.1 id e
        | false ↦ λ e. strange id e
      ] refl ∙ sym (chats_only ts given all.0 id)

-- and the moves are all told
pub all_told : (f : Chats) (all before after : List Cites) (told : List Moved) → told ≡ moves_to (chat_among before) f all
    → ((id : Bytes) → f id ≡ chat_among after id) → told ≡ moves all before after
all_told f all before after told e h = e ∙ sym (same_moves (chat_among before) f (chat_among after) all (all_any (λ t. chat_among after t.spot.id ≡ f t.spot.id) (λ t. sym (h t.spot.id)) all))
