-- Lists in order, in which elements may tie: what is sorted by inserts is in order, and what an insert does to the first
-- of each that are alike.
use Rattle.std.proofs.Common.{◌≡◌, refl, sym, ap, ◌∙◌, Bool, true, false, not, ◌||◌, ◌&&◌, cond, List, [], ◌∷◌}
use Rattle.std.specs.Prelude.{if◌then◌else◌, find, fold, filter, filter_map}
use Rattle.std.specs.List.{AllByRecursion, IsDistinct}
use Rattle.std.specs.List.Sorted.{IsStrictlySortedBy}
use Rattle.std.specs.declared.cmp.Ordering.{Ordering}
use Rattle.std.specs.declared.cmp.Ordering.TheVariants.{Less, Equal, Greater}
use Rattle.std.specs.Ordering.{is_lt, ordering_reverse}
use Rattle.std.specs.Str.{bytes_eq}
use Rattle.std.specs.Cmp.{IsTotalOrder}
use Rattle.std.specs.Cmp.Lexicographic.{bytes_decides}
use Rattle.std.proofs.lemmas.Bool.{false≢true}
use Rattle.std.proofs.lemmas.List.Elements.{filter_agree}
use Rattle.lists.specs.Distinct.{firsts}
use Rattle.lists.specs.Sorted.{insert_by, sorted_by}
use Rattle.lists.proofs.Rising.{Above, insert_by-above, Above-filter, IsAlike, is_preceded, never_back}
use Rattle.lists.proofs.Inserts.{None_of, none_filtered, All-insert_by, All-filter, All-firsts, find-firsts}
use Rattle.mailbox_model.specs.Mailbox.{Mailbox}
use Rattle.mailbox_model.specs.Present.{Mail, mail_of, mail_cmp, mails, same_id}
use Rattle.mailbox_model.proofs.MailLaws.{order}
use Rattle.model_laws.proofs.Filters.{filter_turn, filter_twice}

module _ {X : Type 0} (cmp : X → X → Ordering) where
  -- none of these is below x
  abbrev NoneBelow : X → List X → Type 0
  NoneBelow x ys = AllByRecursion (λ y. is_lt (cmp y x) ≡ false) ys

  abbrev pub InOrder : List X → Type 0
  InOrder [] = Unit {0}
  InOrder (x ∷ xs) = NoneBelow x xs × InOrder xs

  filter_in_order : (p : X → Bool) (ys : List X) → InOrder ys → InOrder (filter p ys)
  filter_in_order p [] o = tt
  filter_in_order p (y ∷ ys) o =
      elim (p y) as (λ b. InOrder (cond b (y ∷ filter p ys) (filter p ys))) [
        | true ↦ (All-filter (λ z. is_lt (cmp z y) ≡ false) p ys o.0, filter_in_order p ys o.1)
        | false ↦ filter_in_order p ys o.1
      ]

  firsts_in_order : (same : X → X → Bool) (ys : List X) → InOrder ys → InOrder (firsts same ys)
  firsts_in_order same [] o = tt
  firsts_in_order same (y ∷ ys) o =
      let others = λ (z : X). not (same y z) in
      (All-filter (λ z. is_lt (cmp z y) ≡ false) others (firsts same ys) (All-firsts (λ z. is_lt (cmp z y) ≡ false) same ys o.0), filter_in_order others (firsts same ys) (firsts_in_order same ys o.1))

  module _ (total : IsTotalOrder cmp) where
    -- what is below one is below all that are not below that one
    below_too : (x y z : X) → is_lt (cmp x y) ≡ true → is_lt (cmp z y) ≡ false → is_lt (cmp x z) ≡ true
    below_too x y z below other = by (cmp z y) refl other
      where
        less : (o : Ordering) → is_lt o ≡ true → o ≡ Less
        less Less e = refl
        less Equal e = cc
        less Greater e = cc

        by : (o : Ordering) → cmp z y ≡ o → is_lt o ≡ false → is_lt (cmp x z) ≡ true
        by Less e h = cc
        by Equal e h =
            ap is_lt (total.antisymm x z ∙ ap ordering_reverse (total.congr z y x e) ∙ sym (total.antisymm x y)) ∙ below
        by Greater e h =
            ap is_lt (total.trans x y z (less (cmp x y) below) (total.antisymm y z ∙ ap ordering_reverse e))

    above : (x y : X) (ys : List X) → is_lt (cmp x y) ≡ true → NoneBelow y ys → Above cmp x ys
    above x y [] below n = tt
    above x y (z ∷ ys) below n = (below_too x y z below n.0, above x y ys below n.1)

    none_below : (x : X) (ys : List X) → Above cmp x ys → NoneBelow x ys
    none_below x [] a = tt
    none_below x (y ∷ ys) a = (never_back cmp total x y a.0, none_below x ys a.1)

    -- ---- what is sorted by inserts

    insert_in_order : (x : X) (ys : List X) → InOrder ys → InOrder (insert_by cmp x ys)
    insert_in_order x [] o = (tt, tt)
    insert_in_order x (y ∷ ys) o =
        elim (is_lt (cmp x y)) as (λ b. is_lt (cmp x y) ≡ b → InOrder (if b then x ∷ y ∷ ys else y ∷ insert_by cmp x ys)) [
          | true ↦ λ e. (none_below x (y ∷ ys) (e, above x y ys e o.0), o)
          | false ↦ λ e. (All-insert_by cmp (λ z. is_lt (cmp z y) ≡ false) x ys e o.0, insert_in_order x ys o.1)
        ] refl

    inserted_in_order : (zs xs : List X) → InOrder zs → InOrder (fold (λ sorted x. insert_by cmp x sorted) zs xs)
    inserted_in_order zs [] o = o
    inserted_in_order zs (x ∷ xs) o = inserted_in_order (insert_by cmp x zs) xs (insert_in_order x zs o)

    pub sorted_in_order : (xs : List X) → InOrder (sorted_by cmp xs)
    sorted_in_order xs = inserted_in_order [] xs tt

    -- where no two are alike, and those that tie are, the order is strict
    pub strict_order : (same : X → X → Bool) → ((x y : X) → cmp x y ≡ Equal → same x y ≡ true)
        → (xs : List X) → IsDistinct same xs → InOrder xs → IsStrictlySortedBy cmp xs
    unfolding IsDistinct IsStrictlySortedBy
    strict_order same tied [] d o = tt
    strict_order same tied (x ∷ xs) d o = (each xs d.0 o.0, strict_order same tied xs d.1 o.1)
      where
        by : (y : X) (r : Ordering) → cmp x y ≡ r → same x y ≡ false → is_lt (cmp y x) ≡ false → cmp x y ≡ Less
        by y Less e apart back = e
        by y Equal e apart back = absurd (false≢true (sym apart ∙ tied x y e))
        by y Greater e apart back = absurd (false≢true (sym back ∙ ap is_lt (total.antisymm y x ∙ ap ordering_reverse e)))

        each : (ys : List X) → AllByRecursion (λ y. same x y ≡ false) ys → NoneBelow x ys → AllByRecursion (λ y. cmp x y ≡ Less) ys
        each [] a n = tt
        each (y ∷ ys) a n = (by y (cmp x y) refl a.0 n.0, each ys a.1 n.1)

    -- ---- the first of each that are alike, after an insert

    kept_in_place : (p : X → Bool) (x : X) (ys : List X) → p x ≡ true → InOrder ys
        → filter p (insert_by cmp x ys) ≡ insert_by cmp x (filter p ys)
    kept_in_place p x [] h o = rw h refl
    kept_in_place p x (y ∷ ys) h o =
        elim (is_lt (cmp x y)) as (λ b. is_lt (cmp x y) ≡ b → filter p (if b then x ∷ y ∷ ys else y ∷ insert_by cmp x ys) ≡ insert_by cmp x (filter p (y ∷ ys))) [
          | true ↦ λ e. rw h (sym (insert_by-above cmp x (filter p (y ∷ ys)) (Above-filter cmp x p (y ∷ ys) (e, above x y ys e o.0))))
          | false ↦ λ e. elim (p y) as (λ b. cond b (y ∷ filter p (insert_by cmp x ys)) (filter p (insert_by cmp x ys)) ≡ insert_by cmp x (cond b (y ∷ filter p ys) (filter p ys))) [
            | true ↦ ap (λ zs. y ∷ zs) (kept_in_place p x ys h o.1) ∙ sym (rw (e, insert_by) refl)
            | false ↦ kept_in_place p x ys h o.1
          ]
        ] refl

    module _ (same : X → X → Bool) (alike : IsAlike same) where
      -- what is like none of them comes in
      pub firsts_new : (y : X) (zs : List X) → None_of (same y) zs → InOrder zs
          → firsts same (insert_by cmp y zs) ≡ insert_by cmp y (firsts same zs)
      firsts_new y [] n o = refl
      firsts_new y (z ∷ zs) n o =
          elim (is_lt (cmp y z)) as (λ b. firsts same (if b then y ∷ z ∷ zs else z ∷ insert_by cmp y zs) ≡ (if b then y ∷ firsts same (z ∷ zs) else z ∷ insert_by cmp y (filter others (firsts same zs)))) [
            | true ↦ ap (λ us. y ∷ us) (none_filtered (same y) (firsts same (z ∷ zs)) (All-firsts (λ x. same y x ≡ false) same (z ∷ zs) n))
            | false ↦ ap (λ us. z ∷ us) (ap (filter others) (firsts_new y zs n.1 o.1) ∙ kept_in_place others y (firsts same zs) (ap not (alike.turn z y ∙ n.0)) (firsts_in_order same zs o.1))
          ]
        where
          others : X → Bool
          others x = not (same z x)

      -- those that are not like z, where y is
      dropped : (y z : X) → same z y ≡ true → (ws : List X)
          → filter (λ x. not (same z x)) (firsts same (insert_by cmp y ws)) ≡ filter (λ x. not (same z x)) (firsts same ws)
      dropped y z s [] = rw s refl
      dropped y z s (w ∷ ws) =
          elim (is_lt (cmp y w)) as (λ b. filter others (firsts same (if b then y ∷ w ∷ ws else w ∷ insert_by cmp y ws)) ≡ filter others (firsts same (w ∷ ws))) [
            | true ↦ rw s (ap (filter others) (filter_agree (λ x. not (same y x)) others (λ x. ap not (sym (alike.alike z y x s))) (firsts same (w ∷ ws))) ∙ filter_twice others (firsts same (w ∷ ws)))
            | false ↦ ap (λ us. cond (others w) (w ∷ us) us) (filter_turn others unlike_w (firsts same (insert_by cmp y ws)) ∙ ap (filter unlike_w) (dropped y z s ws) ∙ sym (filter_turn others unlike_w (firsts same ws)))
          ]
        where
          others : X → Bool
          others x = not (same z x)

          unlike_w : X → Bool
          unlike_w x = not (same w x)

      -- what one hides that is alike and no later is not seen
      pub firsts_hidden : (y : X) (zs : List X) → is_preceded same cmp y zs ≡ true → InOrder zs
          → firsts same (insert_by cmp y zs) ≡ firsts same zs
      firsts_hidden y [] h o = cc
      firsts_hidden y (z ∷ zs) h o =
          elim (is_lt (cmp y z)) as (λ b. is_lt (cmp y z) ≡ b → ((same y z && not b) || is_preceded same cmp y zs) ≡ true → firsts same (if b then y ∷ z ∷ zs else z ∷ insert_by cmp y zs) ≡ firsts same (z ∷ zs)) [
            | true ↦ λ e k. absurd (false≢true (sym (no_sooner (same y z) (is_preceded same cmp y zs) ∙ none_sooner zs (above y z zs e o.0)) ∙ k))
            | false ↦ λ e k. ap (λ us. z ∷ us) (later (same y z) refl k (λ j. firsts_hidden y zs j o.1))
          ] refl h
        where
          no_sooner : (b c : Bool) → ((b && false) || c) ≡ c
          no_sooner true c = refl
          no_sooner false c = refl

          none_sooner : (zs : List X) → Above cmp y zs → is_preceded same cmp y zs ≡ false
          none_sooner [] a = refl
          none_sooner (z ∷ zs) a = rw a.0 (no_sooner (same y z) (is_preceded same cmp y zs) ∙ none_sooner zs a.1)

          later : (b : Bool) → same y z ≡ b → ((b && true) || is_preceded same cmp y zs) ≡ true
              → (is_preceded same cmp y zs ≡ true → firsts same (insert_by cmp y zs) ≡ firsts same zs)
              → filter (λ x. not (same z x)) (firsts same (insert_by cmp y zs)) ≡ filter (λ x. not (same z x)) (firsts same zs)
          later true s k go = dropped y z (alike.turn z y ∙ s) zs
          later false s k go = ap (filter (λ x. not (same z x))) (go k)

-- ---- the mails of a mailbox

-- the first of one id is found among the present mails where it is found among all
pub found_present : (y : Mail) (zs : List Mail) → find (same_id y) (firsts same_id zs) ≡ find (same_id y) zs
found_present y zs =
    find-firsts same_id (same_id y) (λ a b e. ap (bytes_eq y.placed.card.id) ((bytes_decides a.placed.card.id b.placed.card.id).0 e)) zs

-- also where its uids don't rise
pub mails_in_order : (m : Mailbox) → InOrder mail_cmp (mails m)
mails_in_order m = sorted_in_order mail_cmp order (filter_map mail_of m.entries)
