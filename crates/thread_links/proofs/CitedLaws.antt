-- The spots of those that name an id, as cites come and go.
use Rattle.std.proofs.Common.{◌≡◌, refl, sym, ap, ◌∙◌, subst, Bool, true, false, not, ◌||◌, cond, Option, Some, None, List, [], ◌∷◌, ◌++◌, map}
use Rattle.std.specs.Prelude.{if◌then◌else◌, filter}
use Rattle.std.specs.List.{find, list_any, AllByRecursion}
use Rattle.std.specs.List.Sorted.{IsStrictlySortedBy}
use Rattle.std.specs.Option.{option_map, option_map_or}
use Rattle.std.specs.Ordering.{is_lt, is_eq}
use Rattle.std.specs.declared.cmp.Ordering.{Ordering}
use Rattle.std.specs.declared.cmp.Ordering.TheVariants.{Less, Equal, Greater}
use Rattle.std.specs.Cmp.{eq_by_cmp_equiv}
use Rattle.std.specs.Cmp.Lexicographic.{bytes_decides}
use Rattle.std.specs.Str.{bytes_eq}
use Rattle.std.proofs.lemmas.Bool.{both_ways, or_parts}
use Rattle.lists.specs.Sorted.{insert_by}
use Rattle.lists.proofs.Rising.{Rising, below_of, filter-insert_by-kept, filter-insert_by-dropped, never_back, Above, Rising-filter, sorted_from}
use Rattle.card_type.specs.declared.spot.Spot.{Spot}
use Rattle.card_type.specs.Effects.{is_among}
use Rattle.card_type.specs.Spots.{spot_cmp}
use Rattle.card_type.proofs.Orders.{spots_total, spots_exact}
use Rattle.mailbox_model.specs.declared.links.Cites.{Cites}
use Rattle.mailbox_model.specs.Lists.{Bytes}
use Rattle.mailbox_model.specs.Chats.{cites_cmp, is_id_among, parent_among}
use Rattle.mailbox_model.proofs.ChatLaws.{same_bytes}
use Rattle.thread_links.specs.declared.kept.Kept.{Kept}
use Rattle.thread_links.specs.Linked.{citing, without_id}
use Rattle.thread_links.specs.Kept.{Entries, kept_at, cites_in, is_earlier, parent_in}
use Rattle.thread_links.specs.Work.{has_id, is_before}
use Rattle.thread_links.proofs.Citing.{ties, but}
use Rattle.thread_links.proofs.MapLaws.{AreUnder, sorted_in, found_in, cites_total}
use Rattle.thread_links.proofs.WorkLaws.{all_by, all_append}
use Rattle.thread_links.proofs.Working.{IsBetween}
use Rattle.thread_links.proofs.Places.{Place}

abbrev pub spots_of : List Cites → List Spot
spots_of ts = map (λ t. t.spot) ts

is_Equal : (o : Ordering) → is_eq o ≡ true → o ≡ Equal
is_Equal Less e = cc
is_Equal Equal e = refl
is_Equal Greater e = cc

pub ties_self : (s : Spot) → ties s s ≡ true
ties_self s = (eq_by_cmp_equiv spots_total).refl s

pub tied : (a b : Spot) → ties a b ≡ true → a ≡ b
tied a b e = spots_exact a b (is_Equal (spot_cmp a b) e)

-- spots of other ids don't tie
pub no_tie : (a b : Spot) → bytes_eq a.id b.id ≡ false → ties a b ≡ false
no_tie a b n =
    elim (ties a b) as (λ c. ties a b ≡ c → c ≡ false) [
      | false ↦ λ _. refl
      | true ↦ λ e. absurd (both_ways (bytes_eq a.id b.id) n ((bytes_decides a.id b.id).1 (ap (λ s. s.id) (tied a b e))))
    ] refl

-- ---- a card that comes

insert_spots : (x : Cites) (ts : List Cites) → spots_of (insert_by cites_cmp x ts) ≡ insert_by spot_cmp x.spot (spots_of ts)
insert_spots x [] = refl
insert_spots x (t ∷ ts) =
    elim (is_lt (cites_cmp x t)) as (λ b. spots_of (if b then x ∷ t ∷ ts else t ∷ insert_by cites_cmp x ts) ≡ (if b then x.spot ∷ t.spot ∷ spots_of ts else t.spot ∷ insert_by spot_cmp x.spot (spots_of ts))) [
      | true ↦ refl
      | false ↦ ap (λ ss. t.spot ∷ ss) (insert_spots x ts)
    ]

pub cited_inserted : (x : Cites) (ts : List Cites) (id : Bytes) → Rising cites_cmp ts
    → (if is_among x.candidates id then insert_by spot_cmp x.spot (spots_of (citing id ts)) else spots_of (citing id ts)) ≡ spots_of (citing id (insert_by cites_cmp x ts))
cited_inserted x ts id r =
    elim (is_among x.candidates id) as (λ b. is_among x.candidates id ≡ b → (if b then insert_by spot_cmp x.spot (spots_of (citing id ts)) else spots_of (citing id ts)) ≡ spots_of (citing id (insert_by cites_cmp x ts))) [
      | true ↦ λ e. sym (insert_spots x (citing id ts)) ∙ ap spots_of (sym (filter-insert_by-kept cites_cmp (below_of cites_cmp cites_total).trans (λ t. is_among t.candidates id) x ts e r))
      | false ↦ λ e. ap spots_of (sym (filter-insert_by-dropped cites_cmp (λ t. is_among t.candidates id) x ts e))
    ] refl

-- a spot whose id none has is not there
pub not_cited : (s : Spot) (ts : List Cites) (id : Bytes) → is_id_among ts s.id ≡ false → list_any (ties s) (spots_of (citing id ts)) ≡ false
not_cited s [] id n = refl
not_cited s (t ∷ ts) id n =
    let parts = or_parts (bytes_eq s.id t.spot.id) (is_id_among ts s.id) n in
    elim (is_among t.candidates id) as (λ b. list_any (ties s) (spots_of (cond b (t ∷ citing id ts) (citing id ts))) ≡ false) [
      | true ↦ rw (no_tie s t.spot parts.0) (not_cited s ts id parts.1)
      | false ↦ not_cited s ts id parts.1
    ]

-- ---- a card that goes

-- an id has the card's spot alone
abbrev Alone : Spot → Cites → Type 0
Alone s t = bytes_eq s.id t.spot.id ≡ ties s t.spot

but_without : (s : Spot) (p : Cites → Bool) (ts : List Cites) → AllByRecursion (Alone s) ts
    → but s (spots_of (filter p ts)) ≡ spots_of (filter p (without_id s.id ts))
but_without s p [] a = refl
but_without s p (t ∷ ts) a =
    elim (p t) as (λ b. p t ≡ b → but s (spots_of (cond b (t ∷ filter p ts) (filter p ts))) ≡ spots_of (filter p (without_id s.id (t ∷ ts)))) [
      | true ↦ λ e.
          ap (λ c. cond (not c) (t.spot ∷ but s (spots_of (filter p ts))) (but s (spots_of (filter p ts)))) (sym a.0)
          ∙ elim (bytes_eq s.id t.spot.id) as (λ c. cond (not c) (t.spot ∷ but s (spots_of (filter p ts))) (but s (spots_of (filter p ts))) ≡ spots_of (filter p (cond (not c) (t ∷ without_id s.id ts) (without_id s.id ts)))) [
            | true ↦ but_without s p ts a.1
            | false ↦ rw e (ap (λ ss. t.spot ∷ ss) (but_without s p ts a.1))
          ]
      | false ↦ λ e.
          elim (bytes_eq s.id t.spot.id) as (λ c. but s (spots_of (filter p ts)) ≡ spots_of (filter p (cond (not c) (t ∷ without_id s.id ts) (without_id s.id ts)))) [
            | true ↦ but_without s p ts a.1
            | false ↦ rw e (but_without s p ts a.1)
          ]
    ] refl

unnamed : (id : Bytes) (p : Cites → Bool) (ts : List Cites) → AllByRecursion (λ t. bytes_eq id t.spot.id ≡ true → p t ≡ false) ts
    → filter p ts ≡ filter p (without_id id ts)
unnamed id p [] a = refl
unnamed id p (t ∷ ts) a =
    elim (bytes_eq id t.spot.id) as (λ c. bytes_eq id t.spot.id ≡ c → filter p (t ∷ ts) ≡ filter p (cond (not c) (t ∷ without_id id ts) (without_id id ts))) [
      | true ↦ λ e. rw (a.0 e) (unnamed id p ts a.1)
      | false ↦ λ e. ap (λ us. cond (p t) (t ∷ us) us) (unnamed id p ts a.1)
    ] refl

module _ (x : Cites) (ts : List Cites) (p : Place ts x) where
  bytes_back : (t : Cites) → bytes_eq t.spot.id x.spot.id ≡ false → bytes_eq x.spot.id t.spot.id ≡ false
  bytes_back t n =
      elim (bytes_eq x.spot.id t.spot.id) as (λ b. bytes_eq x.spot.id t.spot.id ≡ b → b ≡ false) [
        | false ↦ λ _. refl
        | true ↦ λ e. absurd (both_ways (bytes_eq t.spot.id x.spot.id) n ((bytes_decides t.spot.id x.spot.id).1 (sym ((bytes_decides x.spot.id t.spot.id).0 e))))
      ] refl

  -- what holds of x, and of cards with another id, holds of each
  each : (Q : Cites → Type 0) → Q x → ((t : Cites) → bytes_eq x.spot.id t.spot.id ≡ false → Q t) → AllByRecursion Q ts
  each Q here others =
      subst (AllByRecursion Q) (sym p.is)
      (all_append Q p.before (x ∷ p.later) (all_by (λ t. bytes_eq t.spot.id x.spot.id ≡ false) Q (λ t n. others t (bytes_back t n)) p.before p.between.first)
      (here, all_by (λ t. bytes_eq t.spot.id x.spot.id ≡ false) Q (λ t n. others t (bytes_back t n)) p.later p.between.last))

  pub cited_removed : (id : Bytes)
      → (if is_among x.candidates id then but x.spot (spots_of (citing id ts)) else spots_of (citing id ts)) ≡ spots_of (citing id (without_id x.spot.id ts))
  cited_removed id =
      elim (is_among x.candidates id) as (λ b. is_among x.candidates id ≡ b → (if b then but x.spot (spots_of (citing id ts)) else spots_of (citing id ts)) ≡ spots_of (citing id (without_id x.spot.id ts))) [
        | true ↦ λ e. but_without x.spot (λ t. is_among t.candidates id) ts (each (Alone x.spot) (same_bytes x.spot.id ∙ sym (ties_self x.spot)) (λ t n. n ∙ sym (no_tie x.spot t.spot n)))
        | false ↦ λ e. ap spots_of (unnamed x.spot.id (λ t. is_among t.candidates id) ts (each (λ t. bytes_eq x.spot.id t.spot.id ≡ true → is_among t.candidates id ≡ false) (λ _. e) (λ t n h. absurd (both_ways (bytes_eq x.spot.id t.spot.id) n h))))
      ] refl

-- ---- who names an id

-- each card that names an id has its spot among those of the id
pub all_listed : (ts : List Cites) (id : Bytes) → AllByRecursion (λ t. is_among t.candidates id ≡ true → list_any (ties t.spot) (spots_of (citing id ts)) ≡ true) ts
all_listed [] id = tt
all_listed (t ∷ ts) id = (
  λ h. rw h (ap (λ b. b || list_any (ties t.spot) (spots_of (citing id ts))) (ties_self t.spot)),
  all_by (λ u. is_among u.candidates id ≡ true → list_any (ties u.spot) (spots_of (citing id ts)) ≡ true) (λ u. is_among u.candidates id ≡ true → list_any (ties u.spot) (spots_of (citing id (t ∷ ts))) ≡ true)
      (λ u k h. more (ties u.spot) (is_among t.candidates id) (k h)) ts (all_listed ts id),
)
  where
    or_true : (b : Bool) → (b || true) ≡ true
    or_true true = refl
    or_true false = refl

    more : (q : Spot → Bool) (b : Bool) → list_any q (spots_of (citing id ts)) ≡ true → list_any q (spots_of (cond b (t ∷ citing id ts) (citing id ts))) ≡ true
    more q true k = ap (λ c. q t.spot || c) k ∙ or_true (q t.spot)
    more q false k = k

-- and each spot of an id is that of a card
pub cited_there : (ts : List Cites) (id : Bytes) (s : Spot) → list_any (ties s) (spots_of (citing id ts)) ≡ true → list_any (λ t. ties s t.spot) ts ≡ true
cited_there [] id s h = h
cited_there (t ∷ ts) id s h =
    elim (ties s t.spot) as (λ b. ties s t.spot ≡ b → (b || list_any (λ u. ties s u.spot) ts) ≡ true) [
      | true ↦ λ e. refl
      | false ↦ λ e. cited_there ts id s (without (is_among t.candidates id) e h)
    ] refl
  where
    without : (b : Bool) → ties s t.spot ≡ false → list_any (ties s) (spots_of (cond b (t ∷ citing id ts) (citing id ts))) ≡ true → list_any (ties s) (spots_of (citing id ts)) ≡ true
    without true e k = sym (ap (λ c. c || list_any (ties s) (spots_of (citing id ts))) e) ∙ k
    without false e k = k

-- ---- the parent

before_none : (x : Cites) (us : List Cites) (id : Bytes) → AllByRecursion (λ t. is_before t.spot x.spot ≡ false) us
    → option_map_or (λ t. is_before t.spot x.spot) (find (has_id id) us) false ≡ false
before_none x [] id a = refl
before_none x (u ∷ us) id a =
    elim (has_id id u) as (λ b. option_map_or (λ (t : Cites). is_before t.spot x.spot) (cond b (Some u) (find (has_id id) us)) false ≡ false) [ true ↦ a.0 | false ↦ before_none x us id a.1 ]

not_itself : (s : Spot) → is_before s s ≡ false
not_itself s =
    elim (is_before s s) as (λ b. is_before s s ≡ b → b ≡ false) [ false ↦ λ _. refl | true ↦ λ e. absurd (both_ways (is_before s s) (never_back spot_cmp spots_total s s e) e) ] refl

earlier_is : (before : List Cites) (x : Cites) (later : List Cites) (id : Bytes) → AllByRecursion (λ t. is_before t.spot x.spot ≡ true) before → AllByRecursion (λ t. is_before x.spot t.spot ≡ true) later
    → option_map_or (λ t. is_before t.spot x.spot) (find (has_id id) (before ++ x ∷ later)) false ≡ is_id_among before id
earlier_is [] x later id b a =
    before_none x (x ∷ later) id (not_itself x.spot, all_by (λ t. is_before x.spot t.spot ≡ true) (λ t. is_before t.spot x.spot ≡ false) (λ t h. never_back spot_cmp spots_total x.spot t.spot h) later a)
earlier_is (t ∷ before) x later id b a =
    elim (has_id id t) as (λ c. option_map_or (λ (u : Cites). is_before u.spot x.spot) (cond c (Some t) (find (has_id id) (before ++ x ∷ later))) false ≡ (c || is_id_among before id)) [ true ↦ b.0 | false ↦ earlier_is before x later id b.1 a ]

find_agree : {X : Type 0} (p q : X → Bool) → ((x : X) → p x ≡ q x) → (xs : List X) → find p xs ≡ find q xs
find_agree p q h [] = refl
find_agree p q h (x ∷ xs) = λ i. cond (h x i) (Some x) (find_agree p q h xs i)

-- the parent among those that are kept is the one among the earlier ones
pub parent_is : (es : Entries) → AreUnder es → (before : List Cites) (x : Cites) (later : List Cites) → cites_in es ≡ before ++ x ∷ later → IsBetween before x later
    → parent_in es x ≡ parent_among before x
parent_is es u before x later e p =
    find_agree (is_earlier es x) (is_id_among before) (λ id.
    alone (kept_at es id)
    ∙ ap (λ o. option_map_or (λ (t : Cites). is_before t.spot x.spot) o false) (sym (found_in es u id) ∙ ap (find (has_id id)) e)
    ∙ earlier_is before x later id p.below p.above) x.candidates
  where
    alone : (o : Option Kept) → option_map_or (λ k. is_before k.cites.spot x.spot) o false ≡ option_map_or (λ (t : Cites). is_before t.spot x.spot) (option_map (λ (k : Kept). k.cites) o) false
    alone None = refl
    alone (Some k) = refl

-- ---- the order of spots

above_spots : (x : Cites) (ts : List Cites) → Above cites_cmp x ts → Above spot_cmp x.spot (spots_of ts)
above_spots x [] a = tt
above_spots x (t ∷ ts) a = (a.0, above_spots x ts a.1)

rising_spots : (ts : List Cites) → Rising cites_cmp ts → Rising spot_cmp (spots_of ts)
rising_spots [] r = tt
rising_spots (t ∷ ts) r = (above_spots t ts r.0, rising_spots ts r.1)

pub sorted_spots : (es : Entries) → AreUnder es → (id : Bytes) → IsStrictlySortedBy spot_cmp (spots_of (citing id (cites_in es)))
sorted_spots es u id =
    sorted_from spot_cmp spots_total (spots_of (citing id (cites_in es))) (rising_spots (citing id (cites_in es)) (Rising-filter cites_cmp (λ t. is_among t.candidates id) (cites_in es) (sorted_in es u).rising))
