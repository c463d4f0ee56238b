-- Where a card stands among cards in mail order.
use Rattle.std.proofs.Common.{◌≡◌, ◌<◌, ◌≤◌, refl, ap, ◌∙◌, subst, ℕ, Bool, true, false, ◌||◌, cond, Some, List, [], ◌∷◌, ◌++◌, length, arith}
use Rattle.std.specs.Prelude.{filter}
use Rattle.std.specs.List.{find, list_any, AllByRecursion}
use Rattle.std.specs.declared.cmp.Ordering.{Ordering}
use Rattle.std.specs.declared.cmp.Ordering.TheVariants.{Less, Equal, Greater}
use Rattle.std.specs.Ordering.{is_lt, is_eq}
use Rattle.std.specs.Str.{bytes_eq}
use Rattle.std.proofs.lemmas.Bool.{both_ways, or_parts}
use Rattle.lists.proofs.Rising.{Rising, Above, below_of}
use Rattle.card_type.specs.declared.spot.Spot.{Spot}
use Rattle.card_type.specs.Spots.{spot_cmp}
use Rattle.card_type.proofs.Orders.{spots_total, spots_exact}
use Rattle.mailbox_model.specs.declared.links.Cites.{Cites}
use Rattle.mailbox_model.specs.Lists.{Bytes}
use Rattle.mailbox_model.specs.Chats.{cites_cmp, is_id_among, DistinctIds}
use Rattle.mailbox_model.proofs.MailLaws.{bytes_turn}
use Rattle.thread_links.proofs.WorkLaws.{Apart}
use Rattle.thread_links.specs.Work.{is_before, has_id}
use Rattle.thread_links.proofs.Working.{IsBetween}

-- the card with an id, and what stands before and after it
pub record Place (ts : List Cites) (x : Cites) : Type 0 where
  pub before : List Cites
  pub later : List Cites
  pub is : ts ≡ before ++ x ∷ later
  pub between : IsBetween before x later

above_all : (x : Cites) (ts : List Cites) → Above cites_cmp x ts → AllByRecursion (λ t. is_before x.spot t.spot ≡ true) ts
above_all x [] a = tt
above_all x (t ∷ ts) a = (a.0, above_all x ts a.1)

apart_all : (x : Cites) (ts : List Cites) → is_id_among ts x.spot.id ≡ false → Apart x ts
apart_all x [] n = tt
apart_all x (t ∷ ts) n = let parts = or_parts (bytes_eq x.spot.id t.spot.id) (is_id_among ts x.spot.id) n in (bytes_turn t.spot.id x.spot.id ∙ parts.0, apart_all x ts parts.1)

-- cards in mail order, each with an id of its own, around one of them
pub between : (before : List Cites) (x : Cites) (later : List Cites) → Rising cites_cmp (before ++ x ∷ later) → DistinctIds (before ++ x ∷ later) → IsBetween before x later
between [] x later r d = record { below = tt; above = above_all x later r.0; first = tt; last = apart_all x later d.0 }
between (t ∷ before) x later r d =
    let b = between before x later r.1 d.1 in
    let l = at before r.0 d.0 in
    record { below = (l.0, b.below); above = b.above; first = (l.1, b.first); last = b.last }
  where
    at : (us : List Cites) → Above cites_cmp t (us ++ x ∷ later) → is_id_among (us ++ x ∷ later) t.spot.id ≡ false → (is_before t.spot x.spot ≡ true) × (bytes_eq t.spot.id x.spot.id ≡ false)
    at [] a n = (a.0, (or_parts (bytes_eq t.spot.id x.spot.id) (is_id_among later t.spot.id) n).0)
    at (u ∷ us) a n = at us a.1 (or_parts (bytes_eq t.spot.id u.spot.id) (is_id_among (us ++ x ∷ later) t.spot.id) n).1

record Found (ts : List Cites) (x : Cites) : Type 0 where
  pub before : List Cites
  pub later : List Cites
  pub is : ts ≡ before ++ x ∷ later

-- of cards in mail order, each with an id of its own, one that is found has its place
pub place : (ts : List Cites) → Rising cites_cmp ts → DistinctIds ts → (id : Bytes) (x : Cites) → find (has_id id) ts ≡ Some x → Place ts x
place ts r d id x h = let p = found_at ts h in record { before = p.before; later = p.later; is = p.is; between = between p.before x p.later (subst (Rising cites_cmp) p.is r) (subst DistinctIds p.is d) }
  where
    found_at : (us : List Cites) → find (has_id id) us ≡ Some x → Found us x
    found_at [] k = cc
    found_at (u ∷ us) k =
        elim (has_id id u) as (λ b. cond b (Some u) (find (has_id id) us) ≡ Some x → Found (u ∷ us) x) [
          | true ↦ λ l. let same : u ≡ x = cc in record { before = []; later = us; is = ap (λ v. v ∷ us) same }
          | false ↦ λ l. let p = found_at us l in record { before = u ∷ p.before; later = p.later; is = ap (λ vs. u ∷ vs) p.is }
        ] k

-- ---- how much is left

-- how many cards come after a spot
abbrev pub later_count : List Cites → Spot → ℕ
later_count ts s = length (filter (λ t. is_before s t.spot) ts)

module _ (s next : Spot) (h : is_before s next ≡ true) where
  no_more : (ts : List Cites) → later_count ts next ≤ later_count ts s
  no_more [] = omega arith
  no_more (t ∷ ts) =
      elim (is_before next t.spot) as (λ b. is_before next t.spot ≡ b → length (cond b (t ∷ filter (λ u. is_before next u.spot) ts) (filter (λ u. is_before next u.spot) ts)) ≤ later_count (t ∷ ts) s) [
        | true ↦ λ e. let both : is_before s t.spot ≡ true = (below_of spot_cmp spots_total).trans s next t.spot h e in rw both (omega (arith, no_more ts))
        | false ↦ λ e. elim (is_before s t.spot) as (λ c. later_count ts next ≤ length (cond c (t ∷ filter (λ u. is_before s u.spot) ts) (filter (λ u. is_before s u.spot) ts))) [ true ↦ omega (arith, no_more ts) | false ↦ no_more ts ]
      ] refl

  -- after a later card there are fewer
  pub fewer : (ts : List Cites) → list_any (λ t. is_eq (spot_cmp next t.spot)) ts ≡ true → later_count ts next < later_count ts s
  fewer [] a = cc
  fewer (t ∷ ts) a =
      elim (is_eq (spot_cmp next t.spot)) as (λ b. is_eq (spot_cmp next t.spot) ≡ b → (b || list_any (λ u. is_eq (spot_cmp next u.spot)) ts) ≡ true → later_count (t ∷ ts) next < later_count (t ∷ ts) s) [
        | true ↦ λ e k.
            let same : next ≡ t.spot = spots_exact next t.spot (is_Equal (spot_cmp next t.spot) e) in
            let after : is_before s t.spot ≡ true = subst (λ p. is_before s p ≡ true) same h in
            let not_after : is_before next t.spot ≡ false = ap is_lt (is_Equal (spot_cmp next t.spot) e) in
            rw (after, not_after) (omega (arith, no_more ts))
        | false ↦ λ e k. step (is_before next t.spot) (is_before s t.spot) refl refl (fewer ts k)
      ] refl a
    where
      is_Equal : (o : Ordering) → is_eq o ≡ true → o ≡ Equal
      is_Equal Less e = cc
      is_Equal Equal e = refl
      is_Equal Greater e = cc

      step : (b c : Bool) → is_before next t.spot ≡ b → is_before s t.spot ≡ c → later_count ts next < later_count ts s
          → length (cond b (t ∷ filter (λ u. is_before next u.spot) ts) (filter (λ u. is_before next u.spot) ts)) < length (cond c (t ∷ filter (λ u. is_before s u.spot) ts) (filter (λ u. is_before s u.spot) ts))
      step true true eb ec l = omega (arith, l)
      step false true eb ec l = omega (arith, l)
      step false false eb ec l = l
      step true false eb ec l = absurd (both_ways (is_before s t.spot) ec ((below_of spot_cmp spots_total).trans s next t.spot h eb))
