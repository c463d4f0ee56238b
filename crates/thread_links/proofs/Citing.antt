-- A spot that is put under some ids, or taken out from under them.
use Rattle.std.proofs.Common.{◌≡◌, ◌<◌, ◌+◌, refl, sym, ap, ◌∙◌, ℕ, Bool, true, false, not, ◌||◌, cond, List, [], ◌∷◌, ◌++◌, length, take, get_or}
use Rattle.std.specs.Prelude.{if◌then◌else◌, filter}
use Rattle.std.specs.List.{list_any}
use Rattle.std.specs.Ordering.{eq_by_cmp}
use Rattle.std.specs.Cmp.{eq_by_cmp_equiv}
use Rattle.std.specs.Cmp.Lexicographic.{bytes_decides}
use Rattle.std.specs.Str.{bytes_eq}
use Rattle.std.proofs.lemmas.Bool.{or_parts}
use Rattle.std.proofs.lemmas.List.{take_more}
use Rattle.std.proofs.lemmas.List.Folds.{list_any-append}
use Rattle.lists.specs.Sorted.{insert_by}
use Rattle.lists.proofs.Inserts.{None_of, none_filtered}
use Rattle.lists.proofs.Rising.{filter-insert_by-dropped}
use Rattle.card_type.specs.declared.spot.Spot.{Spot}
use Rattle.card_type.specs.Effects.{is_among}
use Rattle.card_type.specs.Spots.{spot_cmp}
use Rattle.card_type.proofs.Orders.{spots_total}
use Rattle.mailbox_model.specs.Lists.{Bytes}

abbrev pub ties : Spot → Spot → Bool
ties = eq_by_cmp spot_cmp

abbrev pub but : Spot → List Spot → List Spot
but s spots = filter (λ other. not (ties s other)) spots

pub none_tie : (s : Spot) (spots : List Spot) → list_any (ties s) spots ≡ false → None_of (ties s) spots
none_tie s [] n = tt
none_tie s (x ∷ spots) n = let parts = or_parts (ties s x) (list_any (ties s) spots) n in (parts.0, none_tie s spots parts.1)

ties_itself : (s : Spot) → ties s s ≡ true
ties_itself s = (eq_by_cmp_equiv spots_total).refl s

pub but_twice : (s : Spot) (spots : List Spot) → but s (but s spots) ≡ but s spots
but_twice s [] = refl
but_twice s (x ∷ spots) =
    elim (ties s x) as (λ b. ties s x ≡ b → but s (cond (not b) (x ∷ but s spots) (but s spots)) ≡ cond (not b) (x ∷ but s spots) (but s spots)) [
      | true ↦ λ e. but_twice s spots
      | false ↦ λ e. rw e (ap (λ us. x ∷ us) (but_twice s spots))
    ] refl

pub but_none : (s : Spot) (spots : List Spot) → list_any (ties s) spots ≡ false → but s spots ≡ spots
but_none s spots n = none_filtered (ties s) spots (none_tie s spots n)

-- the spots of an id, once a spot is put under it, are the others again without it
but_put : (s : Spot) (spots : List Spot) (b : Bool) → list_any (ties s) spots ≡ false
    → but s (if b then insert_by spot_cmp s spots else spots) ≡ spots
but_put s spots true n = filter-insert_by-dropped spot_cmp (λ other. not (ties s other)) s spots (ap not (ties_itself s)) ∙ but_none s spots n
but_put s spots false n = but_none s spots n

but_but : (s : Spot) (spots : List Spot) (b : Bool) → but s (if b then but s spots else spots) ≡ but s spots
but_but s spots true = but_twice s spots
but_but s spots false = refl

among_more : (ids : List Bytes) (x id : Bytes) → is_among (ids ++ x ∷ []) id ≡ (is_among ids id || bytes_eq id x)
among_more ids x id = list_any-append (bytes_eq id) ids (x ∷ []) ∙ ap (λ b. is_among ids id || b) (or_false (bytes_eq id x))
  where
    or_false : (b : Bool) → (b || false) ≡ b
    or_false true = refl
    or_false false = refl

or_true : (b : Bool) → (b || true) ≡ true
or_true true = refl
or_true false = refl

or_none : (b : Bool) → (b || false) ≡ b
or_none true = refl
or_none false = refl

bytes_back : (x id : Bytes) → bytes_eq x id ≡ false → bytes_eq id x ≡ false
bytes_back x id n =
    elim (bytes_eq id x) as (λ b. bytes_eq id x ≡ b → b ≡ false) [
      | false ↦ λ _. refl
      | true ↦ λ e. sym ((bytes_decides x id).1 (sym ((bytes_decides id x).0 e))) ∙ n
    ] refl

-- one more id: what the others have stays, and it has the new ones
module _ (F : Bytes → List Spot) (with : Bytes → List Spot) (G H : Bytes → List Spot) (ids : List Bytes) (x : Bytes)
    (so_far : (id : Bytes) → G id ≡ (if is_among ids id then with id else F id))
    (here : H x ≡ with x) (others : (id : Bytes) → bytes_eq x id ≡ false → H id ≡ G id) where
  step : (id : Bytes) → H id ≡ (if is_among (ids ++ x ∷ []) id then with id else F id)
  step id =
      elim (bytes_eq x id) as (λ b. bytes_eq x id ≡ b → H id ≡ (if is_among (ids ++ x ∷ []) id then with id else F id)) [
        | true ↦ λ e.
            let same : x ≡ id = (bytes_decides x id).0 e in
            let among : is_among (ids ++ x ∷ []) id ≡ true = among_more ids x id ∙ ap (λ b. is_among ids id || b) ((bytes_decides id x).1 (sym same)) ∙ or_true (is_among ids id) in
            ap H (sym same) ∙ here ∙ ap with same ∙ sym (ap (λ b. if b then with id else F id) among)
        | false ↦ λ e.
            let among : is_among (ids ++ x ∷ []) id ≡ is_among ids id = among_more ids x id ∙ ap (λ b. is_among ids id || b) (bytes_back x id e) ∙ or_none (is_among ids id) in
            others id e ∙ so_far id ∙ sym (ap (λ b. if b then with id else F id) among)
      ] refl

module _ (s : Spot) (F G H : Bytes → List Spot) (ids : List Bytes) (i : ℕ) (x : Bytes) (in_range : i < length ids) (is : x ≡ get_or ids i x) where
  more : take (i + 1) ids ≡ take i ids ++ x ∷ []
  more = take_more ids i x in_range ∙ ap (λ y. take i ids ++ y ∷ []) (sym is)

  pub cited_more : ((id : Bytes) → list_any (ties s) (F id) ≡ false)
      → ((id : Bytes) → G id ≡ (if is_among (take i ids) id then insert_by spot_cmp s (F id) else F id))
      → H x ≡ insert_by spot_cmp s (but s (G x)) → ((id : Bytes) → bytes_eq x id ≡ false → H id ≡ G id)
      → (id : Bytes) → H id ≡ (if is_among (take (i + 1) ids) id then insert_by spot_cmp s (F id) else F id)
  cited_more absent so_far here others id =
      step F (λ q. insert_by spot_cmp s (F q)) G H (take i ids) x so_far
      (here ∙ ap (λ spots. insert_by spot_cmp s (but s spots)) (so_far x) ∙ ap (insert_by spot_cmp s) (but_put s (F x) (is_among (take i ids) x) (absent x))) others id
      ∙ ap (λ us. if is_among us id then insert_by spot_cmp s (F id) else F id) (sym more)

  pub uncited_more : ((id : Bytes) → G id ≡ (if is_among (take i ids) id then but s (F id) else F id))
      → H x ≡ but s (G x) → ((id : Bytes) → bytes_eq x id ≡ false → H id ≡ G id)
      → (id : Bytes) → H id ≡ (if is_among (take (i + 1) ids) id then but s (F id) else F id)
  uncited_more so_far here others id =
      step F (λ q. but s (F q)) G H (take i ids) x so_far
      (here ∙ ap (but s) (so_far x) ∙ but_but s (F x) (is_among (take i ids) x)) others id
      ∙ ap (λ us. if is_among us id then but s (F id) else F id) (sym more)
