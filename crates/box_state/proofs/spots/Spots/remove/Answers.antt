use Rattle.std.proofs.Common.{◌≡◌, refl, sym, ap, ◌∙◌, subst, ℕ, Bool, true, false, not, List}
use Rattle.std.specs.Prelude.{if◌then◌else◌, filter}
use Rattle.std.specs.Str.{bytes_eq}
use Rattle.std.specs.Cmp.Lexicographic.{bytes_decides}
use Rattle.lists.specs.Ordered.{Ordered, values_at}
use Rattle.card_type.specs.declared.spot.Spot.{Spot}
use Rattle.box_state.specs.Spots.{spot_at, copies_at, copies_but, dated, ties}
use Rattle.box_state.proofs.spots.Spots.remove.Goals as goal

module _ (before after : List (List ℕ × Ordered (ℕ × ℕ))) (spot : Spot)
    (at : values_at after spot.id ≡ filter (λ copy. not (ties (dated spot) copy)) (values_at before spot.id))
    (others : (other : List ℕ) → bytes_eq spot.id other ≡ false → values_at after other ≡ values_at before other) where
  one_left : (id : List ℕ) → values_at after id ≡ (if bytes_eq spot.id id then filter (λ copy. not (ties (dated spot) copy)) (values_at before id) else values_at before id)
  one_left id = by (bytes_eq spot.id id) refl
    where
      by : (b : Bool) → bytes_eq spot.id id ≡ b
          → values_at after id ≡ (if b then filter (λ copy. not (ties (dated spot) copy)) (values_at before id) else values_at before id)
      by true e =
          subst (λ other. values_at after other ≡ filter (λ copy. not (ties (dated spot) copy)) (values_at before other)) ((bytes_decides spot.id id).0 e) at
      by false e = others id e

pub returns-in-Some-clause-copies : goal.returns-in-Some-clause-copies
returns-in-Some-clause-copies c id =
    let there = sym c.in-Some.is ∙ c.remove.ensures.value ∙ ap (λ table. spot_at table c.args.uid) c.self.view_is in
    one_left c.self.inside.copies c.remove-in-Some.new.self c.in-Some.spot c.remove-in-Some.ensures.at c.remove-in-Some.ensures.others id
    ∙ (λ i. copies_but (there i) id (copies_at (c.self.view_is i) id))
