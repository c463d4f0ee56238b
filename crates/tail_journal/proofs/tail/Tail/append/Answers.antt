use Rattle.std.proofs.Common.{◌≡◌, List, ℕ, ◌++◌, ◌+◌, ◌∷◌, length, ◌∙◌, ap, subst, length-append}
use Rattle.std.specs.List.{between}
use Rattle.outside.specs.declared.shelf.Place.TheVariants.{T}
use Rattle.outside.specs.Places.{Changes}
use Rattle.outside.specs.Moments.{Reached}
use Rattle.outside.proofs.Moments.{weaker}
use Rattle.outside.proofs.Known.{known_as}
use Rattle.tail_journal.specs.Tails.{MayGrow, KeepsOrAdds, Adds}
use Rattle.tail_journal.proofs.Appended.{kept_or_added, adds, gate_first, reached_as}
use Rattle.tail_journal.proofs.tail.Tail.append.Goals as goal

pub returns-in-Ok-clause-any_moment : goal.returns-in-Ok-clause-any_moment
returns-in-Ok-clause-any_moment g c s is =
    let H = g.H.Shelf in
    let group = c.args.group.now in
    let start = H.may_leave c.args.shelf.now in
    let whole = gate_first group c.requires.group in
    weaker H.moment H.left_since c.args.shelf.now c.append_at.new.shelf (Reached start (Changes T (MayGrow (1 ∷ between 1 (length group) group)))) (Reached start (Changes T (KeepsOrAdds group))) (c.append_at.ensures.any_moment s is)
    (reached_as (MayGrow (1 ∷ between 1 (length group) group)) (KeepsOrAdds group) start (λ x y grows. kept_or_added group x y (subst (λ (l : List ℕ). MayGrow l x y) whole grows)))

pub returns-in-Err-clause-any_moment : goal.returns-in-Err-clause-any_moment
returns-in-Err-clause-any_moment g c s is =
    let H = g.H.Shelf in
    let group = c.args.group.now in
    let start = H.may_leave c.args.shelf.now in
    let whole = gate_first group c.requires.group in
    weaker H.moment H.left_since c.args.shelf.now c.append_at.new.shelf (Reached start (Changes T (MayGrow (1 ∷ between 1 (length group) group)))) (Reached start (Changes T (KeepsOrAdds group))) (c.append_at.ensures.any_moment s is)
    (reached_as (MayGrow (1 ∷ between 1 (length group) group)) (KeepsOrAdds group) start (λ x y grows. kept_or_added group x y (subst (λ (l : List ℕ). MayGrow l x y) whole grows)))

pub returns-in-Ok-clause-appended : goal.returns-in-Ok-clause-appended
returns-in-Ok-clause-appended g c =
    let seen = g.H.Shelf.seen in
    let group = c.args.group.now in
    known_as (seen c.args.shelf.now) (seen c.append_at.new.shelf) (Changes T (λ (old new : List ℕ). new ≡ old ++ 1 ∷ between 1 (length group) group)) (Changes T (λ (old new : List ℕ). new ≡ old ++ group))
    (λ x y is h. (h.0, h.1, h.2 ∙ ap (λ (l : List ℕ). x.t ++ l) (gate_first group c.requires.group))) c.in-Ok.ensures.grown

pub returns-in-Ok-clause-added : goal.returns-in-Ok-clause-added
returns-in-Ok-clause-added g c =
    let seen = g.H.Shelf.seen in
    let group = c.args.group.now in
    known_as (seen c.args.shelf.now) (seen c.append_at.new.shelf) (Changes T (λ (old new : List ℕ). new ≡ old ++ 1 ∷ between 1 (length group) group)) (Changes T (Adds group))
    (λ x y is h. (h.0, h.1, adds group x.t y.t (h.2 ∙ ap (λ (l : List ℕ). x.t ++ l) (gate_first group c.requires.group)))) c.in-Ok.ensures.grown

pub returns-in-Ok-clause-known : goal.returns-in-Ok-clause-known
returns-in-Ok-clause-known g c y is =
    let group = c.args.group.now in
    let b = c.in-Ok.ensures.grown.back y is in
    let t : y.t ≡ b.places.t ++ group = b.holds.2 ∙ ap (λ (l : List ℕ). b.places.t ++ l) (gate_first group c.requires.group) in
    record {
      settled = c.in-Ok.ensures.settled y is;
      size = ap length t ∙ length-append b.places.t group ∙ ap (λ (k : ℕ). k + length group) (c.requires.known b.places b.is).size;
    }
