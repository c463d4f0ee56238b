-- Calls that change no read.
use Rattle.std.proofs.Common.{◌≡◌, ℕ, Option, ◌∙◌, subst}
use Rattle.outside.specs.Places.{Places}
use Rattle.outside.specs.Moments.{WhereKnown, ChangesNoRead}
use Rattle.outside.proofs.Known.{known_on}
use Rattle.outside.proofs.Moments.{and_then}

module _ {D : Type 0} (seen : D → Option Places) (may_leave : D → Places → Type 0) (moment : D → ℕ) (left_since : D → ℕ → Places → Type 0) where
  pub and_more : (old mid new : D) → ChangesNoRead seen may_leave moment left_since old mid → ChangesNoRead seen may_leave moment left_since mid new → ChangesNoRead seen may_leave moment left_since old new
  and_more old mid new p q = record {
    reads = known_on (seen old) (seen mid) (seen new) (λ a b. b ≡ a) (λ a b. b ≡ a) (λ a b. b ≡ a) (λ x y z is a b. b ∙ a) p.reads q.reads;
    outcomes = λ c left. p.outcomes c (q.outcomes c left);
    any_moment = and_then moment left_since old mid new (may_leave old) (may_leave mid) (may_leave old) p.any_moment q.any_moment (λ c left. left) p.outcomes;
  }

  -- what holds of the contents after holds of them before
  pub seen_before : (old mid : D) (P : Places → Type 0) → ChangesNoRead seen may_leave moment left_since old mid → WhereKnown (seen mid) P → WhereKnown (seen old) P
  seen_before old mid P p h s is = let a = p.reads.forth s is in subst P a.holds (h a.places a.is)
