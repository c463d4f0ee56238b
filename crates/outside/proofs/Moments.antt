-- Several calls of a shelf, one after the other: what a crash may leave.
use Rattle.std.proofs.Common.{inl, inr, ⊎_elim, ℕ, List, length, refl, arith}
use Rattle.std.proofs.lemmas.List.{take_all}
use Rattle.outside.specs.declared.shelf.Place.{Place}
use Rattle.outside.specs.declared.shelf.Place.TheVariants.{A, B, T}
use Rattle.outside.specs.Places.{Places, Changes}
use Rattle.outside.specs.Crash.{Elapses, Follows, WasOutcome, Torn, PartlyCut}
use Rattle.outside.specs.Moments.{LeavesOnly, Reached}

module _ {D : Type 0} (moment : D → ℕ) (left_since : D → ℕ → Places → Type 0) where
  pub started : (old : D) (P : Places → Type 0) → ((c : Places) → left_since old (moment old) c → P c) → LeavesOnly moment left_since old old P
  started old P here = record { later = omega arith; each = here; before = λ t c le left. inl left }

  -- one call more, after which a crash leaves what has P
  pub goes_on : (old mid new : D) (P may_leave : Places → Type 0) → LeavesOnly moment left_since old mid P → Elapses (moment mid) (moment new) (left_since mid) (left_since new) may_leave
      → ((c : Places) → may_leave c → P c) → LeavesOnly moment left_since old new P
  goes_on old mid new P may_leave so_far clock here = record {
    later = omega (arith, so_far.later, clock.later);
    each = λ c left. ⊎_elim (so_far.each c) (here c) (clock.nothing_else (moment old) c so_far.later left);
    before = λ t c le left. ⊎_elim (so_far.before t c le) (λ now. inr (here c now)) (clock.nothing_else t c (omega (arith, le, so_far.later)) left);
  }

  -- some calls after others
  pub and_then : (old mid new : D) (P Q R : Places → Type 0) → LeavesOnly moment left_since old mid P → LeavesOnly moment left_since mid new Q
      → ((c : Places) → P c → R c) → ((c : Places) → Q c → R c) → LeavesOnly moment left_since old new R
  and_then old mid new P Q R first second p q = record {
    later = omega (arith, first.later, second.later);
    each = λ c left. ⊎_elim (λ l. p c (first.each c l)) (q c) (second.before (moment old) c first.later left);
    before = λ t c le left. ⊎_elim (λ l. ⊎_elim (λ o. inl o) (λ h. inr (p c h)) (first.before t c le l)) (λ h. inr (q c h)) (second.before t c (omega (arith, le, first.later)) left);
  }

  pub weaker : (old new : D) (P R : Places → Type 0) → LeavesOnly moment left_since old new P → ((c : Places) → P c → R c) → LeavesOnly moment left_since old new R
  weaker old new P R run p = record { later = run.later; each = λ c left. p c (run.each c left); before = λ t c le left. ⊎_elim (λ o. inl o) (λ h. inr (p c h)) (run.before t c le left) }

  -- a call that changes what a crash may leave
  pub one_call : (old new : D) (change : Places → Places → Type 0) (may_old may_new : Places → Type 0) → ((c : Places) → left_since old (moment old) c → may_old c) → ((c : Places) → change c c)
      → Elapses (moment old) (moment new) (left_since old) (left_since new) may_new → Follows change may_old may_new → LeavesOnly moment left_since old new (Reached may_old change)
  one_call old new change may_old may_new only_now nothing clock follows =
      goes_on old old new (Reached may_old change) may_new (started old (Reached may_old change) (λ c left. (c, only_now c left, nothing c))) clock follows

  -- and a sync after it
  pub call_and_sync : (old mid new : D) (change : Places → Places → Type 0) (may_old may_mid may_new : Places → Type 0) → ((c : Places) → left_since old (moment old) c → may_old c) → ((c : Places) → change c c)
      → Elapses (moment old) (moment mid) (left_since old) (left_since mid) may_mid → Follows change may_old may_mid
      → Elapses (moment mid) (moment new) (left_since mid) (left_since new) may_new → WasOutcome may_mid may_new → LeavesOnly moment left_since old new (Reached may_old change)
  call_and_sync old mid new change may_old may_mid may_new only_now nothing clock follows clock2 was =
      goes_on old mid new (Reached may_old change) may_new (one_call old mid change may_old may_mid only_now nothing clock follows) clock2 (λ c now. follows c (was c now))

-- a write or a cut of which nothing came to the disk
pub torn_same : (at n : ℕ) (old : List ℕ) → Torn at n old old
torn_same at n old = record { before = refl; after = refl; no_shorter = omega arith; no_longer = omega arith }

pub cut_same : (n : ℕ) (old : List ℕ) → PartlyCut n old old
cut_same n old = record { no_longer = omega arith; no_shorter = omega arith; front = take_all (length old) old (omega arith) }

-- a change that may leave a content as it is may leave the three so
pub nothing_changed : (place : Place) (change : List ℕ → List ℕ → Type 0) (c : Places) → ((l : List ℕ) → change l l) → Changes place change c c
nothing_changed A change c same = (same c.a, refl, refl)
nothing_changed B change c same = (refl, same c.b, refl)
nothing_changed T change c same = (refl, refl, same c.t)
