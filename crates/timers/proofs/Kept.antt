-- Deadlines in order, of which each is known under its uid.
use Rattle.std.proofs.Common.{◌≡◌, ◌<◌, refl, sym, ap, ◌∙◌, ℕ, Bool, true, false, not, ◌==◌, nat_eq, cond, Option, Some, None, List, [], ◌∷◌, arith}
use Rattle.std.specs.Prelude.{IfSome, IsSome, ◌↔◌, length}
use Rattle.std.specs.List.{All, AllByRecursion, slice_get}
use Rattle.std.specs.List.Sorted.{IsStrictlySortedBy}
use Rattle.std.specs.declared.cmp.Ordering.TheVariants.{Less, Equal, Greater}
use Rattle.std.specs.Map.{lookup}
use Rattle.std.specs.Ordering.{is_eq, is_gt, is_lt, match_ordering}
use Rattle.std.specs.BTreeMap.{is_at}
use Rattle.std.specs.BTreeSet.{insert_key}
use Rattle.std.specs.Set.{remove_key}
use Rattle.std.proofs.lemmas.Bool.{both_ways, false≢true}
use Rattle.std.proofs.lemmas.Bool.Decides.{nat_tests}
use Rattle.std.proofs.lemmas.List.Elements.{All-head, All-tail}
use Rattle.lists.specs.Sorted.{insert_by}
use Rattle.lists.proofs.Inserts.{None_of, none_filtered, filter_none, All-filter, All-insert_by}
use Rattle.timers.specs.Deadlines.{deadline_cmp, without_uid, AreKnown}

abbrev Deadlines : Type 0
Deadlines = List (ℕ × ℕ)

-- has the uid
abbrev pub of_uid : ℕ → ℕ × ℕ → Bool
of_uid uid p = p.1 == uid

-- one that ties with a deadline has its uid, and one of that uid and moment ties
tie_uid : (e u f v : ℕ) → is_at (deadline_cmp (e, u)) (f, v) ≡ true → (v == u) ≡ true
tie_uid e u f v tie = grind (arith, nat_tests)

tied : (e u v : ℕ) → (v == u) ≡ true → is_at (deadline_cmp (e, u)) (e, v) ≡ true
tied e u v same = grind (arith, nat_tests)

never_less : (e u v : ℕ) → (v == u) ≡ true → is_lt (deadline_cmp (e, u) (e, v)) ≡ false
never_less e u v same = grind (arith, nat_tests)

-- ---- a deadline is dropped

-- where the least deadline is known, the others are of other uids
pub others : (m : Deadlines) (p : ℕ × ℕ) (ds : Deadlines) → AreKnown m (p ∷ ds) → AllByRecursion (λ d. deadline_cmp p d ≡ Less) ds
    → None_of (of_uid p.1) ds
others m p [] known above = tt
others m p (d ∷ ds) known above = (elim (of_uid p.1 d) as (λ b. of_uid p.1 d ≡ b → b ≡ false) [ true ↦ λ same. clash same | false ↦ λ _. refl ] refl, others m p ds (known.0, known.1.1) above.1)
  where
    clash : of_uid p.1 d ≡ true → true ≡ false
    clash same =
        let here : d.1 ≡ p.1 = grind (arith, nat_tests) in
        let moments : Some d.0 ≡ Some p.0 = sym known.1.0 ∙ ap (λ u. lookup (nat_eq u) m) here ∙ known.0 in
        let moment : d.0 ≡ p.0 = cc in
        grind (arith, nat_tests)

-- the deadline that a uid has is the only one of that uid
pub remove_deadline : (m ds : Deadlines) (expiry uid : ℕ) → lookup (nat_eq uid) m ≡ Some expiry → AreKnown m ds → IsStrictlySortedBy deadline_cmp ds
    → remove_key (is_at (deadline_cmp (expiry, uid))) ds ≡ without_uid uid ds
unfolding IsStrictlySortedBy
remove_deadline m [] expiry uid found known rises = refl
remove_deadline m (d ∷ ds) expiry uid found known rises =
    elim (of_uid uid d) as (λ b. of_uid uid d ≡ b → cond (is_at (deadline_cmp (expiry, uid)) d) ds (d ∷ remove_key (is_at (deadline_cmp (expiry, uid))) ds) ≡ cond (not b) (d ∷ without_uid uid ds) (without_uid uid ds)) [
      | true ↦ λ same. first same
      | false ↦ λ apart. rw (no_tie apart) (ap (λ es. d ∷ es) (remove_deadline m ds expiry uid found known.1 rises.1))
    ] refl
  where
    no_tie : of_uid uid d ≡ false → is_at (deadline_cmp (expiry, uid)) d ≡ false
    no_tie apart = elim (is_at (deadline_cmp (expiry, uid)) d) as (λ b. is_at (deadline_cmp (expiry, uid)) d ≡ b → b ≡ false) [ true ↦ λ tie. absurd (both_ways (of_uid uid d) apart (tie_uid expiry uid d.0 d.1 tie)) | false ↦ λ _. refl ] refl

    first : of_uid uid d ≡ true → cond (is_at (deadline_cmp (expiry, uid)) d) ds (d ∷ remove_key (is_at (deadline_cmp (expiry, uid))) ds) ≡ without_uid uid ds
    first same =
        let here : d.1 ≡ uid = grind (arith, nat_tests) in
        let moments : Some d.0 ≡ Some expiry = sym known.0 ∙ ap (λ u. lookup (nat_eq u) m) here ∙ found in
        let moment : d.0 ≡ expiry = cc in
        let ties : is_at (deadline_cmp (expiry, uid)) d ≡ true = grind (arith, nat_tests) in
        let rest : None_of (of_uid uid) ds = rw here at (others m d ds known rises.0) in
        rw ties (sym (none_filtered (of_uid uid) ds rest))

-- a uid that has none is the uid of none
pub no_deadline : (m ds : Deadlines) (uid : ℕ) → lookup (nat_eq uid) m ≡ None → AreKnown m ds → None_of (of_uid uid) ds
no_deadline m [] uid none known = tt
no_deadline m (d ∷ ds) uid none known = (elim (of_uid uid d) as (λ b. of_uid uid d ≡ b → b ≡ false) [ true ↦ λ same. clash same | false ↦ λ _. refl ] refl, no_deadline m ds uid none known.1)
  where
    clash : of_uid uid d ≡ true → true ≡ false
    clash same =
        let here : d.1 ≡ uid = grind (arith, nat_tests) in
        let moments : Some d.0 ≡ None = sym known.0 ∙ ap (λ u. lookup (nat_eq u) m) here ∙ none in
        cc

-- ---- what is known stays known

-- a map that differs at another uid alone
pub still_known : (m n ds : Deadlines) (uid : ℕ) (value : Option ℕ) → ((q : ℕ) → lookup (nat_eq q) n ≡ cond (nat_eq uid q) value (lookup (nat_eq q) m))
    → None_of (of_uid uid) ds → AreKnown m ds → AreKnown n ds
still_known m n [] uid value only none known = tt
still_known m n (d ∷ ds) uid value only none known = (only d.1 ∙ rw other known.0, still_known m n ds uid value only none.1 known.1)
  where
    other : nat_eq uid d.1 ≡ false
    other = let apart = none.0 in grind (arith, nat_tests)

-- ---- a deadline is put

pub insert_deadline : (ds : Deadlines) (expiry uid : ℕ) → None_of (of_uid uid) ds
    → insert_key deadline_cmp ds (expiry, uid) ≡ insert_by deadline_cmp (expiry, uid) ds
insert_deadline [] expiry uid none = refl
insert_deadline (d ∷ ds) expiry uid none =
    elim (deadline_cmp (expiry, uid) d) as (λ o. deadline_cmp (expiry, uid) d ≡ o → match_ordering o ((expiry, uid) ∷ d ∷ ds) (d ∷ ds) (d ∷ insert_key deadline_cmp ds (expiry, uid)) ≡ cond (is_lt o) ((expiry, uid) ∷ d ∷ ds) (d ∷ insert_by deadline_cmp (expiry, uid) ds)) [
      | Less ↦ λ _. refl
      | Equal ↦ λ tie. absurd (both_ways (of_uid uid d) none.0 (tie_uid expiry uid d.0 d.1 (ap is_eq tie)))
      | Greater ↦ λ _. ap (λ es. d ∷ es) (insert_deadline ds expiry uid none.1)
    ] refl

-- ---- what is not due

pub none_due : (now expiry uid : ℕ) (ds : Deadlines) → now < expiry → All (λ d. is_gt (deadline_cmp (expiry, uid) d) ≡ false) ds
    → AllByRecursion (λ d. now < d.0) ds
none_due now expiry uid [] later least = tt
none_due now expiry uid (d ∷ ds) later least =
    let Below : ℕ × ℕ → Type 0 = λ e. is_gt (deadline_cmp (expiry, uid) e) ≡ false in
    let here = All-head Below d ds least in
    (grind (arith, nat_tests), none_due now expiry uid ds later (All-tail Below d ds least))

-- ---- without a uid

module _ (m n ds : Deadlines) (uid : ℕ) (only : (q : ℕ) → lookup (nat_eq q) n ≡ cond (nat_eq uid q) None (lookup (nat_eq q) m)) (known : AreKnown m ds) where
  -- what is left is known without the uid
  pub known_without : AreKnown n (without_uid uid ds)
  known_without =
      still_known m n (without_uid uid ds) uid None only (filter_none (of_uid uid) ds)
      (All-filter (λ d. lookup (nat_eq d.1) m ≡ Some d.0) (λ d. not (of_uid uid d)) ds known)

  -- where the map had none, nothing is left out
  pub none_without : lookup (nat_eq uid) m ≡ None → ds ≡ without_uid uid ds
  none_without none = sym (none_filtered (of_uid uid) ds (no_deadline m ds uid none known))

-- so is what is left without the least one
pub known_rest : (m n ds : Deadlines) (p : ℕ × ℕ) → ((q : ℕ) → lookup (nat_eq q) n ≡ cond (nat_eq p.1 q) None (lookup (nat_eq q) m))
    → AreKnown m (p ∷ ds) → IsStrictlySortedBy deadline_cmp (p ∷ ds) → AreKnown n ds
unfolding IsStrictlySortedBy
known_rest m n ds p only known rises = still_known m n ds p.1 None only (others m p ds known rises.0) known.1

-- and nothing is left of the uid of the least one
pub none_left : (m : Deadlines) (p : ℕ × ℕ) (ds : Deadlines) → AreKnown m (p ∷ ds) → IsStrictlySortedBy deadline_cmp (p ∷ ds) → without_uid p.1 ds ≡ ds
unfolding IsStrictlySortedBy
none_left m p ds known rises = none_filtered (of_uid p.1) ds (others m p ds known rises.0)

-- what is taken out first is the first
pub popped : (taken : Option (ℕ × ℕ)) (p : ℕ × ℕ) (old new : Deadlines) → IfSome taken (λ q. old ≡ q ∷ new) → (IsSome taken ↔ (0 < length old))
    → slice_get old 0 ≡ Some p → old ≡ p ∷ new
popped None p [] new removal variant first = cc
popped None p (d ∷ ds) new removal variant first = absurd (false≢true (variant.1 (omega arith)))
popped (Some q) p old new removal variant first =
    let here : Some q ≡ Some p = rw removal at first in
    let same : q ≡ p = cc in
    removal ∙ ap (λ r. r ∷ new) same

-- ---- with another deadline for a uid that has none

module _ (m n ds : Deadlines) (expiry uid : ℕ) (only : (q : ℕ) → lookup (nat_eq q) n ≡ cond (nat_eq uid q) (Some expiry) (lookup (nat_eq q) m)) (known : AreKnown m ds)
    (none : None_of (of_uid uid) ds) where
  pub known_before : AreKnown n ds
  known_before = still_known m n ds uid (Some expiry) only none known

  pub known_with : AreKnown n (insert_by deadline_cmp (expiry, uid) ds)
  known_with =
      All-insert_by deadline_cmp (λ d. lookup (nat_eq d.1) n ≡ Some d.0) (expiry, uid) ds (only uid ∙ rw same refl) known_before
    where
      same : nat_eq uid uid ≡ true
      same = grind (arith, nat_tests)
