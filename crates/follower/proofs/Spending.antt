-- What a run spends: more changes and commits spend no less, and a run on its way has made no more of them than it makes in all.
use Rattle.std.proofs.Common.{◌≡◌, ℕ, zero, suc, ◌+◌, ◌-◌, ◌*◌, ◌/◌, ◌≤◌, List, [], ◌∷◌, ◌++◌, length, map, take, Option, None, Some, refl, sym, ap, subst, ◌∙◌, arith}
use Rattle.std.proofs.Math.Nat.{le-div_iff_mul-le}
use Rattle.std.proofs.Math.Seq.{take-append-add}
use Rattle.std.proofs.lemmas.List.{map-append}
use Rattle.mailbox_model.specs.declared.change.Change.{Change}
use Rattle.mailbox_model.specs.Mailbox.{Mailbox, after, after_all}
use Rattle.state_store.specs.Commits.{Fill}
use Rattle.state_store.specs.States.{State}
use Rattle.touched_chats.specs.Costs.{change_cost, change_costs}
use Rattle.follower.specs.Feed.{Fed, Feed, after_fed, fed_first}
use Rattle.follower.specs.Going.{AreMade, after_feds}
use Rattle.follower.specs.Reached.{Stop, committed_of, count_made}
use Rattle.follower.specs.Spending.{Counts, RoseWithin, counts, commits_of, feds_cost, next_cost, spent_by, tried, with_reads}
use Rattle.follower.proofs.Going.{count_done}

-- ---- more changes

pub costs_more : (m : Mailbox) (done others : List Change) → change_costs m (done ++ others) ≡ change_costs m done + change_costs (after_all m done) others
costs_more m [] others = omega arith
costs_more m (change ∷ done) others = omega (arith, costs_more (after m change) done others)

changes_made : (s : State) (done : List Fed) → (after_feds s done).mailbox ≡ after_all s.mailbox (map (λ (f : Fed). f.change) done)
changes_made s [] = refl
changes_made s (f ∷ fs) = changes_made (after_fed s f) fs

feds_more : (s : State) (done others : List Fed) → feds_cost s (done ++ others) ≡ feds_cost s done + feds_cost (after_feds s done) others
feds_more s done others =
    ap (change_costs s.mailbox) (map-append (λ (f : Fed). f.change) done others) ∙ costs_more s.mailbox (map (λ (f : Fed). f.change) done) (map (λ (f : Fed). f.change) others)
    ∙ ap (λ (m : Mailbox). feds_cost s done + change_costs m (map (λ (f : Fed). f.change) others)) (sym (changes_made s done))

-- one change more
pub feds_one_more : (s : State) (done : List Fed) (f : Fed) → feds_cost s (done ++ f ∷ []) ≡ feds_cost s done + change_cost (after_feds s done).mailbox f.change
feds_one_more s done f = omega (arith, feds_more s done (f ∷ []))

-- what the next one costs
pub next_is : (s : State) (feed : Feed) (f : Fed) (later : Feed) → feed ≡ fed_first f later → next_cost s feed.changes ≡ change_cost s.mailbox f.change
next_is s feed f later is = omega (arith, ap (λ (x : Feed). next_cost s x.changes) is)

next_within : (s : State) (fs : List Fed) (n : ℕ) → next_cost s fs ≤ feds_cost s (take (suc n) fs)
next_within s [] n = omega arith
next_within s (f ∷ fs) n = omega arith

-- of a run: those that are done, and one more
pub tried_cost : (s : State) (feed : Feed) (done others : List Fed) → feed.changes ≡ done ++ others → AreMade s done
    → feds_cost s done + next_cost (after_feds s done) others ≤ feds_cost s (tried s feed)
tried_cost s feed done others is made =
    let n = count_made (after_feds s done) others in
    let count : count_made s feed.changes + 1 ≡ length done + suc n = omega (arith, ap (count_made s) is, count_done s done others made) in
    let all : tried s feed ≡ done ++ take (suc n) others = (λ i. take (count i) (is i)) ∙ take-append-add done others (suc n) in
    omega (arith, ap (feds_cost s) all, feds_more s done (take (suc n) others), next_within (after_feds s done) others n)

-- ---- more commits

-- where nothing is read
pub stays_within : (c : Counts) (reads : ℕ) → RoseWithin c (counts reads 0) c
stays_within c reads = record { reads = omega arith; written = omega arith }

at_most : (a b c : ℕ) → a ≤ b → a ≤ b + c
at_most a b c le = omega (arith, le)

module _ (s : State) (fill : Fill) (changes : List Fed) where
  abbrev counted : ℕ → Counts
  counted n = (spent_by s fill changes n).counts

  abbrev NoLess : ℕ → ℕ → Type 0
  NoLess m n = ((counted m).reads ≤ (counted n).reads) × ((counted m).written ≤ (counted n).written)

  no_less : (m d n : ℕ) → n ≡ m + d → NoLess m n
  no_less m zero n is =
      let same : n ≡ m = omega (arith, is) in
      subst (NoLess m) (sym same) (omega arith, omega arith)
  no_less m (suc d) n is =
      let next : n ≡ suc (m + d) = omega (arith, is) in
      let before = no_less m d (m + d) refl in
      subst (NoLess m) (sym next) (at_most (counted m).reads (counted (m + d)).reads _ before.0, at_most (counted m).written (counted (m + d)).written _ before.1)

  -- and more changes
  pub more_spends : (m n c d : ℕ) (old now : Counts) → m ≤ n → c ≤ d → RoseWithin old (with_reads c (counted m)) now → RoseWithin old (with_reads d (counted n)) now
  more_spends m n c d old now le costs rose =
      let more = no_less m (n - m) n (omega (arith, le)) in
      record { reads = omega (arith, rose.reads, more.0, costs); written = omega (arith, rose.written, more.1) }

-- ---- how many commits there are

div_up : (m x : ℕ) → 256 * m ≤ x → m ≤ x / 256
div_up m x le = (le-div_iff_mul-le {k = 256} {x = m} {y = x} (omega arith)).1 (omega (arith, le))

-- those of all whole commits
pub whole_are_made : (m made : ℕ) (stop : Option Stop) → 256 * m ≤ made → m ≤ commits_of (committed_of stop made)
whole_are_made m made None le = div_up m (made + 255) (omega (arith, le))
whole_are_made m made (Some why) le =
    let up = div_up m made le in
    div_up m (256 * (made / 256) + 255) (omega (arith, up))

-- and one of those that are left
pub last_is_made : (m pending : ℕ) → 1 ≤ pending → suc m ≤ commits_of (256 * m + pending)
last_is_made m pending some = div_up (suc m) (256 * m + pending + 255) (omega (arith, some))
