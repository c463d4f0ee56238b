-- A run on its way: by a change, by a commit, and where it comes to an end.
use Rattle.std.proofs.Common.{◌≡◌, inl, inr, ℕ, suc, ◌+◌, ◌*◌, ◌/◌, ◌<◌, ◌≤◌, List, [], ◌∷◌, ◌++◌, length, take, drop, Option, Some, None, Ok, false, refl, sym, ap, subst, ◌∙◌, length-append, arith}
use Rattle.std.proofs.lemmas.Grind.{flat_map-append}
use Rattle.std.proofs.lemmas.List.{append-nil, drop-append-le, drop_all, length-drop, take-append-le, take_all}
use Rattle.std.proofs.lemmas.Nat.{div-mul-add}
use Rattle.outside.specs.Crash.{RisesUpTo}
use Rattle.outside.specs.Places.{Places}
use Rattle.outside.specs.Moments.{Reached as Left}
use Rattle.mailbox_model.specs.Lists.{Bytes}
use Rattle.state_image.specs.Changes.{change_spelled}
use Rattle.state_store.specs.States.{State}
use Rattle.state_store.specs.Stands.{stands}
use Rattle.state_store.specs.Commits.{OldOrNew, commit_reads, commit_writes, fill_of, fill_with}
use Rattle.state_store.specs.Stored.{IsStored}
use Rattle.state_store.proofs.Appending.{is_settled}
use Rattle.keeper.specs.Keeping.{Keeping, is_refused}
use Rattle.tail_journal.specs.Pending.{PendingChanges, none_pending}
use Rattle.touched_chats.specs.Costs.{change_cost}
use Rattle.follower.specs.Feed.{Fed, Feed, after_fed, ends, End}
use Rattle.follower.specs.Going.{AreMade, MakesFirst, after_feds, fed_all}
use Rattle.follower.specs.Reached.{Reached, Stop, committed_count, committed_of, count_made, reached}
use Rattle.follower.specs.Committing.{Ends, Halts, IsWhole, Outset, Prefix, SpendsWithin, Way, committed, outset}
use Rattle.follower.specs.Spending.{Counts, RoseWithin, Spent, commits_of, counts, feds_cost, next_cost, spelled, spent_by, tried, with_reads}
use Rattle.follower.proofs.Going.{after_more, all_changes, count_done, fed_more, leads_reached, made_more, made_take, same_me}
use Rattle.follower.proofs.Spending.{feds_one_more, last_is_made, next_is, more_spends, tried_cost, whole_are_made}

-- whole commits of 256
whole_commits : (commits pending : ℕ) → pending < 256 → 256 * ((256 * commits + pending) / 256) ≡ 256 * commits
whole_commits commits pending few =
    let e : 256 * commits + pending ≡ commits * 256 + pending = omega arith in
    ap (λ (n : ℕ). 256 * n) (ap (λ (n : ℕ). n / 256) e ∙ div-mul-add commits 256 pending few)

-- what is read or written in two parts
pub sum_within : (a b c now later part : ℕ) → part ≡ c → now ≤ a + b → later ≤ now + part → later ≤ a + (b + c)
sum_within a b c now later part is before after = omega (arith, is, before, after)

-- and where changes came before
sum_within_more : (a b c d now later part : ℕ) → part ≡ c → now ≤ a + (b + d) → later ≤ now + part → later ≤ a + (b + c + d)
sum_within_more a b c d now later part is before after = omega (arith, is, before, after)

-- nothing is done yet
pub way_first : (feed : Feed) (k : Keeping) (now : Counts) (places : Places) → k.pending ≡ none_pending → stands k.state.mailbox.me places ≡ Ok k.state → Way (outset k now) feed feed k now places
way_first feed k now places none is = record {
  leads = record { done = []; first = refl; made = tt; state = refl };
  commits = 0;
  split = omega (arith, ap (λ (p : PendingChanges). p.count) none);
  is = is;
  pending = ap (λ (p : PendingChanges). p.bytes) none;
  fill = refl;
  rose = record { reads = omega arith; written = omega arith };
}

-- one change more in its written form
spelled_more : (fs : List Fed) (f : Fed) → spelled (fs ++ f ∷ []) ≡ spelled fs ++ change_spelled f.change
spelled_more fs f = flat_map-append (λ (f : Fed). change_spelled f.change) fs (f ∷ []) ∙ ap (λ bytes. spelled fs ++ bytes) (append-nil (change_spelled f.change))

module _ (start : Outset) (feed others : Feed) (k : Keeping) (now : Counts) (places : Places) (way : Way start feed others k now places) where
  abbrev done : List Fed
  done = way.leads.done

  abbrev first : State
  first = start.state

  changes_are : feed.changes ≡ done ++ others.changes
  changes_are = ap (λ (f : Feed). f.changes) way.leads.first ∙ all_changes done others

  count_is : count_made first feed.changes ≡ length done + count_made k.state others.changes
  count_is =
      ap (count_made first) changes_are ∙ count_done first done others.changes way.leads.made
      ∙ ap (λ (s : State). length done + count_made s others.changes) (sym way.leads.state)

  own : k.state.mailbox.me ≡ first.mailbox.me
  own = ap (λ (s : State). s.mailbox.me) way.leads.state ∙ same_me first done

  front : (n : ℕ) → n ≤ length done → take n feed.changes ≡ take n done
  front n le = ap (take n) changes_are ∙ take-append-le n done others.changes le

  -- the changes of whole commits are all done
  kept_done : 256 * way.commits ≤ length done
  kept_done = omega (arith, way.split)

  -- the changes of the run that are done
  abbrev cost : ℕ
  cost = feds_cost first done

  -- one change more, by reads of no more than it costs
  pub way_on : (new : Keeping) (later : Feed) (after : Counts) → MakesFirst k others new later → new.store ≡ k.store
      → RoseWithin now (counts (next_cost k.state others.changes) 0) after → Way start feed later new after places
  way_on new later after makes store spends = record {
    leads = record {
      done = done ++ makes.fed ∷ [];
      first = way.leads.first ∙ ap (fed_all done) makes.first ∙ fed_more done makes.fed later;
      made = made_more first done makes.fed way.leads.made (subst (λ (s : State). is_refused s makes.fed.change ≡ false) way.leads.state makes.room);
      state = makes.state ∙ ap (λ (s : State). after_fed s makes.fed) way.leads.state ∙ after_more first done makes.fed;
    };
    commits = way.commits;
    split = omega (arith, length-append done (makes.fed ∷ []), way.split, ap (λ (p : PendingChanges). p.count) makes.pending);
    is = way.is ∙ ap (λ (fs : List Fed). Ok (after_feds first fs)) (sym (take-append-le (256 * way.commits) done (makes.fed ∷ []) kept_done));
    pending = ap (λ (p : PendingChanges). p.bytes) makes.pending ∙ ap (λ bytes. bytes ++ change_spelled makes.fed.change) way.pending
        ∙ sym (spelled_more (drop (256 * way.commits) done) makes.fed) ∙ ap spelled (sym (drop-append-le (256 * way.commits) done (makes.fed ∷ []) kept_done));
    fill = ap fill_of store ∙ way.fill;
    rose = record {
      reads = omega (
        arith,
        way.rose.reads,
        spends.reads,
        next_is k.state others makes.fed later makes.first,
        feds_one_more first done makes.fed,
        ap (λ (s : State). change_cost s.mailbox makes.fed.change) way.leads.state,
      );
      written = omega (arith, way.rose.written, spends.written);
    };
  }

  -- ---- a commit of all that is pending

  -- it is one more, where 256 are pending or nothing is to come
  module _ (all : (take 256 (drop (256 * way.commits) feed.changes) ≡ drop (256 * way.commits) done) × (take (256 * way.commits + 256) feed.changes ≡ done)) where
    abbrev spent : Spent
    spent = spent_by first start.fill feed.changes way.commits

    size_is : length k.pending.bytes ≡ length (spelled (take 256 (drop (256 * way.commits) feed.changes)))
    size_is = ap length way.pending ∙ ap (λ (fs : List Fed). length (spelled fs)) (sym all.0)

    state_is : k.state ≡ after_feds first (take (256 * way.commits + 256) feed.changes)
    state_is = way.leads.state ∙ ap (after_feds first) (sym all.1)

    commit_fills : (new : Keeping) → fill_of new.store ≡ fill_with (fill_of k.store) (length k.pending.bytes) → fill_of new.store ≡ (spent_by first start.fill feed.changes (suc way.commits)).fill
    commit_fills new fill = fill ∙ (λ i. fill_with (way.fill i) (size_is i))

    commit_rose : (later : Counts) → later.reads ≤ now.reads + commit_reads (fill_of k.store) (length k.pending.bytes) k.state
        → RisesUpTo (commit_writes (fill_of k.store) (length k.pending.bytes) k.state) now.written later.written
        → RoseWithin start.counts (with_reads cost (spent_by first start.fill feed.changes (suc way.commits)).counts) later
    commit_rose later reads writes =
        let size = length (spelled (take 256 (drop (256 * way.commits) feed.changes))) in
        let s = after_feds first (take (256 * way.commits + 256) feed.changes) in
        let reads_is : commit_reads (fill_of k.store) (length k.pending.bytes) k.state ≡ commit_reads spent.fill size s = (λ i. commit_reads (way.fill i) (size_is i) (state_is i)) in
        let writes_is : commit_writes (fill_of k.store) (length k.pending.bytes) k.state ≡ commit_writes spent.fill size s = (λ i. commit_writes (way.fill i) (size_is i) (state_is i)) in
        record {
          reads = sum_within_more start.counts.reads spent.counts.reads (commit_reads spent.fill size s) cost now.reads later.reads _ reads_is way.rose.reads reads;
          written = sum_within start.counts.written spent.counts.written (commit_writes spent.fill size s) now.written later.written _ writes_is way.rose.written writes.bound;
        }

  all_of_256 : k.pending.count ≡ 256 → (take 256 (drop (256 * way.commits) feed.changes) ≡ drop (256 * way.commits) done) × (take (256 * way.commits + 256) feed.changes ≡ done)
  all_of_256 full =
      let rest : length (drop (256 * way.commits) done) ≡ 256 = omega (arith, length-drop (256 * way.commits) done, way.split, full) in
      let whole : length done ≡ 256 * way.commits + 256 = omega (arith, way.split, full) in (
        ap (λ (fs : List Fed). take 256 (drop (256 * way.commits) fs)) changes_are ∙ ap (take 256) (drop-append-le (256 * way.commits) done others.changes kept_done)
            ∙ take-append-le 256 (drop (256 * way.commits) done) others.changes (omega (arith, rest)) ∙ take_all 256 (drop (256 * way.commits) done) (omega (arith, rest)),
        front (256 * way.commits + 256) (omega (arith, whole)) ∙ take_all (256 * way.commits + 256) done (omega (arith, whole)),
      )

  all_of_last : others ≡ ends End → k.pending.count ≤ 256 → (take 256 (drop (256 * way.commits) feed.changes) ≡ drop (256 * way.commits) done) × (take (256 * way.commits + 256) feed.changes ≡ done)
  all_of_last last few =
      let is : feed.changes ≡ done = changes_are ∙ ap (λ (f : Feed). done ++ f.changes) last ∙ append-nil done in (
        ap (λ (fs : List Fed). take 256 (drop (256 * way.commits) fs)) is
            ∙ take_all 256 (drop (256 * way.commits) done) (omega (arith, length-drop (256 * way.commits) done, way.split, few)),
        ap (take (256 * way.commits + 256)) is ∙ take_all (256 * way.commits + 256) done (omega (arith, way.split, few)),
      )

  -- 256 changes are committed, and none is pending
  pub way_committed : (new : Keeping) (later : Counts) (after : Places) → k.pending.count ≡ 256 → stands k.state.mailbox.me after ≡ Ok k.state → new.state ≡ k.state → new.pending ≡ none_pending
      → fill_of new.store ≡ fill_with (fill_of k.store) (length k.pending.bytes) → RoseWithin start.counts (with_reads cost (spent_by first start.fill feed.changes (suc way.commits)).counts) later
      → Way start feed others new later after
  way_committed new later after full stood state none fill rose =
      let all : length done ≡ 256 * suc way.commits = omega (arith, way.split, full) in record {
        leads = record { done = done; first = way.leads.first; made = way.leads.made; state = state ∙ way.leads.state };
        commits = suc way.commits;
        split = omega (arith, all, ap (λ (p : PendingChanges). p.count) none);
        is = ap (λ (me : Bytes). stands me after) (sym own) ∙ stood ∙ ap Ok way.leads.state
            ∙ ap (λ (fs : List Fed). Ok (after_feds first fs)) (sym (take_all (256 * suc way.commits) done (omega (arith, all))));
        pending = ap (λ (p : PendingChanges). p.bytes) none ∙ ap spelled (sym (drop_all (256 * suc way.commits) done (omega (arith, all))));
        fill = commit_fills (all_of_256 full) new fill;
        rose = rose;
      }

  -- ---- what is spent

  all_made : (m : ℕ) → 256 * m ≤ length done → m ≤ commits_of (committed_count first feed)
  all_made m le = whole_are_made m (count_made first feed.changes) (reached first feed).stop (omega (arith, count_is, le))

  -- the changes that are done, and one more
  all_tried : cost + next_cost k.state others.changes ≤ feds_cost first (tried first feed)
  all_tried = subst (λ (s : State). cost + next_cost s others.changes ≤ feds_cost first (tried first feed)) (sym way.leads.state)
      (tried_cost first feed done others.changes changes_are way.leads.made)

  -- of commits, where all changes are done
  spends_in : (m n : ℕ) (later : Counts) → m ≤ n → RoseWithin start.counts (with_reads cost (spent_by first start.fill feed.changes m).counts) later
      → RoseWithin start.counts (with_reads (feds_cost first (tried first feed)) (spent_by first start.fill feed.changes n).counts) later
  spends_in m n later le = more_spends first start.fill feed.changes m n cost _ start.counts later le (omega (arith, all_tried))

  -- a change that is not made may have been read for
  pub way_spends : (later : Counts) → RoseWithin now (counts (next_cost k.state others.changes) 0) later → SpendsWithin start feed later
  way_spends later more = more_spends first start.fill feed.changes way.commits _ _ _ start.counts later (all_made way.commits kept_done) all_tried
      (record { reads = omega (arith, way.rose.reads, more.reads); written = omega (arith, way.rose.written, more.written) })

  pub full_rose : k.pending.count ≡ 256 → (later : Counts) → later.reads ≤ now.reads + commit_reads (fill_of k.store) (length k.pending.bytes) k.state
      → RisesUpTo (commit_writes (fill_of k.store) (length k.pending.bytes) k.state) now.written later.written
      → RoseWithin start.counts (with_reads cost (spent_by first start.fill feed.changes (suc way.commits)).counts) later
  full_rose full = commit_rose (all_of_256 full)

  pub full_spends : k.pending.count ≡ 256 → (later : Counts) → RoseWithin start.counts (with_reads cost (spent_by first start.fill feed.changes (suc way.commits)).counts) later → SpendsWithin start feed later
  full_spends full later = spends_in (suc way.commits) _ later (all_made (suc way.commits) (omega (arith, way.split, full)))

  -- the last commit, of what is left
  pub last_spends : others ≡ ends End → k.pending.count ≤ 256 → 1 ≤ k.pending.count → (later : Counts) → later.reads ≤ now.reads + commit_reads (fill_of k.store) (length k.pending.bytes) k.state
      → RisesUpTo (commit_writes (fill_of k.store) (length k.pending.bytes) k.state) now.written later.written → SpendsWithin start feed later
  last_spends last few some later reads writes =
      let count : count_made first feed.changes ≡ 256 * way.commits + k.pending.count = omega (arith, count_is, way.split, ap (λ (f : Feed). count_made k.state f.changes) last) in
      let all : committed_count first feed ≡ 256 * way.commits + k.pending.count =
      ap (λ (r : Reached). committed_of r.stop (count_made first feed.changes)) (leads_reached first k.state feed others way.leads ∙ ap (reached k.state) last) ∙ count in
      let total : suc way.commits ≤ commits_of (committed_count first feed) = subst (λ (n : ℕ). suc way.commits ≤ commits_of n) (sym all) (last_is_made way.commits k.pending.count some) in
      spends_in (suc way.commits) _ later total (commit_rose (all_of_last last few) later reads writes)

  -- ---- what a crash leaves

  prefix_of : (n : ℕ) (c : Places) → n ≤ length done → IsWhole n feed → stands first.mailbox.me c ≡ Ok (after_feds first (take n done)) → Prefix first feed c
  prefix_of n c le whole is = record {
    count = n;
    within = omega (arith, le, ap length changes_are, length-append done others.changes);
    whole = whole;
    made = subst (AreMade first) (sym (front n le)) (made_take n first done way.leads.made);
    is = is ∙ ap (λ (fs : List Fed). Ok (after_feds first fs)) (sym (front n le));
  }

  -- what was kept before
  pub prefix_kept : (c : Places) → stands first.mailbox.me c ≡ stands first.mailbox.me places → Prefix first feed c
  prefix_kept c same = prefix_of (256 * way.commits) c kept_done (inl (way.commits, refl)) (same ∙ way.is)

  -- all that is done
  prefix_done : (c : Places) → IsWhole (length done) feed → stands k.state.mailbox.me c ≡ Ok k.state → Prefix first feed c
  prefix_done c whole is =
      prefix_of (length done) c (omega arith) whole (ap (λ (me : Bytes). stands me c) (sym own) ∙ is ∙ ap Ok way.leads.state
      ∙ ap (λ (fs : List Fed). Ok (after_feds first fs)) (sym (take_all (length done) done (omega arith))))

  -- a crash in a commit
  pub prefix_commit : (outcomes : Places → Type 0) → IsStored k.store outcomes places → IsWhole (length done) feed
      → (c : Places) → Left outcomes (OldOrNew k.state.mailbox.me k.state) c → Prefix first feed c
  prefix_commit outcomes stored whole c (d, left, inl old) =
      prefix_kept c (ap (λ (me : Bytes). stands me c) (sym own) ∙ old ∙ ap (λ (me : Bytes). stands me d) own ∙ ap (stands first.mailbox.me) (is_settled k.store outcomes places stored d left))
  prefix_commit outcomes stored whole c (d, left, inr new) = prefix_done c whole new

  pub whole_of_256 : k.pending.count ≡ 256 → IsWhole (length done) feed
  whole_of_256 full = inl (way.commits + 1, omega (arith, way.split, full))

  pub whole_of_all : others ≡ ends End → IsWhole (length done) feed
  whole_of_all last = inr (omega (arith, ap length changes_are, length-append done others.changes, ap (λ (f : Feed). length f.changes) last))

  -- ---- where it comes to no end, and where all is done

  pub halts : (why : Stop) (outcomes : Places → Type 0) → IsStored k.store outcomes places → k.pending.count < 256 → (reached k.state others).stop ≡ Some why → count_made k.state others.changes ≡ 0
      → Halts why first feed outcomes
  halts why outcomes stored few stop none =
      let stopped : (reached first feed).stop ≡ Some why = ap (λ (r : Reached). r.stop) (leads_reached first k.state feed others way.leads) ∙ stop in
      let count : 256 * (count_made first feed.changes / 256) ≡ 256 * way.commits =
      ap (λ (n : ℕ). 256 * (n / 256)) (let e : count_made first feed.changes ≡ 256 * way.commits + k.pending.count = omega (arith, count_is, none, way.split) in e) ∙ whole_commits way.commits k.pending.count few in
      let last : committed first feed ≡ after_feds first (take (256 * way.commits) done) =
      ap (λ (o : Option Stop). after_feds first (take (committed_of o (count_made first feed.changes)) feed.changes)) stopped
      ∙ ap (λ (n : ℕ). after_feds first (take n feed.changes)) count ∙ ap (after_feds first) (front (256 * way.commits) kept_done) in
      record {
        stop = stopped;
        each = λ c left. ap (stands first.mailbox.me) (is_settled k.store outcomes places stored c left) ∙ way.is ∙ ap Ok (sym last);
      }

  pub ends_all : (new : Keeping) (later : Counts) (after : Places) (outcomes : Places → Type 0) → others ≡ ends End → IsStored new.store outcomes after → stands k.state.mailbox.me after ≡ Ok k.state → new.state ≡ k.state → SpendsWithin start feed later
      → Ends start feed new later outcomes
  ends_all new later after outcomes last stored stood state spends =
      let all : reached first feed ≡ record { state = k.state; stop = None } = leads_reached first k.state feed others way.leads ∙ ap (reached k.state) last in
      let count : count_made first feed.changes ≡ length done = omega (arith, count_is, ap (λ (f : Feed). count_made k.state f.changes) last) in
      let kept : committed first feed ≡ k.state =
      ap (λ (r : Reached). after_feds first (take (committed_of r.stop (count_made first feed.changes)) feed.changes)) all
      ∙ ap (λ (n : ℕ). after_feds first (take n feed.changes)) count ∙ ap (after_feds first) (front (length done) (omega arith) ∙ take_all (length done) done (omega arith)) ∙ sym way.leads.state in
      record {
        all = all ∙ ap (λ (s : State). record { state = s; stop = None }) (sym state);
        each = λ c left. ap (stands first.mailbox.me) (is_settled new.store outcomes after stored c left) ∙ ap (λ (me : Bytes). stands me after) (sym own) ∙ stood ∙ ap Ok (sym kept);
        spends = spends;
      }
