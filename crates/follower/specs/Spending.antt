-- What the changes and the commits of a run read and write, at most.
use Rattle.std.specs.Prelude.{◌≤◌, ℕ, zero, suc, ◌+◌, ◌*◌, ◌/◌, List, length, map, take, drop, flat_map}
use Rattle.state_image.specs.Changes.{change_spelled}
use Rattle.state_store.specs.Commits.{Fill, commit_reads, commit_writes, fill_with}
use Rattle.state_store.specs.States.{State}
use Rattle.touched_chats.specs.Costs.{change_costs}
use Rattle.follower.specs.Feed.{Fed, Feed}
use Rattle.follower.specs.Going.{after_feds}
use Rattle.follower.specs.Reached.{committed_count, count_made}

-- what is counted: the reads of kept cards, and the bytes that are written
pub record Counts : Type 0 where
  pub reads : ℕ
  pub written : ℕ

abbrev pub counts : ℕ → ℕ → Counts
counts reads written = record { reads = reads; written = written }

-- the counts rose by no more than that
pub record RoseWithin (old most new : Counts) : Type 0 where
  pub reads : new.reads ≤ old.reads + most.reads
  pub written : new.written ≤ old.written + most.written

-- ---- what changes read

-- what changes of a feed cost that are made one after the other
abbrev pub feds_cost : State → List Fed → ℕ
feds_cost s fs = change_costs s.mailbox (map (λ f. f.change) fs)

-- what the first of these changes costs, where there is one
abbrev pub next_cost : State → List Fed → ℕ
next_cost s fs = feds_cost s (take 1 fs)

-- the changes of a run that are made, and after them the one that is refused, where one is
abbrev pub tried : State → Feed → List Fed
tried start feed = take (count_made start feed.changes + 1) feed.changes

-- ---- what commits read and write

-- how full the store is after commits, and what they counted at most
pub record Spent : Type 0 where
  pub fill : Fill
  pub counts : Counts

-- changes one after the other in their written form
abbrev pub spelled : List Fed → List ℕ
spelled fs = flat_map (λ f. change_spelled f.change) fs

-- a commit more, that leads to this state by changes of so many bytes
abbrev pub with_commit : Spent → ℕ → State → Spent
with_commit spent size s = record {
  fill = fill_with spent.fill size;
  counts = counts (spent.counts.reads + commit_reads spent.fill size s) (spent.counts.written + commit_writes spent.fill size s);
}

-- so many commits, each of the next 256 changes, or of those that are left
abbrev pub spent_by : State → Fill → List Fed → ℕ → Spent
spent_by start fill changes zero = record { fill = fill; counts = counts 0 0 }
spent_by start fill changes (suc n) =
    with_commit (spent_by start fill changes n) (length (spelled (take 256 (drop (256 * n) changes)))) (after_feds start (take (256 * n + 256) changes))

-- so many commits make these many changes lasting
abbrev pub commits_of : ℕ → ℕ
commits_of count = (count + 255) / 256

-- ---- what a run reads and writes

-- these counts, and so many reads more
abbrev pub with_reads : ℕ → Counts → Counts
with_reads reads c = counts (c.reads + reads) c.written

-- by all its changes and commits
abbrev pub run_spends : State → Fill → Feed → Counts
run_spends start fill feed = with_reads (feds_cost start (tried start feed)) (spent_by start fill feed.changes (commits_of (committed_count start feed))).counts
