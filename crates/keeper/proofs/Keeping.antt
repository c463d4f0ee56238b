-- What is pending, and how it goes on from what is kept.
use Rattle.std.proofs.Common.{◌≡◌, ℕ, ◌+◌, ◌<◌, ◌≤◌, ◌^◌, List, [], ◌∷◌, ◌++◌, length, flat_map, false, Option, Ok, refl, sym, ◌∙◌, ap, subst, arith, rules}
use Rattle.outside.specs.Places.{Places}
use Rattle.outside.specs.Moments.{WhereKnown, KnownThen}
use Rattle.mailbox_model.specs.declared.change.Change.{Change}
use Rattle.mailbox_model.specs.Lists.{Bytes}
use Rattle.mailbox_model.specs.Mailbox.{Mailbox, after, after_all, full, AreAllowed, IsValidChange}
use Rattle.state_image.specs.declared.position.Position.{Position}
use Rattle.state_image.specs.Changes.{change_spelled, FitsChange}
use Rattle.tail_journal.specs.Spelling.{AreSpelled, IsBatch}
use Rattle.state_store.specs.States.{State, IsWithin}
use Rattle.state_store.specs.Stands.{stands}
use Rattle.state_store.specs.Commits.{Commits, MakeBatch, batch_to}
use Rattle.tail_journal.specs.Pending.{PendingChanges, ArePending, AreWritten, none_pending, with_change}
use Rattle.tail_journal.proofs.Waiting.{pending_more}
use Rattle.keeper.specs.Keeping.{Keeping, IsKept, after_change}

-- ---- one change more

pub after_more : (m : Mailbox) (held : List Change) (change : Change) → after_all m (held ++ change ∷ []) ≡ after (after_all m held) change
after_more m [] change = refl
after_more m (x ∷ xs) change = after_more (after m x) xs change

allowed_more : (m : Mailbox) (held : List Change) (change : Change) → AreAllowed m held → IsValidChange change → full (after_all m held) change ≡ false → AreAllowed m (held ++ change ∷ [])
allowed_more m [] change allowed valid room = (valid, room, tt)
allowed_more m (x ∷ xs) change allowed valid room = (allowed.0, allowed.1, allowed_more (after m x) xs change allowed.2 valid room)

-- ---- what is kept

same_me : (m : Mailbox) (change : Change) → (after m change).me ≡ m.me
same_me m change = search rules

-- a change is made, and waits after the others
pub kept_more : (old new : Keeping) (change : Change) (position : Position) (places : Places) → new.state ≡ after_change old.state change position → new.pending ≡ with_change old.pending change
    → position.count ≡ old.state.position.count + 1 → IsValidChange change → FitsChange change → full old.state.mailbox change ≡ false → IsKept old places → IsKept new places
kept_more old new change position places state pending count valid fits room kept = record {
  committed = kept.committed;
  is = ap (λ (s : State). stands s.mailbox.me places) state ∙ ap (λ (me : Bytes). stands me places) (same_me old.state.mailbox change) ∙ kept.is;
  held = kept.held ++ change ∷ [];
  pending = subst (λ (p : PendingChanges). ArePending p (kept.held ++ change ∷ [])) (sym pending) (pending_more old.pending kept.held change kept.pending fits);
  allowed = allowed_more kept.committed.mailbox kept.held change kept.allowed valid (subst (λ (m : Mailbox). full m change ≡ false) kept.mailbox room);
  mailbox = ap (λ (s : State). s.mailbox) state ∙ ap (λ (m : Mailbox). after m change) kept.mailbox ∙ sym (after_more kept.committed.mailbox kept.held change);
  count = omega (arith, kept.count, ap (λ (p : PendingChanges). p.count) pending, ap (λ (s : State). s.position.count) state, count);
  position = λ none. absurd (omega (arith, none, ap (λ (p : PendingChanges). p.count) pending));
}

-- where nothing is pending the state of the keeper stands
pub stands_kept : (k : Keeping) (places : Places) → k.pending.count ≡ 0 → IsKept k places → stands k.state.mailbox.me places ≡ Ok k.state
stands_kept k places none kept = kept.is ∙ ap (λ (s : State). Ok s) (kept.position none)

pub kept_alone : (k : Keeping) (places : Places) → k.pending ≡ none_pending → stands k.state.mailbox.me places ≡ Ok k.state → IsKept k places
kept_alone k places none is = record {
  committed = k.state;
  is = is;
  held = [];
  pending = subst (λ (p : PendingChanges). ArePending p []) (sym none) (record { spelled = record { length_is = refl; text = refl }; fits = tt });
  allowed = tt;
  mailbox = refl;
  count = omega (arith, ap (λ (p : PendingChanges). p.count) none);
  position = λ none. refl;
}

-- ---- a commit

-- what is pending makes a batch up to the position
pub batch_of : (p : PendingChanges) (position : Position) (held : List Change) → ArePending p held → p.count ≤ 256 → 1 ≤ p.count → p.count ≤ position.count → IsWithin position
    → position.mbox < 2 ^ 64 → position.steps < 2 ^ 64 → length position.mbox_trace ≡ 32 → length position.steps_trace ≡ 32 → IsBatch (batch_to position held)
batch_of p position held are few some counted within mbox steps one two = record {
  some = omega (arith, some, are.spelled.length_is);
  few = omega (arith, few, are.spelled.length_is);
  fits = are.fits;
  count = omega (arith, counted, are.spelled.length_is);
  limit = within.count;
  mbox = mbox;
  steps = steps;
  lines = within.lines;
  mbox_trace = one;
  steps_trace = two;
}

-- what is committed, over the parts of a keeper
module _ (k : Keeping) (n : ℕ) (changes : List ℕ) (n_is : n ≡ k.pending.count) (changes_are : changes ≡ k.pending.bytes) (written : AreWritten k.pending) (some : 1 ≤ n)
    (counted : k.pending.count ≤ k.state.position.count) (within : IsWithin k.state.position) (mbox : k.state.position.mbox < 2 ^ 64) (steps : k.state.position.steps < 2 ^ 64) (one : length k.state.position.mbox_trace ≡ 32) (two : length k.state.position.steps_trace ≡ 32) where
  a_batch : (held : List Change) → ArePending k.pending held → IsBatch (batch_to k.state.position held)
  a_batch held are = batch_of k.pending k.state.position held are written.few (omega (arith, some, n_is)) counted within mbox steps one two

  are_spelled : (held : List Change) → ArePending k.pending held → AreSpelled n changes held
  are_spelled held are = record { length_is = are.spelled.length_is ∙ sym n_is; text = changes_are ∙ are.spelled.text }

  pub make_batch : MakeBatch k.state.position n changes
  make_batch = (written.held, are_spelled written.held written.are, a_batch written.held written.are)

  pub commits : (m : Mailbox) (places : Places) → m ≡ k.state.mailbox → IsKept k places → Commits m.me (record { mailbox = m; position = k.state.position }) n changes places
  commits m places m_is kept = subst (λ (m : Mailbox). Commits m.me (record { mailbox = m; position = k.state.position }) n changes places) (sym m_is) (record {
    held = kept.held;
    spelled = are_spelled kept.held kept.pending;
    leads = record {
      committed = kept.committed;
      is = kept.is;
      rules = a_batch kept.held kept.pending;
      base = omega (arith, kept.count, kept.pending.spelled.length_is);
      allowed = kept.allowed;
      mailbox = kept.mailbox;
      position = refl;
    };
  })

-- ---- over a shelf

-- nothing is pending where there are no changes
pub none_left : (p : PendingChanges) → AreWritten p → p.count ≡ 0 → p ≡ none_pending
none_left p written none = no_bytes written.held (written.are.spelled.length_is ∙ none) written.are.spelled.text
  where
    no_bytes : (held : List Change) → length held ≡ 0 → p.bytes ≡ flat_map change_spelled held → p ≡ none_pending
    no_bytes [] short text = λ i. record { count = none i; bytes = text i }
    no_bytes (x ∷ xs) short text = absurd (omega (arith, short))

pub stands_already : (k : Keeping) (seen : Option Places) → k.pending.count ≡ 0 → WhereKnown seen (IsKept k)
    → KnownThen seen seen (λ x y. stands k.state.mailbox.me y ≡ Ok k.state)
stands_already k seen none kept = record {
  forth = λ places is. record { places = places; is = is; holds = stands_kept k places none (kept places is) };
  back = λ places is. record { places = places; is = is; holds = stands_kept k places none (kept places is) };
}

pub kept_again : (k : Keeping) (old new : Option Places) → k.pending ≡ none_pending → KnownThen old new (λ x y. stands k.state.mailbox.me y ≡ Ok k.state) → WhereKnown new (IsKept k)
kept_again k old new none lasting places is = kept_alone k places none (lasting.back places is).holds
