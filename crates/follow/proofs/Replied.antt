-- What was put and kept, by what became of the files and of the question.
use Rattle.std.proofs.Common.{◌≡◌, ◌≢◌, ◌⊎◌, inl, inr, ◌≤◌, ◌<◌, ℕ, ◌^◌, [], ◌++◌, ◌+◌, Option, Some, None, Result, Ok, Err, arith, refl, sym, ap, subst, ◌∙◌, length-append}
use Rattle.std.specs.Prelude.{IfErr, IfOk, length, ok_or}
use Rattle.std.proofs.KnownBytes.{Consumes-nil}
use Rattle.std.specs.Result.{result_map_both}
use Rattle.outside.specs.Causes.{Rose}
use Rattle.outside.specs.declared.shelf.Place.{Place}
use Rattle.outside.specs.Moments.{WhereKnown}
use Rattle.outside.specs.Places.{Places}
use Rattle.answers.specs.Answers as asked
use Rattle.answers.specs.Costs.{answer_cost}
use Rattle.answers.specs.declared.fault.AnswerFault.{AnswerFault}
use Rattle.answers.specs.declared.fault.AnswerFault.TheVariants as answer
use Rattle.answers.specs.declared.question.Question.{Question}
use Rattle.source_buffer.specs.Buffered.{Buffered, BufferTakes}
use Rattle.source_buffer.proofs.Taking.{BufferTakes_more}
use Rattle.mboxrd.specs.Reading as mbox
use Rattle.steps_file.specs.Reading as steps
use Rattle.follower.specs.declared.fault.Input.{Input}
use Rattle.follower.specs.declared.fault.Input.TheVariants.{Mbox, Steps}
use Rattle.follower.specs.declared.fault.RunFault.{RunFault}
use Rattle.follower.specs.declared.fault.RunFault.TheVariants as fault
use Rattle.follower.specs.Following.{Following, HasTaken, IsCause, IsKeepFault}
use Rattle.follower.specs.Reached.{Reached, Stop}
use Rattle.follower.specs.Spending.{Counts, RoseWithin}
use Rattle.follower.proofs.Committing.{sum_within}
use Rattle.follower.proofs.Going.{rose_since}
use Rattle.mailbox_model.specs.Lists.{Bytes}
use Rattle.mailbox_model.specs.Mailbox.{Mailbox}
use Rattle.state_store.specs.States.{State, max_changes}
use Rattle.state_store.specs.Stands.{stands}
use Rattle.trial.specs.Faults as trial
use Rattle.trial.specs.declared.fault.TrialFault.{TrialFault}
use Rattle.trial.specs.declared.fault.TrialFault.TheVariants as of_trial
use Rattle.follow.specs.declared.status.Refusal.{Refusal}
use Rattle.follow.specs.declared.status.Refusal.TheVariants as refusal
use Rattle.follow.specs.Outcome.{CauseOf, EndsBare, Gave, GaveNone, Given, IsFilled, KeepsAll, Kept, OnLast, TakesUpTo, answer_at, answer_reads, asked_cost, follow_spends, followed, mbox_budget, replied, steps_budget}
use Rattle.follow.specs.Replies.{FollowStops, Puts, Took, untaken}
use Rattle.follow.specs.Statuses.{answer_refusal, refusal_of, status_of, trial_refusal}

-- the answer, and why there is none, as a run says it
abbrev pub refused : Result Bytes AnswerFault → Result Bytes Refusal
refused = result_map_both (λ text. text) answer_refusal

-- ---- the answer to a question

pub puts_whole : (o : Result Bytes AnswerFault) (old new : Option Bytes) (a b : Unit) → asked.Puts o old new (Ok a) → Puts (refused o) old new (Ok b)
puts_whole (Ok text) old new a b p = p
puts_whole (Err why) old new a b p = absurd p

pub puts_refusal : (o : Result Bytes AnswerFault) (old new : Option Bytes) (e : AnswerFault) → asked.Puts o old new (Err e) → Puts (refused o) old new (Err (answer_refusal e))
puts_refusal (Ok text) old new answer.Write p = p
puts_refusal (Ok text) old new answer.Memory p = tt
puts_refusal (Ok text) old new answer.NoChat p = absurd cc
puts_refusal (Ok text) old new answer.NoApp p = absurd cc
puts_refusal (Err why) old new answer.Write p = absurd p
puts_refusal (Err why) old new answer.Memory p = tt
puts_refusal (Err why) old new answer.NoChat p = ap refused p
puts_refusal (Err why) old new answer.NoApp p = ap refused p

-- ---- files that are not followed to their end

pub free_of_memory : (o : Result Bytes Refusal) (old new : Option Bytes) → Puts o old new (Err refusal.Memory)
free_of_memory (Ok text) old new = tt
free_of_memory (Err why) old new = tt

pub stops_put : (q : Question) (g : Given) (outcomes : Places → Type 0) (old new : Option Bytes) (why : RunFault) → FollowStops why g outcomes → Puts (replied q (followed g)) old new (Err (refusal_of g.me why))
stops_put q g outcomes old new (fault.Read input) stops = by (replied q (followed g))
  where
    by : (o : Result Bytes Refusal) → Puts o old new (Err (refusal.Read input))
    by (Ok text) = tt
    by (Err why) = tt
stops_put q g outcomes old new (fault.Endless input) stops = by (replied q (followed g))
  where
    by : (o : Result Bytes Refusal) → Puts o old new (Err (refusal.Endless input))
    by (Ok text) = tt
    by (Err why) = tt
stops_put q g outcomes old new fault.Disk stops = by (replied q (followed g))
  where
    by : (o : Result Bytes Refusal) → Puts o old new (Err refusal.Disk)
    by (Ok text) = tt
    by (Err why) = tt
stops_put q g outcomes old new (fault.Short input) stops =
    subst (λ (r : Result Reached Refusal). Puts (replied q r) old new (Err (refusal.Short input))) (sym stops.0) refl
stops_put q g outcomes old new (fault.OtherFiles input) stops =
    subst (λ (r : Result Reached Refusal). Puts (replied q r) old new (Err (refusal.OtherFiles input))) (sym stops.0) refl
stops_put q g outcomes old new (fault.Steps number) stops =
    subst (λ (r : Result Reached Refusal). Puts (replied q r) old new (Err (refusal.Steps number))) (sym stops.1)
    (subst (λ (o : Option Stop). Puts (answer_at q o stops.0.state) old new (Err (refusal.Steps number))) (sym stops.2) refl)
stops_put q g outcomes old new fault.Full stops =
    subst (λ (r : Result Reached Refusal). Puts (replied q r) old new (Err refusal.Full)) (sym stops.1)
    (subst (λ (o : Option Stop). Puts (answer_at q o stops.0.state) old new (Err refusal.Full)) (sym stops.2) refl)
stops_put q g outcomes old new (fault.Damaged place at) stops =
    subst (λ (r : Result Reached Refusal). Puts (replied q r) old new (Err (refusal.Damaged place at))) (sym stops) refl
stops_put q g outcomes old new (fault.OtherMe other) stops =
    subst (λ (r : Result Reached Refusal). Puts (replied q r) old new (Err (refusal.OtherMe other g.me))) (sym stops.0) refl
stops_put q g outcomes old new fault.Memory stops = free_of_memory (replied q (followed g)) old new

-- what is kept then
pub stops_last : (g : Given) (outcomes : Places → Type 0) (why : RunFault) → FollowStops why g outcomes → OnLast (status_of (refusal_of g.me why)) (KeepsAll g outcomes)
stops_last g outcomes (fault.Read input) stops = tt
stops_last g outcomes (fault.Endless input) stops = tt
stops_last g outcomes (fault.Short input) stops = stops.1
stops_last g outcomes (fault.OtherFiles input) stops = stops.1
stops_last g outcomes (fault.Steps number) stops = stops.3
stops_last g outcomes fault.Full stops = stops.3
stops_last g outcomes fault.Disk stops = tt
stops_last g outcomes (fault.Damaged place at) stops = tt
stops_last g outcomes (fault.OtherMe other) stops = stops.1
stops_last g outcomes fault.Memory stops = tt

-- and of a run that was followed to its end, whatever the answer
pub answer_last : (g : Given) (outcomes : Places → Type 0) (why : AnswerFault) → KeepsAll g outcomes → OnLast (status_of (answer_refusal why)) (KeepsAll g outcomes)
answer_last g outcomes answer.NoChat keeps = keeps
answer_last g outcomes answer.NoApp keeps = keeps
answer_last g outcomes answer.Write keeps = keeps
answer_last g outcomes answer.Memory keeps = tt

-- ---- an answer has no cause but its own

module _ (P Q R : Type 0) (T U : (ℕ → Type 0) → Type 0) (K : (State → Type 0) → Type 0) where
  pub no_cause : (e : AnswerFault) → CauseOf P Q R T U K (answer_refusal e)
  no_cause answer.NoChat = tt
  no_cause answer.NoApp = tt
  no_cause answer.Write = tt
  no_cause answer.Memory = tt

-- ---- the causes of what is not followed

pub took_within : (l m : Option Bytes) (b : Buffered) (budget : ℕ) → Took l m budget b → TakesUpTo l m budget
took_within l m b budget t = (t.0, omega (arith, t.1.taken, t.1.budget, t.1.within (omega arith)), t.1.left)

-- what holds of the count of a buffer holds of the bytes that the source gave
pub took_gave : (l m : Option Bytes) (b : Buffered) (budget : ℕ) → Took l m budget b → (X : ℕ → Type 0) → X b.taken → Gave l m X
took_gave l m b budget t X x = let is : b.taken ≡ length t.0 = omega (arith, t.1.taken) in (t.0, subst X is x, t.1.left)

pub gave_none : (l : Option Bytes) (X : ℕ → Type 0) → GaveNone X → Gave l l X
gave_none l X x = ([], x, Consumes-nil l)

-- a source that has nothing left gave none
pub none_gave : (X : ℕ → Type 0) → Gave (Some []) (Some []) X → GaveNone X
none_gave X gave = let none : length gave.0 ≡ 0 = omega (arith, ap length gave.2, length-append gave.0 []) in subst X none gave.1

pub none_taken : (r before : steps.Reading) → r ≡ before → before.taken ≡ 0 → (X : ℕ → Type 0) → X r.taken → GaveNone X
none_taken r before same none X x = subst X (ap (λ (y : steps.Reading). y.taken) same ∙ none) x

-- what holds of a state that stands holds of the one that is kept
pub kept_by : (me : Bytes) (seen : Option Places) (s : State) → WhereKnown seen (λ places. stands me places ≡ Ok s) → (X : State → Type 0) → X s → Kept me seen X
kept_by me seen s stood X x places is = subst (λ (r : Result State (Place × ℕ)). IfOk r X) (sym (stood places is)) x

pub took_more : (l m n : Option Bytes) (a b : Buffered) (budget : ℕ) → Took l m budget a → (bytes : Bytes) × BufferTakes m n a b bytes → Took l n budget b
took_more l m n a b budget t u = (t.0 ++ u.0, BufferTakes_more l m n (untaken budget) a b t.0 u.0 t.1 u.1)

-- a reader that has taken nothing yet
pub took_first : (l m : Option Bytes) (a b : Buffered) (budget : ℕ) → a.held ≡ [] → a.taken ≡ 0 → a.budget ≡ budget → (bytes : Bytes) × BufferTakes l m a b bytes → Took l m budget b
took_first l m a b budget held taken is t =
    (t.0, subst (λ (x : Buffered). BufferTakes l m x b t.0) (λ i. record { held = held i; taken = taken i; budget = is i }) t.1)

-- the budget stays
pub took_budget : (l m : Option Bytes) (b : Buffered) (budget : ℕ) → Took l m budget b → b.budget ≡ budget
took_budget l m b budget t = t.1.budget

-- the causes of a follower are those of the run: of an input that is short, where what was kept is its state still
module _ (P Q R F : Type 0) (T U : (ℕ → Type 0) → Type 0) (K : (State → Type 0) → Type 0) (new : Following) (me : Bytes)
    (mails : (X : ℕ → Type 0) → X new.mbox.taken → T X) (lines : (X : ℕ → Type 0) → X new.lines.taken → U X)
    (mbox_end : new.mbox.budget ≡ mbox_budget) (lines_end : new.lines.budget ≡ steps_budget) (filled : F → IsFilled T U K) where
  pub caused : (why : RunFault) → IsCause P Q R F new why → ((input : Input) → why ≡ fault.Short input → (X : State → Type 0) → X new.keeper.state → K X)
      → CauseOf P Q R T U K (refusal_of me why)
  caused (fault.Read Mbox) is kept = is
  caused (fault.Read Steps) is kept = is
  caused (fault.Endless Mbox) is kept = mails (λ n. n ≡ mbox_budget) (is ∙ mbox_end)
  caused (fault.Endless Steps) is kept = lines (λ n. n ≡ steps_budget) (is ∙ lines_end)
  caused fault.Disk is kept = is
  caused (fault.Short Mbox) is kept = mails (λ n. K (λ s. n < s.position.mbox)) (kept Mbox refl (λ s. new.mbox.taken < s.position.mbox) is)
  caused (fault.Short Steps) is kept = lines (λ n. K (λ s. n < s.position.steps)) (kept Steps refl (λ s. new.lines.taken < s.position.steps) is)
  caused (fault.OtherFiles input) is kept = tt
  caused (fault.Steps number) is kept = lines (λ n. number ≤ n) is
  caused (fault.Damaged place at) is kept = tt
  caused (fault.OtherMe other) is kept = tt
  caused fault.Full is kept = filled is
  caused fault.Memory is kept = tt

-- a byte that a reader took came in
pub filled_by : (T U : (ℕ → Type 0) → Type 0) (K : (State → Type 0) → Type 0) (new : Following) → ((X : ℕ → Type 0) → X new.mbox.taken → T X) → ((X : ℕ → Type 0) → X new.lines.taken → U X)
    → HasTaken new → IsFilled T U K
filled_by T U K new mails lines (inl taken) = inl (mails (λ n. 1 ≤ n) taken)
filled_by T U K new mails lines (inr taken) = inr (inl (lines (λ n. 1 ≤ n) taken))

-- or as many changes were made before as may be
pub filled_or : (T U : (ℕ → Type 0) → Type 0) (K : (State → Type 0) → Type 0) (new : Following) (s : State) → ((X : ℕ → Type 0) → X new.mbox.taken → T X)
    → ((X : ℕ → Type 0) → X new.lines.taken → U X) → ((X : State → Type 0) → X s → K X) → HasTaken new ⊎ (max_changes ≤ s.position.count) → IsFilled T U K
filled_or T U K new s mails lines kept (inl taken) = filled_by T U K new mails lines taken
filled_or T U K new s mails lines kept (inr full) = inr (inr (kept (λ s. max_changes ≤ s.position.count) full))

-- the same of weaker causes
module _ (P P' Q Q' R R' : Type 0) (T T' U U' : (ℕ → Type 0) → Type 0) (K : (State → Type 0) → Type 0) (p : P → P') (q : Q → Q') (r : R → R')
    (t : (X : ℕ → Type 0) → T X → T' X) (u : (X : ℕ → Type 0) → U X → U' X) where
  filled_on : IsFilled T U K → IsFilled T' U' K
  filled_on (inl mbox) = inl (t (λ n. 1 ≤ n) mbox)
  filled_on (inr (inl lines)) = inr (inl (u (λ n. 1 ≤ n) lines))
  filled_on (inr (inr kept)) = inr (inr kept)

  pub cause_on : (why : Refusal) → CauseOf P Q R T U K why → CauseOf P' Q' R' T' U' K why
  cause_on (refusal.Read Mbox) c = p c
  cause_on (refusal.Read Steps) c = q c
  cause_on refusal.Disk c = r c
  cause_on (refusal.Endless Mbox) c = t (λ n. n ≡ mbox_budget) c
  cause_on (refusal.Endless Steps) c = u (λ n. n ≡ steps_budget) c
  cause_on (refusal.Short Mbox) c = t (λ n. K (λ s. n < s.position.mbox)) c
  cause_on (refusal.Short Steps) c = u (λ n. K (λ s. n < s.position.steps)) c
  cause_on (refusal.Steps number) c = u (λ n. number ≤ n) c
  cause_on refusal.Full c = filled_on c
  cause_on refusal.Usage c = tt
  cause_on refusal.Write c = tt
  cause_on refusal.Memory c = tt
  cause_on refusal.NoChat c = tt
  cause_on (refusal.Damaged place at) c = tt
  cause_on (refusal.OtherFiles input) c = tt
  cause_on (refusal.OtherMe other me) c = tt
  cause_on refusal.NoApp c = tt

pub each_error : {X E : Type 0} (r : Result X E) (P Q : E → Type 0) → ((why : E) → P why → Q why) → IfErr r P → IfErr r Q
each_error (Ok x) P Q f p = tt
each_error (Err why) P Q f p = f why p

module _ (P Q R : Type 0) (T U : (ℕ → Type 0) → Type 0) (K : (State → Type 0) → Type 0) (me : Bytes) where
  -- why nothing was opened
  pub open_cause : (why : RunFault) → IsKeepFault why → (why ≡ fault.Disk → R) → CauseOf P Q R T U K (refusal_of me why)
  open_cause fault.Disk kind disk = disk refl
  open_cause (fault.Damaged place at) kind disk = tt
  open_cause (fault.OtherMe other) kind disk = tt
  open_cause fault.Full kind disk = absurd kind
  open_cause fault.Memory kind disk = tt
  open_cause (fault.Read input) kind disk = absurd kind
  open_cause (fault.Endless input) kind disk = absurd kind
  open_cause (fault.Short input) kind disk = absurd kind
  open_cause (fault.OtherFiles input) kind disk = absurd kind
  open_cause (fault.Steps number) kind disk = absurd kind

  -- an input that is another one has no further cause
  pub other_cause : (why : RunFault) → (input : Input) × (why ≡ fault.OtherFiles input) → CauseOf P Q R T U K (refusal_of me why)
  other_cause why (input, is) = subst (λ (e : RunFault). CauseOf P Q R T U K (refusal_of me e)) (sym is) tt

-- the same since earlier calls
module _ (T U : (ℕ → Type 0) → Type 0) (K : (State → Type 0) → Type 0) (why : Refusal) where
  pub cause_later : (mbox_first mbox_mid mbox_last : ℕ) (Q : Type 0) (shelf_first shelf_mid shelf_last : ℕ) → mbox_first ≤ mbox_mid → shelf_first ≤ shelf_mid
      → CauseOf (Rose mbox_mid mbox_last) Q (Rose shelf_mid shelf_last) T U K why → CauseOf (Rose mbox_first mbox_last) Q (Rose shelf_first shelf_last) T U K why
  cause_later mbox_first mbox_mid mbox_last Q shelf_first shelf_mid shelf_last mbox shelf =
      cause_on _ _ Q Q _ _ T T U U K (rose_since mbox_first mbox_mid mbox_last mbox) (λ x. x) (rose_since shelf_first shelf_mid shelf_last shelf) (λ X x. x) (λ X x. x) why

  pub cause_since_all : (mbox_first mbox_mid mbox_last steps_first steps_mid steps_last shelf_first shelf_mid shelf_last : ℕ) → mbox_first ≤ mbox_mid → steps_first ≤ steps_mid
      → shelf_first ≤ shelf_mid → CauseOf (Rose mbox_mid mbox_last) (Rose steps_mid steps_last) (Rose shelf_mid shelf_last) T U K why
      → CauseOf (Rose mbox_first mbox_last) (Rose steps_first steps_last) (Rose shelf_first shelf_last) T U K why
  cause_since_all mbox_first mbox_mid mbox_last steps_first steps_mid steps_last shelf_first shelf_mid shelf_last mbox steps shelf =
      cause_on _ _ _ _ _ _ T T U U K (rose_since mbox_first mbox_mid mbox_last mbox) (rose_since steps_first steps_mid steps_last steps)
      (rose_since shelf_first shelf_mid shelf_last shelf) (λ X x. x) (λ X x. x) why

-- of a follower that was opened, started and followed
pub mbox_took_on : (l m n : Option Bytes) (f started new : Following) → Took l m mbox_budget (mbox.buffered f.mbox) → started.mbox ≡ f.mbox → (bytes : Bytes) × mbox.Takes m n started.mbox new.mbox bytes
    → Took l n mbox_budget (mbox.buffered new.mbox)
mbox_took_on l m n f started new took same more =
    took_more l m n (mbox.buffered f.mbox) (mbox.buffered new.mbox) mbox_budget took (subst (λ (r : mbox.Reading). (bytes : Bytes) × mbox.Takes m n r new.mbox bytes) same more)

pub steps_took_on : (l m n : Option Bytes) (f started new : Following) → (f.lines.held ≡ []) × (f.lines.taken ≡ 0) × (f.lines.budget ≡ 2 ^ 32) → (bytes : Bytes) × steps.Takes l m f.lines started.lines bytes
    → (bytes : Bytes) × steps.Takes m n started.lines new.lines bytes → Took l n steps_budget (steps.buffered new.lines)
steps_took_on l m n f started new fresh took more =
    took_more l m n (steps.buffered started.lines) (steps.buffered new.lines) steps_budget
    (took_first l m (steps.buffered f.lines) (steps.buffered started.lines) steps_budget fresh.0 fresh.1 fresh.2 took) more

-- ---- what the files can't be the cause of

pub not_words : (me : Bytes) (why : RunFault) → refusal_of me why ≢ refusal.Usage
not_words me (fault.Read input) is = cc
not_words me (fault.Endless input) is = cc
not_words me (fault.Short input) is = cc
not_words me (fault.OtherFiles input) is = cc
not_words me (fault.Steps number) is = cc
not_words me fault.Full is = cc
not_words me fault.Disk is = cc
not_words me (fault.Damaged place at) is = cc
not_words me (fault.OtherMe other) is = cc
not_words me fault.Memory is = cc

pub not_write : (me : Bytes) (why : RunFault) → refusal_of me why ≢ refusal.Write
not_write me (fault.Read input) is = cc
not_write me (fault.Endless input) is = cc
not_write me (fault.Short input) is = cc
not_write me (fault.OtherFiles input) is = cc
not_write me (fault.Steps number) is = cc
not_write me fault.Full is = cc
not_write me fault.Disk is = cc
not_write me (fault.Damaged place at) is = cc
not_write me (fault.OtherMe other) is = cc
not_write me fault.Memory is = cc

pub not_asked : (why : AnswerFault) → answer_refusal why ≢ refusal.Usage
not_asked answer.NoChat is = cc
not_asked answer.NoApp is = cc
not_asked answer.Write is = cc
not_asked answer.Memory is = cc

-- a reply says that a text could not be written where the answer does
pub not_written : (r : Result Unit Refusal) (why : AnswerFault) → r ≡ Err (answer_refusal why) → r ≡ Err refusal.Write → why ≡ answer.Write
not_written r answer.NoChat one other = cc
not_written r answer.NoApp one other = cc
not_written r answer.Write one other = refl
not_written r answer.Memory one other = cc

-- ---- what is read and written

-- the answer is not asked for, or may read more
pub answer_apart : (q : Question) (g : Given) (old new : Counts) → RoseWithin old (follow_spends g) new → RoseWithin old (asked_cost q g) new
answer_apart q g old new rose = record { reads = omega (arith, rose.reads); written = rose.written }

-- the answer to the question
pub answer_spends : (q : Question) (g : Given) (s : State) (m : Mailbox) (old mid new : Counts) → followed g ≡ Ok (record { state = s; stop = None }) → m ≡ s.mailbox → RoseWithin old (follow_spends g) mid
    → new.reads ≤ mid.reads + answer_cost m q → new.written ≡ mid.written → RoseWithin old (asked_cost q g) new
answer_spends q g s m old mid new all same rose reads written =
    let cost : answer_cost m q ≡ answer_reads q (followed g) = ap (λ (m : Mailbox). answer_cost m q) same ∙ ap (answer_reads q) (sym all) in
    record {
      reads = sum_within old.reads (follow_spends g).reads (answer_reads q (followed g)) mid.reads new.reads (answer_cost m q) cost rose.reads reads;
      written = omega (arith, rose.written, written);
    }

-- ---- a trial

pub trial_whole : (text : Option Bytes) (old new : Option Bytes) (a b : Unit) → trial.Puts text old new (Ok a) → Puts (ok_or text refusal.Full) old new (Ok b)
trial_whole (Some text) old new a b p = p
trial_whole None old new a b p = absurd p

pub trial_refused : (text : Option Bytes) (old new : Option Bytes) (e : TrialFault) → trial.Puts text old new (Err e) → Puts (ok_or text refusal.Full) old new (Err (trial_refusal e))
trial_refused (Some text) old new of_trial.Write p = p
trial_refused (Some text) old new of_trial.Memory p = tt
trial_refused (Some text) old new of_trial.Full p = absurd p
trial_refused None old new of_trial.Write p = absurd p
trial_refused None old new of_trial.Memory p = tt
trial_refused None old new of_trial.Full p = refl

-- it has no cause in a file, and is none of words
pub trial_cause : (P Q R : Type 0) (T U : (ℕ → Type 0) → Type 0) (K : (State → Type 0) → Type 0) → ((X : State → Type 0) → K X) → (e : TrialFault)
    → CauseOf P Q R T U K (trial_refusal e)
trial_cause P Q R T U K none of_trial.Full = inr (inr (none (λ s. max_changes ≤ s.position.count)))
trial_cause P Q R T U K none of_trial.Write = tt
trial_cause P Q R T U K none of_trial.Memory = tt

pub trial_bare : (e : TrialFault) → EndsBare (status_of (trial_refusal e))
trial_bare of_trial.Full = tt
trial_bare of_trial.Write = tt
trial_bare of_trial.Memory = tt

pub not_tried : (e : TrialFault) → trial_refusal e ≢ refusal.Usage
not_tried of_trial.Full is = cc
not_tried of_trial.Write is = cc
not_tried of_trial.Memory is = cc

pub trial_write : (e : TrialFault) → trial_refusal e ≡ refusal.Write → e ≡ of_trial.Write
trial_write of_trial.Full is = absurd cc
trial_write of_trial.Write is = refl
trial_write of_trial.Memory is = absurd cc
