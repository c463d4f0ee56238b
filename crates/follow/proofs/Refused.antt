-- What is left of a run that was refused.
use Rattle.std.proofs.Common.{◌≡◌, ◌⊎◌, ◌<◌, ℕ, Bool, true, false, length, Option, None, Some, Result, Ok, Err, IfSome, sym, ap, subst, ◌∙◌, inl, inr, refl, arith, length-append}
use Rattle.std.specs.Prelude.{IsErrOf}
use Rattle.std.specs.Io.KnownBytes.{Appends}
use Rattle.mailbox_model.specs.Lists.{Bytes}
use Rattle.follower.specs.declared.fault.Input.TheVariants.{Mbox, Steps}
use Rattle.follow.specs.declared.status.Refusal.{Refusal}
use Rattle.follow.specs.declared.status.Refusal.TheVariants as refusal
use Rattle.follow.specs.declared.status.Status.{Status}
use Rattle.follow.specs.declared.status.Status.TheVariants as status
use Rattle.outside.specs.Bytes.{AppendsPrefix, PutAppends}
use Rattle.outside.specs.Causes.{HasCause, Rose}
use Rattle.outside.specs.Moments.{LeavesOnly}
use Rattle.outside.specs.Places.{Places}
use Rattle.outside.proofs.Moments.{started}
use Rattle.outside.specs.declared.faults.Failed.{Failed}
use Rattle.follow.specs.Outcome.{Agrees, EndsBare, Gave, Given, LastIf, MayStandIf, PutsLine, PutsOutcome, PutsWhole, TellsSteps}
use Rattle.follow.specs.Replies.{Puts}
use Rattle.follow.specs.Statuses.{line_of, status_of}

abbrev Said : Refusal → Status → Type 0
Said why s = (s ≡ status_of why) ⊎ (s ≡ status.Memory)

free : (o : Result Bytes Refusal) → Agrees o status.Memory
free (Ok text) = tt
free (Err why) = tt

-- ---- the status is that of the outcome

pub agrees_ok : (o : Result Bytes Refusal) (old new : Option Bytes) → Puts o old new (Ok tt) → Agrees o status.Ok
agrees_ok (Ok text) old new puts = tt
agrees_ok (Err why) old new puts = absurd puts

pub agrees_write : (o : Result Bytes Refusal) (old new : Option Bytes) → Puts o old new (Err refusal.Write) → Agrees o status.Write
agrees_write (Ok text) old new puts = tt
agrees_write (Err why) old new puts = absurd puts

pub agrees_refused : (o : Result Bytes Refusal) (old new : Option Bytes) (why : Refusal) (s : Status) → Puts o old new (Err why) → Said why s → Agrees o s
agrees_refused o old new why s puts (inr memory) = subst (Agrees o) (sym memory) (free o)
agrees_refused o old new why s puts (inl is) = subst (Agrees o) (sym is) (by o why puts)
  where
    by : (o : Result Bytes Refusal) (why : Refusal) → Puts o old new (Err why) → Agrees o (status_of why)
    by (Ok text) refusal.Usage p = absurd cc
    by (Ok text) (refusal.Read input) p = tt
    by (Ok text) (refusal.Steps line) p = absurd cc
    by (Ok text) refusal.Disk p = tt
    by (Ok text) refusal.Write p = tt
    by (Ok text) refusal.Memory p = tt
    by (Ok text) refusal.Full p = absurd cc
    by (Ok text) refusal.NoChat p = absurd cc
    by (Ok text) (refusal.Damaged place at) p = absurd cc
    by (Ok text) (refusal.Short input) p = absurd cc
    by (Ok text) (refusal.OtherFiles input) p = absurd cc
    by (Ok text) (refusal.OtherMe other me) p = absurd cc
    by (Ok text) (refusal.Endless input) p = tt
    by (Ok text) refusal.NoApp p = absurd cc
    by (Err e) refusal.Usage p = (let same : refusal.Usage ≡ e = cc in ap status_of same)
    by (Err e) (refusal.Read input) p = tt
    by (Err e) (refusal.Steps line) p = (let same : refusal.Steps line ≡ e = cc in ap status_of same)
    by (Err e) refusal.Disk p = tt
    by (Err e) refusal.Write p = absurd p
    by (Err e) refusal.Memory p = tt
    by (Err e) refusal.Full p = (let same : refusal.Full ≡ e = cc in ap status_of same)
    by (Err e) refusal.NoChat p = (let same : refusal.NoChat ≡ e = cc in ap status_of same)
    by (Err e) (refusal.Damaged place at) p = (let same : refusal.Damaged place at ≡ e = cc in ap status_of same)
    by (Err e) (refusal.Short input) p = (let same : refusal.Short input ≡ e = cc in ap status_of same)
    by (Err e) (refusal.OtherFiles input) p = (let same : refusal.OtherFiles input ≡ e = cc in ap status_of same)
    by (Err e) (refusal.OtherMe other me) p = (let same : refusal.OtherMe other me ≡ e = cc in ap status_of same)
    by (Err e) (refusal.Endless input) p = tt
    by (Err e) refusal.NoApp p = (let same : refusal.NoApp ≡ e = cc in ap status_of same)

-- ---- what was put

pub puts_ok : (o : Result Bytes Refusal) (old new : Option Bytes) (rose : Type 0) → Puts o old new (Ok tt) → PutsOutcome old new rose o status.Ok
puts_ok (Ok text) old new rose puts = puts
puts_ok (Err why) old new rose puts = absurd puts

pub puts_write : (o : Result Bytes Refusal) (old new : Option Bytes) (rose : Type 0) → Puts o old new (Err refusal.Write) → PutsOutcome old new rose o status.Write
puts_write (Ok text) old new rose puts = puts
puts_write (Err why) old new rose puts = absurd puts

-- a line was put for this refusal: its own, or that memory ran out
abbrev pub PutsSaid : Option Bytes → Option Bytes → Type 0 → Refusal → Status → Type 0
PutsSaid old new rose why s = (said : Refusal) × (s ≡ status_of said) × ((said ≡ why) ⊎ (said ≡ refusal.Memory)) × PutsWhole old new (line_of said) rose

pub puts_refused : (o : Result Bytes Refusal) (old new : Option Bytes) (rose : Type 0) (why : Refusal) (s : Status) → (why ≡ refusal.Write → ⊥) → Puts o old old (Err why) → PutsSaid old new rose why s → PutsOutcome old new rose o s
puts_refused o old new rose why s write puts (said, is, inr memory, line) = subst (PutsOutcome old new rose o) (sym (is ∙ ap status_of memory)) (free o)
  where
    free : (o : Result Bytes Refusal) → PutsOutcome old new rose o status.Memory
    free (Ok text) = tt
    free (Err e) = tt
puts_refused o old new rose why s write puts (said, is, inl same, line) =
    subst (PutsOutcome old new rose o) (sym (is ∙ ap status_of same)) (by o why write puts (subst (λ (e : Refusal). PutsWhole old new (line_of e) rose) same line))
  where
    own : (e why : Refusal) → ◌≡◌ {A = Result Bytes Refusal} (Err e) (Err why) → PutsWhole old new (line_of why) rose → PutsWhole old new (line_of e) rose
    own e why is line = (let same : why ≡ e = cc in subst (λ (e : Refusal). PutsWhole old new (line_of e) rose) same line)

    by : (o : Result Bytes Refusal) (why : Refusal) → (why ≡ refusal.Write → ⊥) → Puts o old old (Err why) → PutsWhole old new (line_of why) rose → PutsOutcome old new rose o (status_of why)
    by (Ok text) refusal.Usage w p line = tt
    by (Ok text) (refusal.Read input) w p line = tt
    by (Ok text) (refusal.Steps number) w p line = tt
    by (Ok text) refusal.Disk w p line = tt
    by (Ok text) refusal.Write w p line = absurd (w refl)
    by (Ok text) refusal.Memory w p line = tt
    by (Ok text) refusal.Full w p line = tt
    by (Ok text) refusal.NoChat w p line = tt
    by (Ok text) (refusal.Damaged place at) w p line = tt
    by (Ok text) (refusal.Short input) w p line = tt
    by (Ok text) (refusal.OtherFiles input) w p line = tt
    by (Ok text) (refusal.OtherMe other me) w p line = tt
    by (Ok text) (refusal.Endless input) w p line = tt
    by (Ok text) refusal.NoApp w p line = tt
    by (Err e) refusal.Usage w p line = own e refusal.Usage p line
    by (Err e) (refusal.Read input) w p line = tt
    by (Err e) (refusal.Steps number) w p line = own e (refusal.Steps number) p line
    by (Err e) refusal.Disk w p line = tt
    by (Err e) refusal.Write w p line = absurd (w refl)
    by (Err e) refusal.Memory w p line = tt
    by (Err e) refusal.Full w p line = own e refusal.Full p line
    by (Err e) refusal.NoChat w p line = own e refusal.NoChat p line
    by (Err e) (refusal.Damaged place at) w p line = own e (refusal.Damaged place at) p line
    by (Err e) (refusal.Short input) w p line = own e (refusal.Short input) p line
    by (Err e) (refusal.OtherFiles input) w p line = own e (refusal.OtherFiles input) p line
    by (Err e) (refusal.OtherMe other me) w p line = own e (refusal.OtherMe other me) p line
    by (Err e) (refusal.Endless input) w p line = tt
    by (Err e) refusal.NoApp w p line = own e refusal.NoApp p line

-- ---- where nothing failed, an answer was put whole, or memory ran out

pub answered : (old new : Option Bytes) (rose : Type 0) (o : Result Bytes Refusal) (text : Bytes) (s : Status) → o ≡ Ok text → Agrees o s → PutsOutcome old new rose o s
    → ¬ (s ≡ status.Read) → ¬ (s ≡ status.Endless) → ¬ (s ≡ status.Disk) → ¬ (s ≡ status.Write) → (s ≡ status.Ok × Appends old new text) ⊎ (s ≡ status.Memory)
answered old new rose (Err why) text s is agrees puts read endless disk write = absurd cc
answered old new rose (Ok t) text status.Ok is agrees puts read endless disk write = (let same : t ≡ text = cc in inl (refl, subst (λ put. Appends old new put) same puts))
answered old new rose (Ok t) text status.Memory is agrees puts read endless disk write = inr refl
answered old new rose (Ok t) text status.Read is agrees puts read endless disk write = absurd (read refl)
answered old new rose (Ok t) text status.Endless is agrees puts read endless disk write = absurd (endless refl)
answered old new rose (Ok t) text status.Write is agrees puts read endless disk write = absurd (write refl)
answered old new rose (Ok t) text status.Disk is agrees puts read endless disk write = absurd (disk refl)
answered old new rose (Ok t) text status.Usage is agrees puts read endless disk write = absurd agrees
answered old new rose (Ok t) text status.Steps is agrees puts read endless disk write = absurd agrees
answered old new rose (Ok t) text status.Full is agrees puts read endless disk write = absurd agrees
answered old new rose (Ok t) text status.NoChat is agrees puts read endless disk write = absurd agrees
answered old new rose (Ok t) text status.NoApp is agrees puts read endless disk write = absurd agrees
answered old new rose (Ok t) text status.Damaged is agrees puts read endless disk write = absurd agrees
answered old new rose (Ok t) text status.Short is agrees puts read endless disk write = absurd agrees
answered old new rose (Ok t) text status.OtherFiles is agrees puts read endless disk write = absurd agrees
answered old new rose (Ok t) text status.OtherMe is agrees puts read endless disk write = absurd agrees

-- the line of a read fault has its cause
pub not_read : (old new : Option Bytes) (cause : Refusal → Type 0) (rose : Type 0) (s : Status) → PutsLine old new cause rose s
    → ¬ cause (refusal.Read Mbox) → ¬ cause (refusal.Read Steps) → ¬ (s ≡ status.Read)
not_read old new cause rose s line mbox steps is = by (subst (PutsLine old new cause rose) is line)
  where
    by : PutsLine old new cause rose status.Read → ⊥
    by l = none l.0 l.1 l.2
      where
        none : (why : Refusal) → status.Read ≡ status_of why → cause why → ⊥
        none (refusal.Read Mbox) e c = mbox c
        none (refusal.Read Steps) e c = steps c
        none refusal.Usage e c = absurd cc
        none (refusal.Steps line) e c = absurd cc
        none refusal.Disk e c = absurd cc
        none refusal.Write e c = absurd cc
        none refusal.Memory e c = absurd cc
        none refusal.Full e c = absurd cc
        none refusal.NoChat e c = absurd cc
        none (refusal.Damaged place at) e c = absurd cc
        none (refusal.Short input) e c = absurd cc
        none (refusal.OtherFiles input) e c = absurd cc
        none (refusal.OtherMe other me) e c = absurd cc
        none (refusal.Endless input) e c = absurd cc
        none refusal.NoApp e c = absurd cc

pub not_endless : (old new : Option Bytes) (cause : Refusal → Type 0) (rose : Type 0) (s : Status) → PutsLine old new cause rose s
    → ¬ cause (refusal.Endless Mbox) → ¬ cause (refusal.Endless Steps) → ¬ (s ≡ status.Endless)
not_endless old new cause rose s line mbox steps is = by (subst (PutsLine old new cause rose) is line)
  where
    by : PutsLine old new cause rose status.Endless → ⊥
    by l = none l.0 l.1 l.2
      where
        none : (why : Refusal) → status.Endless ≡ status_of why → cause why → ⊥
        none (refusal.Endless Mbox) e c = mbox c
        none (refusal.Endless Steps) e c = steps c
        none refusal.Usage e c = absurd cc
        none (refusal.Read input) e c = absurd cc
        none (refusal.Steps line) e c = absurd cc
        none refusal.Disk e c = absurd cc
        none refusal.Write e c = absurd cc
        none refusal.Memory e c = absurd cc
        none refusal.Full e c = absurd cc
        none refusal.NoChat e c = absurd cc
        none (refusal.Damaged place at) e c = absurd cc
        none (refusal.Short input) e c = absurd cc
        none (refusal.OtherFiles input) e c = absurd cc
        none (refusal.OtherMe other me) e c = absurd cc
        none refusal.NoApp e c = absurd cc

pub not_disk : (old new : Option Bytes) (cause : Refusal → Type 0) (rose : Type 0) (s : Status) → PutsLine old new cause rose s → ¬ cause refusal.Disk → ¬ (s ≡ status.Disk)
not_disk old new cause rose s line shelf is = by (subst (PutsLine old new cause rose) is line)
  where
    by : PutsLine old new cause rose status.Disk → ⊥
    by l = none l.0 l.1 l.2
      where
        none : (why : Refusal) → status.Disk ≡ status_of why → cause why → ⊥
        none refusal.Disk e c = shelf c
        none refusal.Usage e c = absurd cc
        none (refusal.Read input) e c = absurd cc
        none (refusal.Steps line) e c = absurd cc
        none refusal.Write e c = absurd cc
        none refusal.Memory e c = absurd cc
        none refusal.Full e c = absurd cc
        none refusal.NoChat e c = absurd cc
        none (refusal.Damaged place at) e c = absurd cc
        none (refusal.Short input) e c = absurd cc
        none (refusal.OtherFiles input) e c = absurd cc
        none (refusal.OtherMe other me) e c = absurd cc
        none (refusal.Endless input) e c = absurd cc
        none refusal.NoApp e c = absurd cc

-- fewer bytes were there
pub not_all : (before after : Option Bytes) (bytes : Bytes) (budget : ℕ) → before ≡ Some bytes → length bytes < budget → ¬ Gave before after (λ n. n ≡ budget)
not_all None after bytes budget is fewer t = absurd cc
not_all (Some b) None bytes budget is fewer t = absurd t.2
not_all (Some b) (Some a) bytes budget is fewer t =
    let same : b ≡ bytes = cc in
    omega (arith, fewer, ap length same, ap length t.2, t.1, length-append t.0 a)

-- ---- a line that was put

-- it was put whole, or a prefix of it where the sink's count rose
pub put_whole : (old new : Option Bytes) (before after : ℕ) (chunk line : Bytes) (r : Result Unit Failed) → chunk ≡ line → PutAppends old new r chunk → HasCause before after r
    → PutsWhole old new line (Rose before after)
put_whole old new before after chunk line (Ok _) is put cause = inl (subst (λ l. Appends old new l) is put)
put_whole old new before after chunk line (Err _) is put cause = inr (subst (λ l. AppendsPrefix old new l) is put, cause.failed)

-- the line of a refusal, with its cause
pub refused_line : (old new : Option Bytes) (cause : Refusal → Type 0) (rose : Type 0) (why : Refusal) (s : Status) → cause why → cause refusal.Memory
    → PutsSaid old new rose why s → PutsLine old new cause rose s
refused_line old new cause rose why s of_why of_memory line =
    subst (PutsLine old new cause rose) (sym line.1) (by line.0 (which line.0 line.2) line.3)
  where
    which : (said : Refusal) → (said ≡ why) ⊎ (said ≡ refusal.Memory) → cause said
    which said (inl is) = subst cause (sym is) of_why
    which said (inr is) = subst cause (sym is) of_memory

    by : (said : Refusal) → cause said → PutsWhole old new (line_of said) rose → PutsLine old new cause rose (status_of said)
    by refusal.Usage c p = (refusal.Usage, refl, c, p)
    by (refusal.Read input) c p = (refusal.Read input, refl, c, p)
    by (refusal.Steps number) c p = (refusal.Steps number, refl, c, p)
    by refusal.Disk c p = (refusal.Disk, refl, c, p)
    by refusal.Write c p = tt
    by refusal.Memory c p = (refusal.Memory, refl, c, p)
    by refusal.Full c p = (refusal.Full, refl, c, p)
    by refusal.NoChat c p = (refusal.NoChat, refl, c, p)
    by (refusal.Damaged place at) c p = (refusal.Damaged place at, refl, c, p)
    by (refusal.Short input) c p = (refusal.Short input, refl, c, p)
    by (refusal.OtherFiles input) c p = (refusal.OtherFiles input, refl, c, p)
    by (refusal.OtherMe other me) c p = (refusal.OtherMe other me, refl, c, p)
    by (refusal.Endless input) c p = (refusal.Endless input, refl, c, p)
    by refusal.NoApp c p = (refusal.NoApp, refl, c, p)

-- the same of a weaker cause
pub line_on : (old new : Option Bytes) (A B : Refusal → Type 0) (rose : Type 0) → ((why : Refusal) → A why → B why)
    → (s : Status) → PutsLine old new A rose s → PutsLine old new B rose s
line_on old new A B rose on status.Ok line = tt
line_on old new A B rose on status.Usage line = (line.0, line.1, on line.0 line.2, line.3)
line_on old new A B rose on status.Read line = (line.0, line.1, on line.0 line.2, line.3)
line_on old new A B rose on status.Steps line = (line.0, line.1, on line.0 line.2, line.3)
line_on old new A B rose on status.Disk line = (line.0, line.1, on line.0 line.2, line.3)
line_on old new A B rose on status.Write line = tt
line_on old new A B rose on status.Memory line = (line.0, line.1, on line.0 line.2, line.3)
line_on old new A B rose on status.Full line = (line.0, line.1, on line.0 line.2, line.3)
line_on old new A B rose on status.NoChat line = (line.0, line.1, on line.0 line.2, line.3)
line_on old new A B rose on status.Damaged line = (line.0, line.1, on line.0 line.2, line.3)
line_on old new A B rose on status.Short line = (line.0, line.1, on line.0 line.2, line.3)
line_on old new A B rose on status.OtherFiles line = (line.0, line.1, on line.0 line.2, line.3)
line_on old new A B rose on status.OtherMe line = (line.0, line.1, on line.0 line.2, line.3)
line_on old new A B rose on status.Endless line = (line.0, line.1, on line.0 line.2, line.3)
line_on old new A B rose on status.NoApp line = (line.0, line.1, on line.0 line.2, line.3)

-- ---- memory

pub said_memory : (why : Refusal) (s : Status) → Said why s → IsErrOf {T = Unit} (Err why) refusal.Memory → s ≡ status.Memory
said_memory why s (inl is) memory = is ∙ ap status_of {y = refusal.Memory} cc
said_memory why s (inr is) memory = is

pub not_memory : (why : Refusal) → why ≡ refusal.Write → IsErrOf {T = Unit} (Err why) refusal.Memory → ⊥
not_memory why is memory = absurd cc

-- the steps file told fewer bytes
pub not_all_steps : (before after lines : Option Bytes) (budget : ℕ) → TellsSteps true before lines → IfSome lines (λ lines. length lines < budget) → ¬ Gave before after (λ n. n ≡ budget)
not_all_steps before after None budget told fewer t = absurd told
not_all_steps before after (Some lines) budget told fewer t = not_all before after lines budget told fewer t

-- ---- a run that follows no files

-- one that follows some does not come to an endless one, or it follows none
pub not_endless_at : (asked : Bool) (s : Status) → (asked ≡ true → ¬ (s ≡ status.Endless)) → (asked ≡ false → EndsBare s) → ¬ (s ≡ status.Endless)
not_endless_at true s files bare is = files refl is
not_endless_at false s files bare is = subst EndsBare is (bare refl)

pub bare_said : (why : Refusal) (s : Status) → Said why s → EndsBare (status_of why) → EndsBare s
bare_said why s (inl is) bare = subst EndsBare (sym is) bare
bare_said why s (inr is) bare = subst EndsBare (sym is) tt

-- ---- what is kept

pub last_of_memory : (o : Option Given) (outcomes : Places → Type 0) → LastIf o status.Memory outcomes
last_of_memory None outcomes = tt
last_of_memory (Some g) outcomes = tt

pub last_of_usage : (o : Option Given) (outcomes : Places → Type 0) → LastIf o status.Usage outcomes
last_of_usage None outcomes = tt
last_of_usage (Some g) outcomes = tt

pub last_said : (o : Option Given) (outcomes : Places → Type 0) (why : Refusal) (s : Status) → Said why s → LastIf o (status_of why) outcomes → LastIf o s outcomes
last_said o outcomes why s (inl is) last = subst (λ (s : Status). LastIf o s outcomes) (sym is) last
last_said o outcomes why s (inr is) last = subst (λ (s : Status). LastIf o s outcomes) (sym is) (last_of_memory o outcomes)

-- a shelf that was not called
pub untouched_leaves : {D : Type 0} (moment : D → ℕ) (left_since : D → ℕ → Places → Type 0) (shelf : D) (outcomes : Places → Type 0) → ((c : Places) → left_since shelf (moment shelf) c → outcomes c) → (o : Option Given)
    → LeavesOnly moment left_since shelf shelf (MayStandIf o outcomes)
untouched_leaves moment left_since shelf outcomes only_now o = started moment left_since shelf (MayStandIf o outcomes) (λ c left. by o c (only_now c left))
  where
    by : (o : Option Given) (c : Places) → outcomes c → MayStandIf o outcomes c
    by None c left = left
    by (Some g) c left = inl (c, left, refl)
