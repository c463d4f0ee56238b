-- A turn makes the next change of the files, and the others are to come after it.
use Rattle.std.proofs.Common.{◌≡◌, ◌≢◌, ◌+◌, ℕ, true, false, List, [], ◌∷◌, ◌++◌, length, take, Option, Some, None, ◌≤◌, ◌<◌, ◌⊎◌, inl, inr, refl, sym, ap, subst, ◌∙◌, if◌then◌else◌, arith}
use Rattle.std.specs.Prelude.{⊤, is_some}
use Rattle.std.proofs.lemmas.Bool.{false≢true, le-ltb, lt-ltb}
use Rattle.kit.specs.Chains.{StandsFor, chain, value_of}
use Rattle.kit.specs.Lines.{content}
use Rattle.kit.proofs.ChainLaws.{chain_is}
use Rattle.mboxrd.specs.Answers.{IsNext, max_mail_len}
use Rattle.mboxrd.specs.declared.taken.Taken.{Taken}
use Rattle.mboxrd.specs.declared.taken.Taken.TheVariants as taken
use Rattle.mboxrd.specs.Mails.{Mail, mails_from}
use Rattle.mboxrd.specs.Reading.{Reading, IsAt, IsTraced, position as mbox_position}
use Rattle.chat_card.specs.Cards.{card_of}
use Rattle.mailbox_model.specs.declared.change.Fault.TheVariants as is_fault
use Rattle.mailbox_model.specs.declared.change.Change.{Change}
use Rattle.mailbox_model.specs.declared.change.Change.TheVariants.{ArriveFault, Expunge, Seen, At}
use Rattle.mailbox_model.specs.Mailbox.{Mailbox, after}
use Rattle.std.specs.Io.KnownBytes.{Consumes}
use Rattle.source_buffer.specs.Known.{IfKnown}
use Rattle.steps_file.specs.Answers.{IsNext as IsNextLine}
use Rattle.steps_file.specs.Lines.{ended_lines}
use Rattle.steps_file.specs.Reading.{Reading as StepsReading, IsAt as IsAtLine, IsTraced as IsTracedLine}
use Rattle.steps_file.specs.declared.taken.Taken.{Taken as TakenLine}
use Rattle.steps_file.specs.declared.taken.Taken.TheVariants as taken_line
use Rattle.steps_file.specs.Steps.{step_of}
use Rattle.steps_file.specs.declared.step.Step.{Step}
use Rattle.steps_file.specs.declared.step.Step.TheVariants as step
use Rattle.follower.specs.declared.fault.RunFault.{RunFault}
use Rattle.follower.specs.declared.fault.RunFault.TheVariants as fault
use Rattle.state_image.specs.declared.position.Position.{Position}
use Rattle.arrivals.specs.Arrivals.{arrival_of, arrival_taken, arrival_with}
use Rattle.arrivals.proofs.Uids.{next_uid_after}
use Rattle.state_store.specs.States.{State, IsWithin}
use Rattle.touched_chats.specs.Costs.{change_cost}
use Rattle.keeper.specs.Keeping.{Keeping, after_change, is_refused}
use Rattle.tail_journal.specs.Pending.{with_change}
use Rattle.keeper.specs.declared.fault.KeepFault.{KeepFault}
use Rattle.keeper.specs.declared.fault.KeepFault.TheVariants as of_keeper
use Rattle.follower.specs.Feed.{Fed, Feed, Files, after_fed, at_line, at_mail, counted, fed_first, line_fed, lines_fed, mail_fed, mails_fed, mbox_at, steps_at}
use Rattle.follower.specs.Following.{ArrivesNext, Following, IsKeepFault, Makes, MboxReaderStands, StandsInMbox, StandsInSteps, StepsReaderStands, keep_fault, to_come, lines_ahead, mails_ahead}
use Rattle.follower.specs.Going.{MakesFirst, RefusesFirst, StopsAt}
use Rattle.follower.specs.Spending.{next_cost}
use Rattle.follower.proofs.Spending.{next_is}

-- ---- one change

-- a change is made, and pending after the others
abbrev IsAfter : Keeping → Change → Position → Keeping → Type 0
IsAfter k change q n = (n.state ≡ after_fed k.state (record { change = change; position = q })) × (n.pending ≡ with_change k.pending change)

-- the first of a feed is this change, and these are the others
module _ (k n : Keeping) (change : Change) (q : Position) (f : Fed) (is : ◌≡◌ {A = Change × Position} (change, q) (f.change, f.position)) where
  pub makes_first : (rest others : Feed) → is_refused k.state change ≡ false → IsAfter k change q n → rest ≡ others → MakesFirst k (fed_first f rest) n others
  makes_first rest others room after same = record {
    fed = f;
    first = ap (fed_first f) same;
    room = ap (λ x. is_refused k.state x.0) (sym is) ∙ room;
    state = after.0 ∙ ap (λ x. after_fed k.state (record { change = x.0; position = x.1 })) is;
    pending = after.1 ∙ ap (λ x. with_change k.pending x.0) is;
  }

refuses_first : (s : State) (change : Change) (f : Fed) → change ≡ f.change → (rest : Feed) → is_refused s change ≡ true → RefusesFirst s (fed_first f rest)
refuses_first s change f is rest refused = record { fed = f; others = rest; first = refl; refused = ap (is_refused s) (sym is) ∙ refused }

-- what the change costs
first_costs : (s : State) (change : Change) (f : Fed) (rest : Feed) → change ≡ f.change → change_cost s.mailbox change ≡ next_cost s (fed_first f rest).changes
first_costs s change f rest is = ap (change_cost s.mailbox) is ∙ sym (next_is s (fed_first f rest) f rest refl)

-- whatever the files tell
pub made_reads : (old mid new : Keeping) (change : Change) (q : Position) (from to : ℕ) → mid ≡ old → new.state ≡ after_change mid.state change q → to ≤ from + change_cost mid.state.mailbox change
    → (made : Change) × (new.state.mailbox ≡ after old.state.mailbox made) × (to ≤ from + change_cost old.state.mailbox made)
made_reads old mid new change q from to same state cost = (
  change,
  ap (λ (s : State). s.mailbox) state ∙ ap (λ (k : Keeping). after k.state.mailbox change) same,
  subst (λ (k : Keeping). to ≤ from + change_cost k.state.mailbox change) same cost,
)

pub tried_reads : (old mid : Keeping) (change : Change) (from to : ℕ) → mid ≡ old → to ≤ from + change_cost mid.state.mailbox change
    → (tried : Change) × (to ≤ from + change_cost old.state.mailbox tried)
tried_reads old mid change from to same cost = (change, subst (λ (k : Keeping). to ≤ from + change_cost k.state.mailbox change) same cost)

-- where nothing is read, any change will do
pub none_reads : (m : Mailbox) (old : ℕ) → (tried : Change) × (old ≤ old + change_cost m tried)
none_reads m old = (At 0, omega arith)

-- ---- a mail

mail_goes : (files : Files) (k n : Keeping) (mail : Mail) (mails others : List Mail) (change : Change) (q : Position) → change ≡ arrival_of k.state.mailbox.next_uid mail → q ≡ at_mail files (counted k.state.position) mail → others ≡ mails
    → is_refused k.state change ≡ false → IsAfter k change q n
    → MakesFirst k (mails_fed files k.state.mailbox.next_uid k.state.position (mail ∷ mails)) n (mails_fed files n.state.mailbox.next_uid n.state.position others)
mail_goes files k n mail mails others change q c p o room after =
    let s = k.state in
    let uid = s.mailbox.next_uid in
    let f = mail_fed files uid s.position mail in
    let is : ◌≡◌ {A = Change × Position} (change, q) (f.change, f.position) = λ i. (c i, p i) in
    let here : n.state ≡ after_fed s f = after.0 ∙ ap (λ (x : Change × Position). after_fed s (record { change = x.0; position = x.1 })) is in
    makes_first k n change q f is (mails_fed files (uid + 1) f.position mails) (mails_fed files n.state.mailbox.next_uid n.state.position others) room after
    (ap (λ uid. mails_fed files uid f.position mails) (sym (next_uid_after s.mailbox uid mail))
    ∙ ap (λ ms. mails_fed files (after_fed s f).mailbox.next_uid f.position ms) (sym o)
    ∙ ap (λ (x : State). mails_fed files x.mailbox.next_uid x.position others) (sym here))

mail_full : (files : Files) (s : State) (mail : Mail) (mails : List Mail) (change : Change) → change ≡ arrival_of s.mailbox.next_uid mail → is_refused s change ≡ true
    → RefusesFirst s (mails_fed files s.mailbox.next_uid s.position (mail ∷ mails))
mail_full files s mail mails change c full =
    let f = mail_fed files s.mailbox.next_uid s.position mail in
    refuses_first s change f c (mails_fed files (s.mailbox.next_uid + 1) f.position mails) full

-- ---- a line

abbrev later : Files → Option ℕ → List (List ℕ) → ℕ → Position → List Mail → Feed
later files last lines = λ uid p mails. lines_fed files last uid p mails lines

module _ (files : Files) (last : Option ℕ) (k n : Keeping) (raw : List ℕ) (lines next : List (List ℕ)) (mails others : List Mail) (change : Change) (q : Position)
    (same : next ≡ lines) (room : is_refused k.state change ≡ false) (after : IsAfter k change q n) where
  abbrev s : State
  s = k.state

  abbrev t : State
  t = n.state

  -- a change after which the next uid is this one
  step_made : (f : Fed) (left : List Mail) (uid : ℕ) → ◌≡◌ {A = Change × Position} (change, q) (f.change, f.position) → others ≡ left → (after_fed s f).mailbox.next_uid ≡ uid
      → MakesFirst k (fed_first f (later files last lines uid f.position left)) n (lines_fed files last t.mailbox.next_uid t.position others next)
  step_made f left uid is o u =
      let here : t ≡ after_fed s f = after.0 ∙ ap (λ (x : Change × Position). after_fed s (record { change = x.0; position = x.1 })) is in
      makes_first k n change q f is (later files last lines uid f.position left) (lines_fed files last t.mailbox.next_uid t.position others next) room after
      (ap (λ uid. later files last lines uid f.position left) (sym u)
      ∙ ap (λ ms. later files last lines (after_fed s f).mailbox.next_uid f.position ms) (sym o)
      ∙ ap (λ ls. lines_fed files last (after_fed s f).mailbox.next_uid f.position others ls) (sym same)
      ∙ ap (λ (x : State). lines_fed files last x.mailbox.next_uid x.position others next) (sym here))

  step_goes : (st : Step) → Makes files st s.mailbox.next_uid (counted (at_line files s.position raw)) mails (change, q) others
      → MakesFirst k (line_fed files (Some st) s.mailbox.next_uid s.position raw mails (later files last lines)) n (lines_fed files last t.mailbox.next_uid t.position others next)
  step_goes st m = by st mails m
    where
      by : (st : Step) (mails : List Mail) → Makes files st s.mailbox.next_uid (counted (at_line files s.position raw)) mails (change, q) others
          → MakesFirst k (line_fed files (Some st) s.mailbox.next_uid s.position raw mails (later files last lines)) n (lines_fed files last t.mailbox.next_uid t.position others next)
      by step.Next [] m = absurd m
      by step.Next (mail ∷ mails) m = step_made (mail_fed files s.mailbox.next_uid (at_line files s.position raw) mail) mails (s.mailbox.next_uid + 1) m.0 m.1 (next_uid_after s.mailbox s.mailbox.next_uid mail)
      by (step.Expunge uid) mails m = step_made (record { change = Expunge uid; position = counted (at_line files s.position raw) }) mails s.mailbox.next_uid m.0 m.1 refl
      by (step.Seen uid) mails m = step_made (record { change = Seen uid; position = counted (at_line files s.position raw) }) mails s.mailbox.next_uid m.0 m.1 refl
      by (step.At moment) mails m = step_made (record { change = At moment; position = counted (at_line files s.position raw) }) mails s.mailbox.next_uid m.0 m.1 refl

step_full : (files : Files) (last : Option ℕ) (s : State) (raw : List ℕ) (lines : List (List ℕ)) (st : Step) (mails others : List Mail) (change : Change) (q : Position)
    → Makes files st s.mailbox.next_uid (counted (at_line files s.position raw)) mails (change, q) others → is_refused s change ≡ true
    → RefusesFirst s (line_fed files (Some st) s.mailbox.next_uid s.position raw mails (later files last lines))
step_full files last s raw lines step.Next [] others change q m full = absurd m
step_full files last s raw lines step.Next (mail ∷ mails) others change q m full =
    let f = mail_fed files s.mailbox.next_uid (at_line files s.position raw) mail in
    refuses_first s change f (ap (λ x. x.0) m.0) (later files last lines (s.mailbox.next_uid + 1) f.position mails) full
step_full files last s raw lines (step.Expunge n) mails others change q m full =
    let p = counted (at_line files s.position raw) in
    refuses_first s change (record { change = Expunge n; position = p }) (ap (λ x. x.0) m.0) (later files last lines s.mailbox.next_uid p mails) full
step_full files last s raw lines (step.Seen n) mails others change q m full =
    let p = counted (at_line files s.position raw) in
    refuses_first s change (record { change = Seen n; position = p }) (ap (λ x. x.0) m.0) (later files last lines s.mailbox.next_uid p mails) full
step_full files last s raw lines (step.At n) mails others change q m full =
    let p = counted (at_line files s.position raw) in
    refuses_first s change (record { change = At n; position = p }) (ap (λ x. x.0) m.0) (later files last lines s.mailbox.next_uid p mails) full

step_costs : (files : Files) (last : Option ℕ) (s : State) (raw : List ℕ) (lines : List (List ℕ)) (st : Step) (mails others : List Mail) (change : Change) (p q : Position)
    → Makes files st s.mailbox.next_uid p mails (change, q) others → change_cost s.mailbox change ≡ next_cost s (line_fed files (Some st) s.mailbox.next_uid s.position raw mails (later files last lines)).changes
step_costs files last s raw lines step.Next [] others change p q m = absurd m
step_costs files last s raw lines step.Next (mail ∷ mails) others change p q m =
    let f = mail_fed files s.mailbox.next_uid (at_line files s.position raw) mail in
    first_costs s change f (later files last lines (s.mailbox.next_uid + 1) f.position mails) (ap (λ x. x.0) m.0)
step_costs files last s raw lines (step.Expunge n) mails others change p q m =
    let at = counted (at_line files s.position raw) in
    first_costs s change (record { change = Expunge n; position = at }) (later files last lines s.mailbox.next_uid at mails) (ap (λ x. x.0) m.0)
step_costs files last s raw lines (step.Seen n) mails others change p q m =
    let at = counted (at_line files s.position raw) in
    first_costs s change (record { change = Seen n; position = at }) (later files last lines s.mailbox.next_uid at mails) (ap (λ x. x.0) m.0)
step_costs files last s raw lines (step.At n) mails others change p q m =
    let at = counted (at_line files s.position raw) in
    first_costs s change (record { change = At n; position = at }) (later files last lines s.mailbox.next_uid at mails) (ap (λ x. x.0) m.0)

-- the lines, of which the first is what it is
abbrev by_step : Files → Option ℕ → State → List ℕ → List (List ℕ) → List Mail → Option Step → Feed
by_step files last s raw lines mails o = line_fed files o s.mailbox.next_uid s.position raw mails (later files last lines)

line_goes : (files : Files) (last : Option ℕ) (k n : Keeping) (raw : List ℕ) (lines next : List (List ℕ)) (st : Step) (mails others : List Mail) (change : Change) (p q : Position)
    → step_of (content raw) ≡ Some st → next ≡ lines → p ≡ counted (at_line files k.state.position raw) → Makes files st k.state.mailbox.next_uid p mails (change, q) others
    → is_refused k.state change ≡ false → IsAfter k change q n
    → MakesFirst k (lines_fed files last k.state.mailbox.next_uid k.state.position mails (raw ∷ lines)) n (lines_fed files last n.state.mailbox.next_uid n.state.position others next)
line_goes files last k n raw lines next st mails others change p q is same place m room after =
    subst (λ o. MakesFirst k (by_step files last k.state raw lines mails o) n (lines_fed files last n.state.mailbox.next_uid n.state.position others next)) (sym is)
    (step_goes files last k n raw lines next mails others change q same room after st (subst (λ p. Makes files st k.state.mailbox.next_uid p mails (change, q) others) place m))

line_full : (files : Files) (last : Option ℕ) (s : State) (raw : List ℕ) (lines : List (List ℕ)) (st : Step) (mails others : List Mail) (change : Change) (p q : Position)
    → step_of (content raw) ≡ Some st → p ≡ counted (at_line files s.position raw) → Makes files st s.mailbox.next_uid p mails (change, q) others → is_refused s change ≡ true
    → RefusesFirst s (lines_fed files last s.mailbox.next_uid s.position mails (raw ∷ lines))
line_full files last s raw lines st mails others change p q is place m full =
    subst (λ o. RefusesFirst s (by_step files last s raw lines mails o)) (sym is)
    (step_full files last s raw lines st mails others change q (subst (λ p. Makes files st s.mailbox.next_uid p mails (change, q) others) place m) full)

line_first : (files : Files) (last : Option ℕ) (s : State) (raw : List ℕ) (lines : List (List ℕ)) (st : Step) (mails others : List Mail) (change : Change) (p q : Position)
    → step_of (content raw) ≡ Some st → Makes files st s.mailbox.next_uid p mails (change, q) others
    → change_cost s.mailbox change ≡ next_cost s (lines_fed files last s.mailbox.next_uid s.position mails (raw ∷ lines)).changes
line_first files last s raw lines st mails others change p q is m =
    subst (λ o. change_cost s.mailbox change ≡ next_cost s (by_step files last s raw lines mails o).changes) (sym is) (step_costs files last s raw lines st mails others change p q m)

-- ---- the reader's answer

pub if_known : (l m : Option (List ℕ)) (P Q : List ℕ → List ℕ → Type 0) → ((b a : List ℕ) → P b a → Q b a) → IfKnown l m P → IfKnown l m Q
if_known None m P Q f h = tt
if_known (Some b) None P Q f h = absurd h
if_known (Some b) (Some a) P Q f h = f b a h

short_arrival : (uid : ℕ) (mail : Mail) → length mail.bytes ≤ max_mail_len → arrival_of uid mail ≡ arrival_with (card_of uid mail.bytes)
short_arrival uid mail short = ap (λ b. if b then ArriveFault is_fault.TooLong else arrival_with (card_of uid mail.bytes)) (le-ltb max_mail_len (length mail.bytes) short)

long_arrival : (uid : ℕ) (mail : Mail) → max_mail_len < length mail.bytes → arrival_of uid mail ≡ ArriveFault is_fault.TooLong
long_arrival uid mail long = ap (λ b. if b then ArriveFault is_fault.TooLong else arrival_with (card_of uid mail.bytes)) (lt-ltb max_mail_len (length mail.bytes) long)

-- the arrival of what the reader of the mbox gives
pub arrives_next : (old new : Following) (mails others : List Mail) (t : Taken) (change : Option Change) → change ≡ arrival_taken old.keeper.state.mailbox.next_uid t
    → IsNext mails t old.mbox new.mbox others → ArrivesNext old mails change new others
arrives_next old new mails others t change is h = subst (λ change. ArrivesNext old mails change new others) (sym is) (by mails t h)
  where
    by : (mails : List Mail) (t : Taken) → IsNext mails t old.mbox new.mbox others → ArrivesNext old mails (arrival_taken old.keeper.state.mailbox.next_uid t) new others
    by [] (taken.Mail v) h = absurd h
    by [] (taken.TooLong) h = absurd h
    by [] (taken.End) h = h.0
    by (mail ∷ mails) (taken.End) h = absurd h
    by (mail ∷ mails) (taken.Mail v) h =
        (ap (λ bytes. arrival_with (card_of old.keeper.state.mailbox.next_uid bytes)) h.0 ∙ sym (short_arrival old.keeper.state.mailbox.next_uid mail h.1), h.2, h.4)
    by (mail ∷ mails) (taken.TooLong) h = (sym (long_arrival old.keeper.state.mailbox.next_uid mail h.0), h.1, h.3)

-- over what the follower has ahead
pub next_known : (l m : Option (List ℕ)) (old new : Following) (r : Reading) (t : Taken) (change : Option Change) → r ≡ old.mbox → change ≡ arrival_taken old.keeper.state.mailbox.next_uid t
    → IfKnown l m (λ before after. IsNext (mails_from (mbox_position r) (r.held ++ before)) t r new.mbox (mails_ahead new after))
    → IfKnown l m (λ before after. ArrivesNext old (mails_ahead old before) change new (mails_ahead new after))
next_known l m old new r t change e is k = if_known l m _ _ (λ before after. arrives_next old new (mails_ahead old before) (mails_ahead new after) t change is)
    (subst (λ (r : Reading). IfKnown l m (λ before after. IsNext (mails_from (mbox_position r) (r.held ++ before)) t r new.mbox (mails_ahead new after))) e k)

-- what holds whatever the bytes are
pub if_taken : (l m : Option (List ℕ)) (bytes : List ℕ) (P : List ℕ → List ℕ → Type 0) → Consumes l m bytes → ((b a : List ℕ) → P b a) → IfKnown l m P
if_taken None m bytes P took f = tt
if_taken (Some b) None bytes P took f = absurd took
if_taken (Some b) (Some a) bytes P took f = f b a

-- a source that is left as it is
pub if_same : (l : Option (List ℕ)) (P : List ℕ → List ℕ → Type 0) → ((b : List ℕ) → P b b) → IfKnown l l P
if_same None P f = tt
if_same (Some b) P f = f b

-- both of what is said of known bytes
pub both_known : (l m : Option (List ℕ)) (P Q : List ℕ → List ℕ → Type 0) → IfKnown l m P → IfKnown l m Q → IfKnown l m (λ before after. P before after × Q before after)
both_known None m P Q p q = tt
both_known (Some b) None P Q p q = absurd p
both_known (Some b) (Some a) P Q p q = (p, q)

-- ---- where the readers stand in the files

-- the position where a reader of the mbox is
abbrev pub placed_at : Position → Reading → Position
placed_at p r = record p { mbox = r.place; mbox_trace = value_of r.trace }

trace_is : (files : Files) (f : Following) (left : List ℕ) → StandsInMbox files f left → value_of f.mbox.trace ≡ chain (take f.mbox.place files.mbox)
trace_is files f left stands = chain_is f.mbox.trace (take f.mbox.place files.mbox) stands.traced.trace

-- it is that after the mail which ends there
placed_is : (files : Files) (p : Position) (r : Reading) (mail : Mail) → value_of r.trace ≡ chain (take r.place files.mbox) → r.place ≡ mail.end → placed_at p r ≡ at_mail files p mail
placed_is files p r mail trace place = ap (λ (t : List ℕ). record p { mbox = r.place; mbox_trace = t }) trace ∙ ap (mbox_at files p) place

pub mbox_stands_as : (files : Files) (f g : Following) (left : List ℕ) → g.mbox ≡ f.mbox → StandsInMbox files f left → StandsInMbox files g left
mbox_stands_as files f g left same stands = subst (λ (r : Reading). MboxReaderStands files.mbox r left) (sym same) stands

pub steps_stand_as : (files : Files) (f g : Following) (left : List ℕ) → g.lines ≡ f.lines → StandsInSteps files f left → StandsInSteps files g left
steps_stand_as files f g left same stands = subst (λ (r : StepsReading). StepsReaderStands files.steps r left) (sym same) stands

-- the reader of the mbox stands after a mail where it stood before it
abbrev pub GoesOnStanding : Following → List ℕ → Following → List ℕ → Type 0
GoesOnStanding old before new after = (files : Files) → StandsInMbox files old before → StandsInMbox files new after

-- the same of the reader of the steps file after a line, and the position there
abbrev pub LinesGoOnStanding : Following → List ℕ → Following → List ℕ → Type 0
LinesGoOnStanding old before new after = (files : Files) → StandsInSteps files old before → StandsInSteps files new after

abbrev pub line_placed : Position → StepsReading → Position
line_placed p r = record p { steps = r.place; lines = p.lines + 1; steps_trace = value_of r.trace }

no_end : (uid : ℕ) (t : Taken) (change : Option Change) → change ≡ arrival_taken uid t → is_some change ≡ true → t ≡ taken.End → ⊥
no_end uid t change is some end = absurd (let none : false ≡ true = ap is_some (sym (is ∙ ap (arrival_taken uid) end)) ∙ some in cc)

-- at the end none comes
pub no_arrival : (uid : ℕ) (t : Taken) (change : Option Change) → t ≡ taken.End → change ≡ arrival_taken uid t → is_some change ≡ true → ⊥
no_arrival uid t change end is some = false≢true (sym (ap is_some (is ∙ ap (arrival_taken uid) end)) ∙ some)

pub next_stands : (l m : Option (List ℕ)) (old new : Following) (r : Reading) (uid : ℕ) (t : Taken) (change : Option Change) → r ≡ old.mbox → change ≡ arrival_taken uid t
    → IfKnown l m (λ before after. (file : List ℕ) → IsAt file before r → IsAt file after new.mbox)
    → IfKnown l m (λ before after. (file : List ℕ) → IsAt file before r → IsTraced file r → StandsFor new.mbox.trace (take new.mbox.place file) × (t ≢ taken.End → IsTraced file new.mbox))
    → is_some change ≡ true → IfKnown l m (λ before after. GoesOnStanding old before new after)
next_stands l m old new r uid t change e is at traced some = if_known l m _ _ (λ before after h files stands.
    let there = subst (IsAt files.mbox before) (sym e) stands.at in
    let here = subst (IsTraced files.mbox) (sym e) stands.traced in
    record { at = h.0 files.mbox there; traced = (h.1 files.mbox there here).1 (no_end uid t change is some) }) (both_known l m _ _ at traced)

-- of a line, with where the reader stands then
pub lines_known : (k n : Option (List ℕ)) (old here : Following) (r : StepsReading) (a : TakenLine) (st : Step) → r ≡ old.lines → a ≡ taken_line.Step st
    → IfKnown k n (λ before after. IsNextLine (ended_lines (r.held ++ before)) a r here.lines (ended_lines (here.lines.held ++ after)))
    → IfKnown k n (λ before after. (file : List ℕ) → IsAtLine file before r → IsAtLine file after here.lines)
    → IfKnown k n (λ before after. (file : List ℕ) → IsAtLine file before r → IsTracedLine file r → StandsFor here.lines.trace (take here.lines.place file) × (a ≢ taken_line.End → IsTracedLine file here.lines))
    → IfKnown k n (λ before after. IsNextLine (lines_ahead old before) a old.lines here.lines (lines_ahead here after) × LinesGoOnStanding old before here after)
lines_known k n old here r a st e is next at traced = if_known k n _ _ (λ before after h. (
  subst (λ (r : StepsReading). IsNextLine (ended_lines (r.held ++ before)) a r here.lines (ended_lines (here.lines.held ++ after))) e h.0,
  λ files stands.
      let there = subst (IsAtLine files.steps before) (sym e) stands.at in
      let stood = subst (IsTracedLine files.steps) (sym e) stands.traced in
      record { at = h.1.0 files.steps there; traced = (h.1.1 files.steps there stood).1 (λ end. no_line_end st (sym is ∙ end)) },
)) (both_known k n _ _ next (both_known k n _ _ at traced))
  where
    no_line_end : (st : Step) → taken_line.Step st ≡ taken_line.End → ⊥
    no_line_end st end = absurd cc

pub makes_next : (files : Files) (old new : Following) (p : Position) (mails others : List Mail) (change : Change) → value_of new.mbox.trace ≡ chain (take new.mbox.place files.mbox)
    → ArrivesNext old mails (Some change) new others → Makes files step.Next old.keeper.state.mailbox.next_uid p mails (change, placed_at p new.mbox) others
makes_next files old new p [] others change trace h = absurd h
makes_next files old new p (mail ∷ mails) others change trace h =
    let arrival = arrival_of old.keeper.state.mailbox.next_uid mail in
    (ap (λ c. (c, placed_at p new.mbox)) h.0 ∙ ap (λ (q : Position). (arrival, q)) (placed_is files p new.mbox mail trace h.1), h.2)

-- the step that takes the next mail
pub next_makes : (files : Files) (l m : Option (List ℕ)) (old mid : Following) (st : Step) (p q : Position) (o : Option Change) (change : Change) → st ≡ step.Next → o ≡ Some change
    → IfKnown l m (λ before after. ArrivesNext old (mails_ahead old before) o mid (mails_ahead mid after)) → IfKnown l m (λ before after. GoesOnStanding old before mid after) → q ≡ placed_at p mid.mbox
    → IfKnown l m (λ before after. StandsInMbox files old before
    → Makes files st old.keeper.state.mailbox.next_uid p (mails_ahead old before) (change, q) (mails_ahead mid after) × StandsInMbox files mid after)
next_makes files l m old mid st p q o change next some known stands place = if_known l m _ _ (λ before after h standing.
    let a : ArrivesNext old (mails_ahead old before) (Some change) mid (mails_ahead mid after) = subst (λ o. ArrivesNext old (mails_ahead old before) o mid (mails_ahead mid after)) some h.0 in
    let now = h.1 files standing in (
      subst (λ st. Makes files st old.keeper.state.mailbox.next_uid p (mails_ahead old before) (change, q) (mails_ahead mid after)) (sym next)
          (subst (λ q. Makes files step.Next old.keeper.state.mailbox.next_uid p (mails_ahead old before) (change, q) (mails_ahead mid after)) (sym place)
          (makes_next files old mid p (mails_ahead old before) (mails_ahead mid after) change (trace_is files mid after now) a)),
      now,
    )) (both_known l m _ _ known stands)

-- ---- a turn of a mail

-- over what the calls of a turn say
module _ (files : Files) (l m : Option (List ℕ)) (old mid : Following) (o : Option Change) (change : Change) (rest : mid ≡ record old { mbox = mid.mbox }) (some : o ≡ Some change)
    (next : IfKnown l m (λ before after. ArrivesNext old (mails_ahead old before) o mid (mails_ahead mid after))) (stands : IfKnown l m (λ before after. GoesOnStanding old before mid after)) where
  same_keeper : mid.keeper ≡ old.keeper
  same_keeper = ap (λ (f : Following). f.keeper) rest

  same_state : mid.keeper.state ≡ old.keeper.state
  same_state = ap (λ (k : Keeping). k.state) same_keeper

  arrived : (P : List ℕ → List ℕ → Type 0) → ((before after : List ℕ) → ArrivesNext old (mails_ahead old before) (Some change) mid (mails_ahead mid after) → P before after) → IfKnown l m P
  arrived P f = if_known l m _ P (λ before after h. f before after (subst (λ o. ArrivesNext old (mails_ahead old before) o mid (mails_ahead mid after)) some h)) next

  pub mail_turns : (new : Following) (q : Position) → is_refused mid.keeper.state change ≡ false → IsAfter mid.keeper change q new.keeper
      → q ≡ placed_at (counted mid.keeper.state.position) mid.mbox → new.mbox ≡ mid.mbox
      → IfKnown l m (λ before after. StandsInMbox files old before
      → MakesFirst old.keeper (to_come files None old before None) new.keeper (to_come files None new after None) × StandsInMbox files new after)
  mail_turns new q room is place same = if_known l m _ _ (λ before after h standing.
      let now = h.1 files standing in
      let arrived : ArrivesNext old (mails_ahead old before) (Some change) mid (mails_ahead mid after) = subst (λ o. ArrivesNext old (mails_ahead old before) o mid (mails_ahead mid after)) some h.0 in (
        subst (λ (r : Reading). MakesFirst old.keeper (to_come files None old before None) new.keeper (mails_fed files new.keeper.state.mailbox.next_uid new.keeper.state.position (mails_from (mbox_position r) (r.held ++ after)))) (sym same)
            (by (trace_is files mid after now) (mails_ahead old before) (mails_ahead mid after) arrived),
        mbox_stands_as files mid new after same now,
      )) (both_known l m _ _ next stands)
    where
      by : value_of mid.mbox.trace ≡ chain (take mid.mbox.place files.mbox) → (mails others : List Mail) → ArrivesNext old mails (Some change) mid others
          → MakesFirst old.keeper (mails_fed files old.keeper.state.mailbox.next_uid old.keeper.state.position mails) new.keeper (mails_fed files new.keeper.state.mailbox.next_uid new.keeper.state.position others)
      by trace [] others h = absurd h
      by trace (mail ∷ mails) others h = mail_goes files old.keeper new.keeper mail mails others change q h.0
          (place ∙ ap (λ (s : State). placed_at (counted s.position) mid.mbox) same_state ∙ placed_is files (counted old.keeper.state.position) mid.mbox mail trace h.1) h.2
          (ap (λ s. is_refused s change) (sym same_state) ∙ room) (subst (λ (k : Keeping). IsAfter k change q new.keeper) same_keeper is)

  pub mail_stops : (why : RunFault) → (why ≡ fault.Full) ⊎ (why ≡ fault.Memory) → (why ≡ fault.Full → is_refused mid.keeper.state change ≡ true)
      → IfKnown l m (λ before after. StandsInMbox files old before → StopsAt why old.keeper.state (to_come files None old before None) × ⊤)
  mail_stops why (inl full) refused = arrived _ (λ before after h standing.
      (subst (λ why. StopsAt why old.keeper.state (to_come files None old before None)) (sym full) (by (mails_ahead old before) (mails_ahead mid after) h), tt))
    where
      by : (mails others : List Mail) → ArrivesNext old mails (Some change) mid others → RefusesFirst old.keeper.state (mails_fed files old.keeper.state.mailbox.next_uid old.keeper.state.position mails)
      by [] others h = absurd h
      by (mail ∷ mails) others h = mail_full files old.keeper.state mail mails change h.0 (ap (λ s. is_refused s change) (sym same_state) ∙ refused full)
  mail_stops why (inr memory) refused = arrived _ (λ before after h standing. (subst (λ why. StopsAt why old.keeper.state (to_come files None old before None)) (sym memory) tt, tt))

  pub mail_reads : (from to : ℕ) → to ≤ from + change_cost mid.keeper.state.mailbox change
      → IfKnown l m (λ before _. StandsInMbox files old before → to ≤ from + next_cost old.keeper.state (to_come files None old before None).changes)
  mail_reads from to cost = arrived _ (λ before after h standing. by (mails_ahead old before) (mails_ahead mid after) h)
    where
      by : (mails others : List Mail) → ArrivesNext old mails (Some change) mid others
          → to ≤ from + next_cost old.keeper.state (mails_fed files old.keeper.state.mailbox.next_uid old.keeper.state.position mails).changes
      by [] others h = absurd h
      by (mail ∷ mails) others h =
          let s = old.keeper.state in
          let f = mail_fed files s.mailbox.next_uid s.position mail in
          subst (λ (n : ℕ). to ≤ from + n) (ap (λ (t : State). change_cost t.mailbox change) same_state
          ∙ first_costs s change f (mails_fed files (s.mailbox.next_uid + 1) f.position mails) h.0) cost

-- the same of a turn of a line
module _ (files : Files) (l m k n : Option (List ℕ)) (old here mid : Following) (a : TakenLine) (st : Step) (p : Position) (made : Change × Position)
    (lines : here ≡ record old { lines = here.lines }) (rest : mid ≡ record here { mbox = mid.mbox }) (stands : old.keeper.state.position.steps ≡ old.lines.place)
    (is : a ≡ taken_line.Step st) (next : IfKnown k n (λ before after. IsNextLine (lines_ahead old before) a old.lines here.lines (lines_ahead here after) × LinesGoOnStanding old before here after))
    (place : p ≡ line_placed (counted old.keeper.state.position) here.lines)
    (makes : IfKnown l m (λ before after. StandsInMbox files here before
    → Makes files st here.keeper.state.mailbox.next_uid p (mails_ahead here before) made (mails_ahead mid after) × StandsInMbox files mid after)) where
  here_state : here.keeper.state ≡ old.keeper.state
  here_state = ap (λ (f : Following). f.keeper.state) lines

  mid_keeper : mid.keeper ≡ old.keeper
  mid_keeper = ap (λ (f : Following). f.keeper) rest ∙ ap (λ (f : Following). f.keeper) lines

  mid_state : mid.keeper.state ≡ old.keeper.state
  mid_state = ap (λ (k : Keeping). k.state) mid_keeper

  -- what the step makes of the mails that the follower has ahead
  old_makes : (before after : List ℕ) → Makes files st here.keeper.state.mailbox.next_uid p (mails_ahead here before) made (mails_ahead mid after)
      → Makes files st old.keeper.state.mailbox.next_uid p (mails_ahead old before) made (mails_ahead mid after)
  old_makes before after h = subst (λ (f : Following). Makes files st f.keeper.state.mailbox.next_uid p (mails_ahead f before) made (mails_ahead mid after)) lines h

  here_stands : (left : List ℕ) → StandsInMbox files old left → StandsInMbox files here left
  here_stands left standing = mbox_stands_as files old here left (ap (λ (f : Following). f.mbox) lines) standing

  at_raw : (raw left : List ℕ) → StandsInSteps files here left → here.lines.place ≡ old.lines.place + length raw → p ≡ counted (at_line files old.keeper.state.position raw)
  at_raw raw left standing e =
      let p = counted old.keeper.state.position in
      let trace = chain_is here.lines.trace (take here.lines.place files.steps) standing.traced.trace in
      place ∙ ap (λ (t : List ℕ). record p { steps = here.lines.place; lines = p.lines + 1; steps_trace = t }) trace ∙ ap (steps_at files p) (e ∙ ap (λ place. place + length raw) (sym stands))

  -- both readers stood in their files
  abbrev Stood : List ℕ → List ℕ → Type 0 → Type 0
  Stood mails_before before R = StandsInMbox files old mails_before → StandsInSteps files old before → R

  stepped : (R : List ℕ → List ℕ → List ℕ → List ℕ → Type 0) → ((mails_before mails_after before after : List ℕ)
      → Makes files st old.keeper.state.mailbox.next_uid p (mails_ahead old mails_before) made (mails_ahead mid mails_after)
      → IsNextLine (lines_ahead old before) (taken_line.Step st) old.lines here.lines (lines_ahead here after) → StandsInMbox files mid mails_after → StandsInSteps files here after
      → R mails_before mails_after before after)
      → IfKnown l m (λ mails_before mails_after. IfKnown k n (λ before after. Stood mails_before before (R mails_before mails_after before after)))
  stepped R f = if_known l m _ _ (λ mails_before mails_after h.
      if_known k n _ (λ before after. Stood mails_before before (R mails_before mails_after before after)) (λ before after g mbox_standing steps_standing.
      let went = h (here_stands mails_before mbox_standing) in
      let answer = subst (λ a. IsNextLine (lines_ahead old before) a old.lines here.lines (lines_ahead here after)) is g.0 in
      f mails_before mails_after before after (old_makes mails_before mails_after went.0) answer went.1 (g.1 files steps_standing)) next) makes

  pub line_turns : (new : Following) (last : Option ℕ) → is_refused mid.keeper.state made.0 ≡ false → IsAfter mid.keeper made.0 made.1 new.keeper
      → new.mbox ≡ mid.mbox → new.lines ≡ here.lines
      → IfKnown l m (λ mails_before mails_after. IfKnown k n (λ before after. Stood mails_before before (
      MakesFirst old.keeper (to_come files last old mails_before (Some before)) new.keeper (to_come files last new mails_after (Some after))
      × (StandsInMbox files new mails_after × StandsInSteps files new after))))
  line_turns new last room is_after same_mbox same_lines = stepped _ (λ mails_before mails_after before after h g mbox_standing steps_standing. (
    subst (λ (r : Reading). MakesFirst old.keeper (to_come files last old mails_before (Some before)) new.keeper
        (lines_fed files last new.keeper.state.mailbox.next_uid new.keeper.state.position (mails_from (mbox_position r) (r.held ++ mails_after)) (lines_ahead new after))) (sym same_mbox)
        (subst (λ (r : StepsReading). MakesFirst old.keeper (to_come files last old mails_before (Some before)) new.keeper
        (lines_fed files last new.keeper.state.mailbox.next_uid new.keeper.state.position (mails_ahead mid mails_after) (ended_lines (r.held ++ after)))) (sym same_lines)
        (by before after mails_before mails_after steps_standing h (lines_ahead old before) g)),
    (mbox_stands_as files mid new mails_after same_mbox mbox_standing, steps_stand_as files here new after same_lines steps_standing),
  ))
    where
      by : (before after mails_before mails_after : List ℕ) → StandsInSteps files here after → Makes files st old.keeper.state.mailbox.next_uid p (mails_ahead old mails_before) made (mails_ahead mid mails_after)
          → (ls : List (List ℕ)) → IsNextLine ls (taken_line.Step st) old.lines here.lines (lines_ahead here after)
          → MakesFirst old.keeper (lines_fed files last old.keeper.state.mailbox.next_uid old.keeper.state.position (mails_ahead old mails_before) ls) new.keeper
          (lines_fed files last new.keeper.state.mailbox.next_uid new.keeper.state.position (mails_ahead mid mails_after) (lines_ahead here after))
      by before after mails_before mails_after standing h [] g = absurd g
      by before after mails_before mails_after standing h (raw ∷ ls) g =
          line_goes files last old.keeper new.keeper raw ls (lines_ahead here after) st (mails_ahead old mails_before) (mails_ahead mid mails_after) made.0 p made.1
          g.0 g.2 (at_raw raw after standing g.1) h (ap (λ s. is_refused s made.0) (sym mid_state) ∙ room) (subst (λ (k : Keeping). IsAfter k made.0 made.1 new.keeper) mid_keeper is_after)

  pub line_stops : (last : Option ℕ) (why : RunFault) → (why ≡ fault.Full) ⊎ (why ≡ fault.Memory) → (why ≡ fault.Full → is_refused mid.keeper.state made.0 ≡ true)
      → IfKnown l m (λ mails_before mails_after. IfKnown k n (λ before after. Stood mails_before before (StopsAt why old.keeper.state (to_come files last old mails_before (Some before)) × ⊤)))
  line_stops last why (inr memory) refused = stepped _ (λ mails_before mails_after before after h g mbox_standing standing.
      (subst (λ why. StopsAt why old.keeper.state (to_come files last old mails_before (Some before))) (sym memory) tt, tt))
  line_stops last why (inl full) refused = stepped _ (λ mails_before mails_after before after h g mbox_standing standing.
      (subst (λ why. StopsAt why old.keeper.state (to_come files last old mails_before (Some before))) (sym full) (by before after mails_before mails_after standing h (lines_ahead old before) g), tt))
    where
      by : (before after mails_before mails_after : List ℕ) → StandsInSteps files here after → Makes files st old.keeper.state.mailbox.next_uid p (mails_ahead old mails_before) made (mails_ahead mid mails_after)
          → (ls : List (List ℕ)) → IsNextLine ls (taken_line.Step st) old.lines here.lines (lines_ahead here after)
          → RefusesFirst old.keeper.state (lines_fed files last old.keeper.state.mailbox.next_uid old.keeper.state.position (mails_ahead old mails_before) ls)
      by before after mails_before mails_after standing h [] g = absurd g
      by before after mails_before mails_after standing h (raw ∷ ls) g =
          line_full files last old.keeper.state raw ls st (mails_ahead old mails_before) (mails_ahead mid mails_after) made.0 p made.1
          g.0 (at_raw raw after standing g.1) h (ap (λ s. is_refused s made.0) (sym mid_state) ∙ refused full)

  pub line_reads : (last : Option ℕ) (from to : ℕ) → to ≤ from + change_cost mid.keeper.state.mailbox made.0
      → IfKnown l m (λ mails_before _. IfKnown k n (λ before _. Stood mails_before before (to ≤ from + next_cost old.keeper.state (to_come files last old mails_before (Some before)).changes)))
  line_reads last from to cost = stepped _ (λ mails_before mails_after before after h g mbox_standing standing. by before after mails_before mails_after standing h (lines_ahead old before) g)
    where
      by : (before after mails_before mails_after : List ℕ) → StandsInSteps files here after → Makes files st old.keeper.state.mailbox.next_uid p (mails_ahead old mails_before) made (mails_ahead mid mails_after)
          → (ls : List (List ℕ)) → IsNextLine ls (taken_line.Step st) old.lines here.lines (lines_ahead here after)
          → to ≤ from + next_cost old.keeper.state (lines_fed files last old.keeper.state.mailbox.next_uid old.keeper.state.position (mails_ahead old mails_before) ls).changes
      by before after mails_before mails_after standing h [] g = absurd g
      by before after mails_before mails_after standing h (raw ∷ ls) g = subst (λ (n : ℕ). to ≤ from + n) (ap (λ (t : State). change_cost t.mailbox made.0) mid_state
          ∙ line_first files last old.keeper.state raw ls st (mails_ahead old mails_before) (mails_ahead mid mails_after) made.0 p made.1 g.0 h) cost

-- ---- whatever the files tell

pub step_no_end : (t : TakenLine) (st : Step) → t ≡ taken_line.Step st → t ≢ taken_line.End
step_no_end t st is end = cc

pub bare_no_end : (t : TakenLine) → t ≡ taken_line.NoStep → t ≢ taken_line.End
bare_no_end t is end = cc

-- a line that was read ends within the bytes that were taken, and is no later one than there are of them
pub line_taken : (f : Following) (r : StepsReading) → f.lines.place ≡ f.keeper.state.position.steps → f.lines.place < r.place → r.place ≤ r.taken
    → IsWithin f.keeper.state.position → f.keeper.state.position.lines + 1 ≤ r.taken
line_taken f r place passed within lines = omega (arith, place, passed, within, lines.lines)

-- ---- what a keeper refuses

pub keep_cause : (why : KeepFault) → (why ≡ of_keeper.Full) ⊎ (why ≡ of_keeper.Memory) → (keep_fault why ≡ fault.Full) ⊎ (keep_fault why ≡ fault.Memory)
keep_cause why (inl full) = inl (ap keep_fault full)
keep_cause why (inr memory) = inr (ap keep_fault memory)

pub keep_full : (why : KeepFault) → keep_fault why ≡ fault.Full → why ≡ of_keeper.Full
keep_full of_keeper.Full is = refl
keep_full of_keeper.Disk is = absurd cc
keep_full (of_keeper.Damaged place at) is = absurd cc
keep_full (of_keeper.OtherMe other) is = absurd cc
keep_full of_keeper.Memory is = absurd cc

pub keep_kind : (why : KeepFault) → why ≢ of_keeper.Full → IsKeepFault (keep_fault why)
keep_kind of_keeper.Full other = absurd (other refl)
keep_kind of_keeper.Disk other = tt
keep_kind (of_keeper.Damaged place at) other = tt
keep_kind (of_keeper.OtherMe other_me) other = tt
keep_kind of_keeper.Memory other = tt
