-- The change that comes first, and those that come after it, over files as they were and as they have grown.
use Rattle.std.proofs.Common.{◌≡◌, ◌⊎◌, inl, inr, ℕ, ◌+◌, ◌-◌, ◌≤◌, List, [], ◌∷◌, ◌++◌, length, drop, Option, Some, None, refl, sym, ap, subst, ◌∙◌, length-append, arith}
use Rattle.std.proofs.lemmas.List.{append-nil, drop-append-le, drop-drop, length-drop}
use Rattle.kit.specs.Lines.{content}
use Rattle.mboxrd.specs.Mails.{Mail, mails_from}
use Rattle.mboxrd.proofs.GoingOn.{mails_go_on}
use Rattle.mboxrd.proofs.Grown.{closed_from, mails_grow}
use Rattle.steps_file.specs.Lines.{ended_lines}
use Rattle.steps_file.specs.Steps.{step_of}
use Rattle.steps_file.specs.declared.step.Step.{Step}
use Rattle.steps_file.specs.declared.step.Step.TheVariants as step
use Rattle.steps_file.proofs.GrownLines.{lines_go_on, lines_grow}
use Rattle.mailbox_model.specs.declared.change.Change.{Change}
use Rattle.mailbox_model.specs.declared.change.Change.TheVariants.{Expunge, Seen, At}
use Rattle.mailbox_model.specs.Lists.{Bytes}
use Rattle.mailbox_model.specs.Mailbox.{after}
use Rattle.state_image.specs.declared.position.Position.{Position}
use Rattle.state_store.specs.States.{State}
use Rattle.follower.specs.Feed.{Fed, Feed, Files, Ending, End, BadLine, after_fed, at_line, coming, counted, ends, fed_first, files_of, last_fed, line_fed, lines_fed, lines_left, mail_fed, mails_fed, mails_left, moment_fed}
use Rattle.follower.specs.Inputs.{AreSame}
use Rattle.follower.specs.Resuming.{LiesWithin, MboxGrows, StepsGrow}
use Rattle.arrivals.specs.Arrivals.{arrival_of}
use Rattle.follower.proofs.Inputs.{line_known, mail_known, trace_grows}
use Rattle.arrivals.proofs.Uids.{next_uid_after}

-- what comes of the files from a state on
abbrev pub ahead : Option ℕ → State → Bytes → Option Bytes → Feed
ahead last s mbox None = coming (files_of mbox None) last s (mails_left s.position mbox) None
ahead last s mbox (Some steps) = coming (files_of mbox (Some steps)) last s (mails_left s.position mbox) (Some (lines_left s.position steps))

-- ---- the first of a feed

pub no_first : (ending : Ending) (f : Fed) (others : Feed) → ends ending ≡ fed_first f others → ⊥
no_first ending f others e = let h : [] ≡ f ∷ others.changes = ap (λ (feed : Feed). feed.changes) e in absurd cc

pub first_is : (f g : Fed) (x y : Feed) → fed_first f x ≡ fed_first g y → (f ≡ g) × (x ≡ y)
first_is f g x y e =
    let h : f ∷ x.changes ≡ g ∷ y.changes = ap (λ (feed : Feed). feed.changes) e in
    let first : f ≡ g = cc in
    let more : x.changes ≡ y.changes = cc in
    let ending : x.ending ≡ y.ending = ap (λ (feed : Feed). feed.ending) e in
    (first, λ i. record { changes = more i; ending = ending i })

-- ---- mails and lines

-- the mails after a mail
mails_after : (p : ℕ) (mbox : Bytes) (mail : Mail) (mails : List Mail) → p ≤ length mbox → mails_from p (drop p mbox) ≡ mail ∷ mails
    → (mail.end ≤ length mbox) × (mails_from mail.end (drop mail.end mbox) ≡ mails)
mails_after p mbox mail mails within is =
    let h = mails_go_on p (drop p mbox) mail mails is in
    let at : p + (mail.end - p) ≡ mail.end = omega (arith, h.0) in
    let cut : drop mail.end mbox ≡ drop (mail.end - p) (drop p mbox) = ap (λ (n : ℕ). drop n mbox) (sym at) ∙ sym (drop-drop (mail.end - p) p mbox) in
    (omega (arith, within, h.1, length-drop p mbox), ap (mails_from mail.end) cut ∙ h.2)

-- it is the first as well where the mbox has grown
mail_stays : (p : ℕ) (mbox longer : Bytes) (mail : Mail) (mails : List Mail) → MboxGrows mbox longer → p ≤ length mbox → mails_from p (drop p mbox) ≡ mail ∷ mails
    → mails_from p (drop p longer) ≡ mail ∷ mails_from mail.end (drop mail.end longer)
mail_stays p mbox longer mail mails grows within is =
    let later = mails_from (p + length (drop p mbox)) grows.more in
    let first : mails_from p (drop p longer) ≡ mail ∷ (mails ++ later) =
    ap (λ (bytes : Bytes). mails_from p (drop p bytes)) grows.is ∙ ap (mails_from p) (drop-append-le p mbox grows.more within)
    ∙ mails_grow p (drop p mbox) grows.more (closed_from p mbox grows.closed) grows.begins ∙ ap (λ (ms : List Mail). ms ++ later) is in
    let fits : p ≤ length longer = omega (arith, within, ap length grows.is, length-append mbox grows.more) in
    first ∙ ap (λ (ms : List Mail). mail ∷ ms) (sym (mails_after p longer mail (mails ++ later) fits first).1)

-- the lines after a line
lines_after : (p : ℕ) (steps raw : Bytes) (lines : List (List ℕ)) → p ≤ length steps → ended_lines (drop p steps) ≡ raw ∷ lines
    → (p + length raw ≤ length steps) × (ended_lines (drop (p + length raw) steps) ≡ lines)
lines_after p steps raw lines within is =
    let h = lines_go_on (drop p steps) raw lines is in
    (omega (arith, within, h.0, length-drop p steps), ap ended_lines (sym (drop-drop (length raw) p steps)) ∙ h.1)

-- it is the first as well where the steps file has grown
line_stays : (p : ℕ) (steps more raw : Bytes) (lines : List (List ℕ)) → (added : Bytes) × (more ≡ steps ++ added) → p ≤ length steps → ended_lines (drop p steps) ≡ raw ∷ lines
    → ended_lines (drop p more) ≡ raw ∷ ended_lines (drop (p + length raw) more)
line_stays p steps more raw lines (added, grown) within is =
    let h = lines_grow (drop p steps) added in
    let first : ended_lines (drop p more) ≡ raw ∷ (lines ++ h.0) =
    ap (λ (bytes : Bytes). ended_lines (drop p bytes)) grown ∙ ap ended_lines (drop-append-le p steps added within) ∙ h.1 ∙ ap (λ (ls : List (List ℕ)). ls ++ h.0) is in
    let fits : p ≤ length more = omega (arith, within, ap length grown, length-append steps added) in
    first ∙ ap (λ (ls : List (List ℕ)). raw ∷ ls) (sym (lines_after p more raw (lines ++ h.0) fits first).1)

added_to : (last : Option ℕ) (steps more : Bytes) → StepsGrow (Some steps) (Some more) last → (added : Bytes) × (more ≡ steps ++ added)
added_to None steps more grown = grown
added_to (Some moment) steps more same = ([], same ∙ sym (append-nil steps))

-- ---- positions over files as they have grown

mail_same : (uid : ℕ) (p : Position) (mail : Mail) (mbox longer : Bytes) (steps more : Option Bytes) → MboxGrows mbox longer → mail.end ≤ length mbox
    → mail_fed (files_of longer more) uid p mail ≡ mail_fed (files_of mbox steps) uid p mail
mail_same uid p mail mbox longer steps more grows within =
    ap (λ (t : List ℕ). record { change = arrival_of uid mail; position = record (counted p) { mbox = mail.end; mbox_trace = t } }) (trace_grows mail.end mbox longer grows.more grows.is within)

line_same : (p : Position) (raw mbox longer steps more added : Bytes) → more ≡ steps ++ added → p.steps + length raw ≤ length steps
    → at_line (files_of longer (Some more)) p raw ≡ at_line (files_of mbox (Some steps)) p raw
line_same p raw mbox longer steps more added is within =
    ap (λ (t : List ℕ). record p { steps = p.steps + length raw; lines = p.lines + 1; steps_trace = t }) (trace_grows (p.steps + length raw) steps more added is within)

-- ---- the change that comes first

-- It comes first over the files as they have grown too, and what came after it comes after it still.
pub record Follows (last : Option ℕ) (s : State) (f : Fed) (others : Feed) (mbox longer : Bytes) (steps more : Option Bytes) : Type 0 where
  pub now : ahead last s longer more ≡ fed_first f (ahead last (after_fed s f) longer more)
  pub before : ahead last (after_fed s f) mbox steps ≡ others
  pub within : LiesWithin f.position mbox steps
  pub inputs : AreSame s.position mbox steps → AreSame f.position mbox steps

-- It is the moment that comes last. After it comes nothing, but the same moment in a run of its own.
pub record ComesLast (last : Option ℕ) (s : State) (f : Fed) (others : Feed) (mbox longer : Bytes) (steps more : Option Bytes) : Type 0 where
  pub moment : ℕ
  pub comes : last ≡ Some moment
  pub is : moment_fed s.position moment ≡ f
  pub none : ends End ≡ others
  pub now : ahead last s longer more ≡ fed_first f (ends End)
  pub again : ahead last (after_fed s f) longer more ≡ last_fed (Some moment) f.position
  pub within : LiesWithin f.position mbox steps
  pub inputs : AreSame s.position mbox steps → AreSame f.position mbox steps

-- of this change and these others, where the feed is made of them
follows_as : {last : Option ℕ} {s : State} (made f : Fed) (rest others : Feed) {mbox longer : Bytes} {steps more : Option Bytes} → fed_first made rest ≡ fed_first f others
    → Follows last s made rest mbox longer steps more → Follows last s f others mbox longer steps more
follows_as {last} {s} made f rest others {mbox} {longer} {steps} {more} e h =
    let same = first_is made f rest others e in
    subst (λ (feed : Feed). Follows last s f feed mbox longer steps more) same.1 (subst (λ (x : Fed). Follows last s x rest mbox longer steps more) same.0 h)

mail_follows : (last : Option ℕ) (s : State) (f : Fed) (others : Feed) (mbox longer : Bytes) → MboxGrows mbox longer → LiesWithin s.position mbox None
    → ahead last s mbox None ≡ fed_first f others → Follows last s f others mbox longer None None
mail_follows last s f others mbox longer grows within e = by (mails_left s.position mbox) refl e
  where
    by : (mails : List Mail) → mails_left s.position mbox ≡ mails → mails_fed (files_of mbox None) s.mailbox.next_uid s.position mails ≡ fed_first f others → Follows last s f others mbox longer None None
    by [] is e = absurd (no_first End f others e)
    by (mail ∷ mails) is e =
        let old = files_of mbox None in
        let new = files_of longer None in
        let uid = s.mailbox.next_uid in
        let made = mail_fed old uid s.position mail in
        let next : (after_fed s made).mailbox.next_uid ≡ uid + 1 = next_uid_after s.mailbox uid mail in
        let h = mails_after s.position.mbox mbox mail mails within is in
        let same : mail_fed new uid s.position mail ≡ made = mail_same uid s.position mail mbox longer None None grows h.0 in
        follows_as made f (mails_fed old (uid + 1) made.position mails) others e (record {
          now = ap (mails_fed new uid s.position) (mail_stays s.position.mbox mbox longer mail mails grows within is)
              ∙ ap (λ (x : Fed). fed_first x (mails_fed new (uid + 1) x.position (mails_left made.position longer))) same
              ∙ ap (λ (k : ℕ). fed_first made (mails_fed new k made.position (mails_left made.position longer))) (sym next);
          before = ap (mails_fed old (after_fed s made).mailbox.next_uid made.position) h.1 ∙ ap (λ (k : ℕ). mails_fed old k made.position mails) next;
          within = h.0;
          inputs = mail_known s.position mbox None mail.end;
        })

-- a line over the mails that are left, and then the others
abbrev by_line : Files → Option ℕ → Option Step → ℕ → Position → List ℕ → List Mail → List (List ℕ) → Feed
by_line files last o uid p raw mails lines = line_fed files o uid p raw mails (λ uid p mails. lines_fed files last uid p mails lines)

module _ (last : Option ℕ) (s : State) (f : Fed) (others : Feed) (mbox longer steps more : Bytes)
    (grows : MboxGrows mbox longer) (grown : StepsGrow (Some steps) (Some more) last) (within : LiesWithin s.position mbox (Some steps))
    (raw : List ℕ) (lines : List (List ℕ)) (left : lines_left s.position steps ≡ raw ∷ lines) where
  abbrev Goal : Type 0
  Goal = Follows last s f others mbox longer (Some steps) (Some more)

  abbrev old : Files
  old = files_of mbox (Some steps)

  abbrev new : Files
  new = files_of longer (Some more)

  line_ends : (s.position.steps + length raw ≤ length steps) × (lines_left (at_line old s.position raw) steps ≡ lines)
  line_ends = lines_after s.position.steps steps raw lines within.1 left

  -- the line is the first now, too
  line_now : (o : Option Step) → step_of (content raw) ≡ o → (mails : List Mail)
      → lines_fed new last s.mailbox.next_uid s.position mails (lines_left s.position more) ≡ by_line new last o s.mailbox.next_uid s.position raw mails (lines_left (at_line old s.position raw) more)
  line_now o is mails =
      ap (lines_fed new last s.mailbox.next_uid s.position mails) (line_stays s.position.steps steps more raw lines (added_to last steps more grown) within.1 left)
      ∙ ap (λ (o : Option Step). by_line new last o s.mailbox.next_uid s.position raw mails (lines_left (at_line old s.position raw) more)) is

  -- the position after it is the same
  line_alike : at_line new s.position raw ≡ at_line old s.position raw
  line_alike = let added = added_to last steps more grown in line_same s.position raw mbox longer steps more added.0 added.1 line_ends.0

  -- a line that takes no mail
  other_follows : (o : Option Step) → step_of (content raw) ≡ o → (change : Change) → (after s.mailbox change).next_uid ≡ s.mailbox.next_uid
      → ((files : Files) (mails : List Mail) (ls : List (List ℕ)) → by_line files last o s.mailbox.next_uid s.position raw mails ls
      ≡ fed_first (record { change = change; position = counted (at_line files s.position raw) }) (lines_fed files last s.mailbox.next_uid (counted (at_line files s.position raw)) mails ls))
      → (mails : List Mail) → mails_left s.position mbox ≡ mails → by_line old last o s.mailbox.next_uid s.position raw mails lines ≡ fed_first f others → Goal
  other_follows o is change next shape mails left_mails e =
      let uid = s.mailbox.next_uid in
      let made : Fed = record { change = change; position = counted (at_line old s.position raw) } in
      follows_as made f (lines_fed old last uid made.position mails lines) others (sym (shape old mails lines) ∙ e) (record {
        now = line_now o is (mails_left s.position longer) ∙ shape new (mails_left s.position longer) (lines_left made.position more)
            ∙ ap (λ (q : Position). fed_first (record { change = change; position = counted q }) (lines_fed new last uid (counted q) (mails_left s.position longer) (lines_left made.position more))) line_alike
            ∙ ap (λ (k : ℕ). fed_first made (lines_fed new last k made.position (mails_left made.position longer) (lines_left made.position more))) (sym next);
        before = ap (lines_fed old last (after_fed s made).mailbox.next_uid made.position (mails_left made.position mbox)) line_ends.1
            ∙ ap (λ (k : ℕ). lines_fed old last k made.position (mails_left made.position mbox) lines) next
            ∙ ap (λ (ms : List Mail). lines_fed old last uid made.position ms lines) left_mails;
        within = (within.0, line_ends.0);
        inputs = line_known s.position mbox steps raw;
      })

  line_follows : (o : Option Step) → step_of (content raw) ≡ o → (mails : List Mail) → mails_left s.position mbox ≡ mails
      → by_line old last o s.mailbox.next_uid s.position raw mails lines ≡ fed_first f others → Goal
  line_follows None is mails left_mails e = absurd (no_first (BadLine (s.position.lines + 1)) f others e)
  line_follows (Some step.Next) is [] left_mails e = absurd (no_first (BadLine (s.position.lines + 1)) f others e)
  line_follows (Some step.Next) is (mail ∷ mails) left_mails e =
      let uid = s.mailbox.next_uid in
      let made = mail_fed old uid (at_line old s.position raw) mail in
      let next : (after_fed s made).mailbox.next_uid ≡ uid + 1 = next_uid_after s.mailbox uid mail in
      let h = mails_after s.position.mbox mbox mail mails within.0 left_mails in
      let alike : mail_fed new uid (at_line new s.position raw) mail ≡ made =
      ap (λ (q : Position). mail_fed new uid q mail) line_alike ∙ mail_same uid (at_line old s.position raw) mail mbox longer (Some steps) (Some more) grows h.0 in
      follows_as made f (lines_fed old last (uid + 1) made.position mails lines) others e (record {
        now = line_now (Some step.Next) is (mails_left s.position longer)
            ∙ ap (λ (ms : List Mail). by_line new last (Some step.Next) uid s.position raw ms (lines_left made.position more)) (mail_stays s.position.mbox mbox longer mail mails grows within.0 left_mails)
            ∙ ap (λ (x : Fed). fed_first x (lines_fed new last (uid + 1) x.position (mails_left made.position longer) (lines_left made.position more))) alike
            ∙ ap (λ (k : ℕ). fed_first made (lines_fed new last k made.position (mails_left made.position longer) (lines_left made.position more))) (sym next);
        before = ap (λ (ms : List Mail). lines_fed old last (after_fed s made).mailbox.next_uid made.position ms (lines_left made.position steps)) h.1
            ∙ ap (lines_fed old last (after_fed s made).mailbox.next_uid made.position mails) line_ends.1
            ∙ ap (λ (k : ℕ). lines_fed old last k made.position mails lines) next;
        within = (h.0, line_ends.0);
        inputs = λ same. mail_known (at_line old s.position raw) mbox (Some steps) mail.end (line_known s.position mbox steps raw same);
      })
  line_follows (Some (step.Expunge n)) is mails left_mails e = other_follows (Some (step.Expunge n)) is (Expunge n) refl (λ files mails ls. refl) mails left_mails e
  line_follows (Some (step.Seen n)) is mails left_mails e = other_follows (Some (step.Seen n)) is (Seen n) refl (λ files mails ls. refl) mails left_mails e
  line_follows (Some (step.At n)) is mails left_mails e = other_follows (Some (step.At n)) is (At n) refl (λ files mails ls. refl) mails left_mails e

-- the moment that comes last, where no line is left
last_comes : (last : Option ℕ) (s : State) (f : Fed) (others : Feed) (mbox longer steps more : Bytes) → StepsGrow (Some steps) (Some more) last → LiesWithin s.position mbox (Some steps)
    → lines_left s.position steps ≡ [] → last_fed last s.position ≡ fed_first f others → ComesLast last s f others mbox longer (Some steps) (Some more)
last_comes None s f others mbox longer steps more grown within left e = absurd (no_first End f others e)
last_comes (Some moment) s f others mbox longer steps more same within left e =
    let made = moment_fed s.position moment in
    let h = first_is made f (ends End) others e in
    let now : lines_left s.position more ≡ [] = ap (lines_left s.position) same ∙ left in
    record {
      moment = moment;
      comes = refl;
      is = h.0;
      none = h.1;
      now = ap (lines_fed (files_of longer (Some more)) (Some moment) s.mailbox.next_uid s.position (mails_left s.position longer)) now ∙ ap (λ (x : Fed). fed_first x (ends End)) h.0;
      again = subst (λ (x : Fed). ahead (Some moment) (after_fed s x) longer (Some more) ≡ last_fed (Some moment) x.position) h.0
          (ap (lines_fed (files_of longer (Some more)) (Some moment) (after_fed s made).mailbox.next_uid made.position (mails_left made.position longer)) now);
      within = subst (λ (x : Fed). LiesWithin x.position mbox (Some steps)) h.0 within;
      inputs = subst (λ (x : Fed). AreSame s.position mbox (Some steps) → AreSame x.position mbox (Some steps)) h.0 (λ known. known);
    }

pub next_follows : (last : Option ℕ) (s : State) (f : Fed) (others : Feed) (mbox longer : Bytes) (steps more : Option Bytes)
    → MboxGrows mbox longer → StepsGrow steps more last → LiesWithin s.position mbox steps → ahead last s mbox steps ≡ fed_first f others
    → Follows last s f others mbox longer steps more ⊎ ComesLast last s f others mbox longer steps more
next_follows last s f others mbox longer None None grows grown within e = inl (mail_follows last s f others mbox longer grows within e)
next_follows last s f others mbox longer None (Some more) grows grown within e = absurd grown
next_follows last s f others mbox longer (Some steps) None grows grown within e = absurd grown
next_follows last s f others mbox longer (Some steps) (Some more) grows grown within e = by (lines_left s.position steps) refl e
  where
    by : (ls : List (List ℕ)) → lines_left s.position steps ≡ ls → lines_fed (files_of mbox (Some steps)) last s.mailbox.next_uid s.position (mails_left s.position mbox) ls ≡ fed_first f others
        → Follows last s f others mbox longer (Some steps) (Some more) ⊎ ComesLast last s f others mbox longer (Some steps) (Some more)
    by [] left e = inr (last_comes last s f others mbox longer steps more grown within left e)
    by (raw ∷ lines) left e = inl (line_follows last s f others mbox longer steps more grows grown within raw lines left (step_of (content raw)) refl (mails_left s.position mbox) refl e)
