-- Each change of a feed counts one.
use Rattle.std.proofs.Common.{◌≡◌, ◌≤◌, ℕ, zero, suc, ◌+◌, List, [], ◌∷◌, take, Option, Some, None, refl, arith}
use Rattle.std.specs.Prelude.{⊤}
use Rattle.kit.specs.Lines.{content}
use Rattle.steps_file.specs.Steps.{step_of}
use Rattle.steps_file.specs.declared.step.Step.{Step}
use Rattle.steps_file.specs.declared.step.Step.TheVariants as step
use Rattle.mboxrd.specs.Mails.{Mail}
use Rattle.mailbox_model.specs.Lists.{Bytes}
use Rattle.state_image.specs.declared.position.Position.{Position}
use Rattle.state_store.specs.States.{State}
use Rattle.follower.specs.Feed.{Fed, Feed, Files, after_fed, at_line, at_mail, counted, feed, files_of, last_fed, line_fed, lines_fed, lines_left, mails_fed, mails_feed, mails_left, moment_fed}
use Rattle.follower.specs.Going.{after_feds}

-- from this count on
abbrev pub EachCounts : ℕ → List Fed → Type 0
EachCounts count [] = ⊤
EachCounts count (f ∷ fs) = (f.position.count ≡ count + 1) × EachCounts f.position.count fs

last_counts : (last : Option ℕ) (p : Position) → EachCounts p.count (last_fed last p).changes
last_counts None p = tt
last_counts (Some moment) p = (refl, tt)

mails_count : (files : Files) (uid : ℕ) (p : Position) (mails : List Mail) → EachCounts p.count (mails_fed files uid p mails).changes
mails_count files uid p [] = tt
mails_count files uid p (mail ∷ mails) = (refl, mails_count files (uid + 1) (at_mail files (counted p) mail) mails)

line_counts : (files : Files) (o : Option Step) (uid : ℕ) (p : Position) (raw : List ℕ) (mails : List Mail) (more : ℕ → Position → List Mail → Feed)
    → ((uid : ℕ) (p : Position) (mails : List Mail) → EachCounts p.count (more uid p mails).changes) → EachCounts p.count (line_fed files o uid p raw mails more).changes
line_counts files None uid p raw mails more h = tt
line_counts files (Some step.Next) uid p raw [] more h = tt
line_counts files (Some step.Next) uid p raw (mail ∷ mails) more h = (refl, h (uid + 1) (at_mail files (counted (at_line files p raw)) mail) mails)
line_counts files (Some (step.Expunge n)) uid p raw mails more h = (refl, h uid (counted (at_line files p raw)) mails)
line_counts files (Some (step.Seen n)) uid p raw mails more h = (refl, h uid (counted (at_line files p raw)) mails)
line_counts files (Some (step.At moment)) uid p raw mails more h = (refl, h uid (counted (at_line files p raw)) mails)

lines_count : (files : Files) (last : Option ℕ) (lines : List (List ℕ)) (uid : ℕ) (p : Position) (mails : List Mail) → EachCounts p.count (lines_fed files last uid p mails lines).changes
lines_count files last [] uid p mails = last_counts last p
lines_count files last (raw ∷ lines) uid p mails =
    line_counts files (step_of (content raw)) uid p raw mails (λ uid p mails. lines_fed files last uid p mails lines) (lines_count files last lines)

alone_counts : (files : Files) (s : State) (mails : List Mail) (moment : Option ℕ) → EachCounts s.position.count (mails_feed files s mails moment).changes
alone_counts files s mails None = mails_count files s.mailbox.next_uid s.position mails
alone_counts files s mails (Some moment) =
    let after = after_fed s (moment_fed s.position moment) in
    (refl, mails_count files after.mailbox.next_uid after.position mails)

pub feed_counts : (s : State) (mbox : Bytes) (steps : Option Bytes) (moment : Option ℕ) → EachCounts s.position.count (feed s mbox steps moment).changes
feed_counts s mbox None moment = alone_counts (files_of mbox None) s (mails_left s.position mbox) moment
feed_counts s mbox (Some steps) moment = lines_count (files_of mbox (Some steps)) moment (lines_left s.position steps) s.mailbox.next_uid s.position (mails_left s.position mbox)

-- so the count does not fall
pub count_rises : (n : ℕ) (s : State) (fs : List Fed) → EachCounts s.position.count fs → s.position.count ≤ (after_feds s (take n fs)).position.count
count_rises zero s fs each = omega arith
count_rises (suc n) s [] each = omega arith
count_rises (suc n) s (f ∷ fs) each = omega (arith, each.0, count_rises n (after_fed s f) fs each.1)
