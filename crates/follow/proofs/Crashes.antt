-- A run that a crash stopped, and the next one.
use Rattle.std.proofs.Common.{◌≡◌, ◌≤◌, ◌⊎◌, inl, inr, ℕ, zero, suc, List, [], ◌∷◌, take, drop, Option, Some, Result, Ok, refl, sym, ap, subst, ◌∙◌, arith}
use Rattle.outside.specs.Places.{Places}
use Rattle.outside.specs.declared.shelf.Place.{Place}
use Rattle.mailbox_model.specs.Lists.{Bytes}
use Rattle.answers.specs.declared.question.Question.{Question}
use Rattle.state_store.specs.States.{State}
use Rattle.state_store.specs.Stands.{stands}
use Rattle.follower.specs.Committing.{Prefix}
use Rattle.follower.specs.Feed.{Fed, Feed, Ending, feed}
use Rattle.follower.specs.Going.{Leads, after_feds, fed_all}
use Rattle.follower.proofs.Counting.{count_rises, feed_counts}
use Rattle.follow.specs.declared.words.Command.{Command}
use Rattle.follow.specs.declared.words.Command.TheVariants as command
use Rattle.follow.specs.declared.words.Request.{Request}
use Rattle.follow.specs.Outcome.{Given, MayStand, changes, followed_if, given_of, outcome, outcome_by, outcome_of, replied, result}
use Rattle.follow.specs.Rest.{KeptChangesStay, RunAfterACrash, Stopped}
use Rattle.follow.proofs.Rest.{the_rest}

-- ---- what a crash left is the state that was found, or that after the first changes

abbrev Leaves : (g : Given) (outcomes : Places → Type 0) (left : Places) → Stopped g outcomes left → Type 0
Leaves g outcomes left stopped = (stands g.me left ≡ Ok stopped.state) ⊎ Prefix stopped.state (changes g stopped.state) left

leaves : (g : Given) (outcomes : Places → Type 0) (left : Places) (stopped : Stopped g outcomes left) → Leaves g outcomes left stopped
leaves g outcomes left stopped = by stopped.may_stand
  where
    by : MayStand g outcomes left → Leaves g outcomes left stopped
    by (inl (before, was, same)) = inl (same ∙ stopped.settled before was)
    by (inr (s, is, prefix)) =
        let same : s ≡ stopped.state = (let e : ◌≡◌ {A = Result State (Place × ℕ)} (Ok s) (Ok stopped.state) = sym is ∙ stopped.found in cc) in
        inr (subst (λ (s : State). Prefix s (changes g s) left) same prefix)

-- the state after the first changes
abbrev reached_by : (g : Given) (s : State) (left : Places) → Prefix s (changes g s) left → State
reached_by g s left prefix = after_feds s (take prefix.count (changes g s).changes)

prefix_stands : (g : Given) (s : State) (left : Places) → s.mailbox.me ≡ g.me → (prefix : Prefix s (changes g s) left) → stands g.me left ≡ Ok (reached_by g s left prefix)
prefix_stands g s left own prefix = ap (λ (me : Bytes). stands me left) (sym own) ∙ prefix.is

pub kept_changes_stay : (outcomes : Places → Type 0) → KeptChangesStay outcomes
kept_changes_stay outcomes g left stopped = by (leaves g outcomes left stopped)
  where
    s : State
    s = stopped.state

    by : Leaves g outcomes left stopped → (t : State) × (stands g.me left ≡ Ok t) × (s.position.count ≤ t.position.count)
    by (inl same) = (s, same, omega arith)
    by (inr prefix) = (
      reached_by g s left prefix,
      prefix_stands g s left stopped.own prefix,
      count_rises prefix.count s (changes g s).changes (feed_counts s g.mbox g.steps g.moment),
    )

-- ---- the first changes lead there, and the others are left

split_feed : (n : ℕ) (fs : List Fed) (ending : Ending) → record { changes = fs; ending = ending } ≡ fed_all (take n fs) (record { changes = drop n fs; ending = ending })
split_feed zero fs ending = refl
split_feed (suc n) [] ending = refl
split_feed (suc n) (f ∷ fs) ending = ap (λ (rest : Feed). record { changes = f ∷ rest.changes; ending = rest.ending }) (split_feed n fs ending)

leads : (g : Given) (s : State) (left : Places) (prefix : Prefix s (changes g s) left)
    → Leads s (changes g s) (reached_by g s left prefix) (record { changes = drop prefix.count (changes g s).changes; ending = (changes g s).ending })
leads g s left prefix = record {
  done = take prefix.count (changes g s).changes;
  first = split_feed prefix.count (changes g s).changes (changes g s).ending;
  made = prefix.made;
  state = refl;
}

-- ---- the next run

pub run_after_a_crash : (outcomes : Places → Type 0) → RunAfterACrash outcomes
unfolding result
run_after_a_crash outcomes words r first second left is stopped again =
    let over : (places : Places) → outcome words (record second { places = places }) ≡ outcome_of (Some r) (record second { places = places }) =
    λ places. ap (λ (o : Option Request). outcome_of o (record second { places = places })) is in
    over left ∙ by r.command ∙ sym (over first.places)
  where
    s : State
    s = stopped.state

    g : Given
    g = given_of r.me r.at first

    h : Given
    h = given_of r.me r.at second

    -- what is answered of what stands
    answers : Question → Result State (Place × ℕ) → Type 0
    answers q stand = replied q (followed_if h stand) ≡ replied q (followed_if h (Ok s))

    from_left : (q : Question) → Leaves g outcomes left stopped → answers q (stands r.me left)
    from_left q (inl same) = ap (λ stand. replied q (followed_if h stand)) same
    from_left q (inr prefix) =
        let t = reached_by g s left prefix in
        let here = prefix_stands g s left stopped.own prefix in
        let led = subst (λ (moment : Option ℕ). Leads s (feed s first.mbox first.steps moment) t (record { changes = drop prefix.count (changes g s).changes; ending = (changes g s).ending })) (sym again.moment) (leads g s left prefix) in
        ap (λ stand. replied q (followed_if h stand)) here
        ∙ the_rest q h s t first.mbox first.steps _ again.mbox again.steps again.within again.same led again.counts (again.counts_left t here)

    by : (c : Command) → outcome_by c r.me (given_of r.me r.at (record second { places = left })) ≡ outcome_by c r.me (given_of r.me r.at (record second { places = first.places }))
    by (command.Trial number) = refl
    by (command.Ask q) = from_left q (leaves g outcomes left stopped) ∙ sym (ap (λ stand. replied q (followed_if h stand)) stopped.found)
