-- Rounds of a run on its way: what a turn and a commit make of it, over what its devices tell.
use Rattle.std.proofs.Common.{◌≡◌, ◌⊎◌, inl, inr, ℕ, zero, suc, ◌+◌, ◌<◌, ◌≤◌, arith, true, false, length, Option, Some, None, Result, Ok, Err, IfErr, IfOk, OnOk, refl, sym, ap, subst, ◌∙◌}
use Rattle.std.specs.Prelude.{IsErrOf}
use Rattle.outside.specs.Crash.{RisesUpTo}
use Rattle.outside.specs.Places.{Places}
use Rattle.outside.specs.Moments.{IsKnown, KnownThen, LeavesOnly, Reached as Left, WhereKnown}
use Rattle.outside.proofs.Moments.{weaker, started}
use Rattle.mailbox_model.specs.Lists.{Bytes}
use Rattle.mailbox_model.specs.declared.change.Change.TheVariants.{At}
use Rattle.source_buffer.specs.Known.{IfKnown}
use Rattle.state_store.specs.States.{State}
use Rattle.state_store.specs.Stands.{stands}
use Rattle.state_store.specs.Commits.{OldOrNew, commit_reads, commit_writes, fill_of, fill_with}
use Rattle.state_store.specs.Stored.{IsStored}
use Rattle.state_store.specs.declared.store.Store.{Store}
use Rattle.state_store.proofs.Appending.{is_settled}
use Rattle.keeper.specs.Keeping.{Keeping, is_refused}
use Rattle.tail_journal.specs.Pending.{none_pending, with_change}
use Rattle.follower.specs.declared.fault.RunFault.{RunFault}
use Rattle.follower.specs.declared.fault.RunFault.TheVariants as fault
use Rattle.follower.specs.declared.follower.Turned.{Turned}
use Rattle.follower.specs.declared.follower.Turned.TheVariants as turned
use Rattle.follower.specs.Feed.{Fed, Feed, Files, End, after_fed, ends, fed_first, last_fed, moment_fed}
use Rattle.follower.specs.Following.{Following, LineCosts, LineTurn, MailCosts, MailTurn, OnApplied, StandsInMbox, StandsInSteps, TurnAdds, TurnCosts, TurnGoes, to_come}
use Rattle.follower.specs.Going.{RefusesFirst, StopsAt}
use Rattle.follower.specs.Reached.{BadStep, Full, count_made, reached}
use Rattle.follower.specs.Committing.{CommitGoes, EndGoes, HaltsAt, IsWhole, LastGoes, LastToCome, LinesToCome, MailsToCome, NothingToCome, OnWay, Outset, Prefix, RoundGoes, SpendsWithin, Stops, Way}
use Rattle.follower.specs.Spending.{Counts, RoseWithin, counts, next_cost}
use Rattle.touched_chats.specs.Costs.{change_cost}
use Rattle.follower.proofs.Spending.{next_is, stays_within}
use Rattle.follower.proofs.Turning.{mbox_stands_as, steps_stand_as}
use Rattle.follower.proofs.Committing.{ends_all, full_rose, full_spends, halts, last_spends, prefix_commit, prefix_kept, way_committed, way_on, way_spends, whole_of_256, whole_of_all}

-- ---- what a turn says, where the bytes are known

on_applied : (r : Result Turned RunFault) (P Q : Type 0) → (P → Q) → OnApplied r P → OnApplied r Q
on_applied (Ok turned.Applied) P Q f p = f p
on_applied (Ok turned.End) P Q f p = tt
on_applied (Err why) P Q f p = tt

pub mail_turn : (files : Files) (l m : Option Bytes) (old new : Following) (r : Result Turned RunFault) (others : Feed)
    → IfKnown l m (λ before after. MailTurn files r old before new after) → MailsToCome files old l others
    → (later : Feed) × OnApplied r (MailsToCome files new m later) × TurnGoes None r old others new later
mail_turn files None m old new r others go comes = let never : None ≡ Some comes.bytes = comes.told in absurd cc
mail_turn files (Some b) None old new r others go comes = absurd go
mail_turn files (Some b) (Some a) old new r others go comes =
    let told : Some b ≡ Some comes.bytes = comes.told in
    let same : b ≡ comes.bytes = cc in
    let went = go (subst (StandsInMbox files old) (sym same) comes.stands) in
    let later = to_come files None new a None in
    let here : to_come files None old b None ≡ others = ap (λ (x : Bytes). to_come files None old x None) same ∙ sym comes.is in (
      later,
      on_applied r (StandsInMbox files new a) (MailsToCome files new (Some a) later) (λ stands. record { bytes = a; told = refl; stands = stands; is = refl }) went.1,
      subst (λ (f : Feed). TurnGoes None r old f new later) here went.0,
    )

pub line_turn : (files : Files) (l m j k : Option Bytes) (last : Option ℕ) (old new : Following) (r : Result Turned RunFault) (others : Feed)
    → IfKnown l m (λ mails_before mails_after. IfKnown j k (λ before after. LineTurn files last r old mails_before before new mails_after after)) → LinesToCome files last old l j others
    → (later : Feed) × OnApplied r (LinesToCome files last new m k later) × TurnGoes last r old others new later
line_turn files None m j k last old new r others go comes = let never : None ≡ Some comes.bytes = comes.mbox_told in absurd cc
line_turn files (Some b) None j k last old new r others go comes = absurd go
line_turn files (Some b) (Some a) None k last old new r others go comes = let never : None ≡ Some comes.lines = comes.steps_told in absurd cc
line_turn files (Some b) (Some a) (Some s) None last old new r others go comes = absurd go
line_turn files (Some b) (Some a) (Some s) (Some t) last old new r others go comes =
    let told : Some b ≡ Some comes.bytes = comes.mbox_told in
    let lines_told : Some s ≡ Some comes.lines = comes.steps_told in
    let same : b ≡ comes.bytes = cc in
    let alike : s ≡ comes.lines = cc in
    let went = go (subst (StandsInMbox files old) (sym same) comes.mbox_stands) (subst (StandsInSteps files old) (sym alike) comes.steps_stands) in
    let later = to_come files last new a (Some t) in
    let here : to_come files last old b (Some s) ≡ others = (λ i. to_come files last old (same i) (Some (alike i))) ∙ sym comes.is in (
      later,
      on_applied r (StandsInMbox files new a × StandsInSteps files new t) (LinesToCome files last new (Some a) (Some t) later)
          (λ stands. record { bytes = a; lines = t; mbox_told = refl; steps_told = refl; mbox_stands = stands.0; steps_stands = stands.1; is = refl }) went.1,
      subst (λ (f : Feed). TurnGoes last r old f new later) here went.0,
    )

-- what it reads
pub mail_costs : (files : Files) (l m : Option Bytes) (old : Following) (r : Result Turned RunFault) (from to : ℕ) (others : Feed)
    → IfKnown l m (λ before _. MailCosts files r old before from to) → MailsToCome files old l others → TurnCosts r old.keeper.state others from to
mail_costs files None m old r from to others costs comes = let never : None ≡ Some comes.bytes = comes.told in absurd cc
mail_costs files (Some b) None old r from to others costs comes = absurd costs
mail_costs files (Some b) (Some a) old r from to others costs comes =
    let told : Some b ≡ Some comes.bytes = comes.told in
    let same : b ≡ comes.bytes = cc in
    subst (λ (f : Feed). TurnCosts r old.keeper.state f from to) (ap (λ (x : Bytes). to_come files None old x None) same ∙ sym comes.is)
    (costs (subst (StandsInMbox files old) (sym same) comes.stands))

pub line_costs : (files : Files) (l m j k : Option Bytes) (last : Option ℕ) (old : Following) (r : Result Turned RunFault) (from to : ℕ) (others : Feed)
    → IfKnown l m (λ mails_before _. IfKnown j k (λ before _. LineCosts files last r old mails_before before from to))
    → LinesToCome files last old l j others → TurnCosts r old.keeper.state others from to
line_costs files None m j k last old r from to others costs comes = let never : None ≡ Some comes.bytes = comes.mbox_told in absurd cc
line_costs files (Some b) None j k last old r from to others costs comes = absurd costs
line_costs files (Some b) (Some a) None k last old r from to others costs comes = let never : None ≡ Some comes.lines = comes.steps_told in absurd cc
line_costs files (Some b) (Some a) (Some s) None last old r from to others costs comes = absurd costs
line_costs files (Some b) (Some a) (Some s) (Some t) last old r from to others costs comes =
    let told : Some b ≡ Some comes.bytes = comes.mbox_told in
    let lines_told : Some s ≡ Some comes.lines = comes.steps_told in
    let same : b ≡ comes.bytes = cc in
    let alike : s ≡ comes.lines = cc in
    subst (λ (f : Feed). TurnCosts r old.keeper.state f from to) ((λ i. to_come files last old (same i) (Some (alike i))) ∙ sym comes.is)
    (costs (subst (StandsInMbox files old) (sym same) comes.mbox_stands) (subst (StandsInSteps files old) (sym alike) comes.steps_stands))

-- the same where readers and state are the same
pub mails_same : (files : Files) (l : Option Bytes) (old new : Following) (others : Feed) → new.keeper.state ≡ old.keeper.state → new.mbox ≡ old.mbox
    → MailsToCome files old l others → MailsToCome files new l others
mails_same files l old new others state mbox comes = record {
  bytes = comes.bytes;
  told = comes.told;
  stands = mbox_stands_as files old new comes.bytes mbox comes.stands;
  is = comes.is ∙ (λ i. to_come files None (record old { keeper = record old.keeper { state = sym state i }; mbox = sym mbox i }) comes.bytes None);
}

pub lines_same : (files : Files) (l j : Option Bytes) (last : Option ℕ) (old new : Following) (others : Feed) → new.keeper.state ≡ old.keeper.state → new.mbox ≡ old.mbox → new.lines ≡ old.lines
    → LinesToCome files last old l j others → LinesToCome files last new l j others
lines_same files l j last old new others state mbox reader comes = record {
  bytes = comes.bytes;
  lines = comes.lines;
  mbox_told = comes.mbox_told;
  steps_told = comes.steps_told;
  mbox_stands = mbox_stands_as files old new comes.bytes mbox comes.mbox_stands;
  steps_stands = steps_stand_as files old new comes.lines reader comes.steps_stands;
  is = comes.is ∙ (λ i. to_come files last (record old { keeper = record old.keeper { state = sym state i }; mbox = sym mbox i; lines = sym reader i }) comes.bytes (Some comes.lines));
}

-- ---- a round

no_room : (s : State) (f : Fed) (rest : Feed) → is_refused s f.change ≡ true → ((reached s (fed_first f rest)).stop ≡ Some Full) × (count_made s (fed_first f rest).changes ≡ 0)
no_room s f rest full = (rw full refl, rw full refl)

first_refused : (s : State) (feed : Feed) → RefusesFirst s feed → ((reached s feed).stop ≡ Some Full) × (count_made s feed.changes ≡ 0)
first_refused s feed refuses = subst (λ (f : Feed). ((reached s f).stop ≡ Some Full) × (count_made s f.changes ≡ 0)) (sym refuses.first) (no_room s refuses.fed refuses.others refuses.refused)

module _ (start : Outset) (feed : Feed) (now : Counts) (outcomes : Places → Type 0) (seen : Option Places) where
  halts_at : (others : Feed) (k : Keeping) → IsKnown seen (Way start feed others k now) → k.pending.count < 256 → WhereKnown seen (IsStored k.store outcomes)
      → (why : RunFault) → StopsAt why k.state others → HaltsAt why start.state feed outcomes
  halts_at others k known few stored fault.Full stops =
      let refused = first_refused k.state others stops in
      halts start feed others k now known.places known.holds Full outcomes (stored known.places known.is) few refused.0 refused.1
  halts_at others k known few stored (fault.Steps number) stops =
      halts start feed others k now known.places known.holds (BadStep number) outcomes (stored known.places known.is) few
      (ap (λ (f : Feed). (reached k.state f).stop) stops) (ap (λ (f : Feed). count_made k.state f.changes) stops)
  halts_at others k known few stored (fault.Read input) stops = tt
  halts_at others k known few stored (fault.Endless input) stops = tt
  halts_at others k known few stored (fault.Short input) stops = tt
  halts_at others k known few stored (fault.OtherFiles input) stops = tt
  halts_at others k known few stored fault.Disk stops = tt
  halts_at others k known few stored (fault.Damaged place at) stops = tt
  halts_at others k known few stored (fault.OtherMe other) stops = tt
  halts_at others k known few stored fault.Memory stops = tt

  pub stops_at : (others : Feed) (k : Keeping) (later : Counts) → IsKnown seen (Way start feed others k now) → k.pending.count < 256 → WhereKnown seen (IsStored k.store outcomes)
      → (why : RunFault) → StopsAt why k.state others → RoseWithin now (counts (next_cost k.state others.changes) 0) later → Stops why start feed later outcomes
  stops_at others k later known few stored why stops costs =
      record { halts = halts_at others k known few stored why stops; spends = way_spends start feed others k now known.places known.holds later costs }

  -- of the turn after a commit that may have been due
  pub round_goes : (last : Option ℕ) (IsToCome : Feed → Type 0) (old new : Following) (others later : Feed) (r : Result Turned RunFault) (to : ℕ) → IsKnown seen (Way start feed others old.keeper now)
      → OnApplied r (IsToCome later) → TurnGoes last r old others new later → TurnCosts r old.keeper.state others now.reads to → IfOk r (TurnAdds old.keeper new.keeper) → new.keeper.store ≡ old.keeper.store
      → old.keeper.pending.count < 256 → WhereKnown seen (IsStored old.keeper.store outcomes) → RoundGoes last r start feed IsToCome new.keeper (counts to now.written) seen outcomes
  round_goes last IsToCome old new others later (Ok turned.Applied) to known comes go costs adds store few stored = record {
    others = later;
    to_come = comes;
    known = record {
      places = known.places;
      is = known.is;
      holds = way_on start feed others old.keeper now known.places known.holds new.keeper later (counts to now.written) go store (record { reads = costs; written = omega arith });
    };
  }
  round_goes last IsToCome old new others later (Ok turned.End) to known comes go costs adds store few stored = record {
    others = others;
    to_come = go.0 ∙ ap (λ (s : State). last_fed last s.position) (sym go.1);
    known = subst (λ (k : Keeping). IsKnown seen (Way start feed others k (counts to now.written))) (sym adds)
        (subst (λ (n : ℕ). IsKnown seen (Way start feed others old.keeper (counts n now.written))) (sym costs) known);
  }
  round_goes last IsToCome old new others later (Err why) to known comes go costs adds store few stored =
      stops_at others old.keeper (counts to now.written) known few stored why go (record { reads = costs; written = omega arith })

  pub free_stop : (why : RunFault) → (why ≡ fault.Disk) ⊎ (why ≡ fault.Memory) → SpendsWithin start feed now → Stops why start feed now outcomes
  free_stop why (inl disk) spends = subst (λ (e : RunFault). Stops e start feed now outcomes) (sym disk) (record { halts = tt; spends = spends })
  free_stop why (inr memory) spends = subst (λ (e : RunFault). Stops e start feed now outcomes) (sym memory) (record { halts = tt; spends = spends })

  -- all rounds
  pub applied : (last : Option ℕ) (IsToCome : Feed → Type 0) (k : Keeping) (t : Turned) → t ≡ turned.Applied → RoundGoes last (Ok t) start feed IsToCome k now seen outcomes → OnWay start feed IsToCome k now seen
  applied last IsToCome k t is go = subst (λ (t : Turned). RoundGoes last (Ok t) start feed IsToCome k now seen outcomes) is go

  pub ended : (last : Option ℕ) (IsToCome : Feed → Type 0) (k : Keeping) (t : Turned) → t ≡ turned.End → RoundGoes last (Ok t) start feed IsToCome k now seen outcomes
      → OnWay start feed (LastToCome last k) k now seen
  ended last IsToCome k t is go = subst (λ (t : Turned). RoundGoes last (Ok t) start feed IsToCome k now seen outcomes) is go

-- ---- what holds at Ok

pub on_ok_both : {T : Type 0} (r : Result T RunFault) (P Q R : Type 0) → (P → Q → R) → OnOk r P → OnOk r Q → OnOk r R
on_ok_both (Ok t) P Q R f p q = f p q
on_ok_both (Err why) P Q R f p q = tt

pub still_stored : {T : Type 0} (r : Result T RunFault) (seen : Option Places) (outcomes : Places → Type 0) (old new : Keeping) → new.store ≡ old.store → WhereKnown seen (IsStored old.store outcomes)
    → OnOk r (WhereKnown seen (IsStored new.store outcomes))
still_stored (Ok t) seen outcomes old new same stored = subst (λ (store : Store). WhereKnown seen (IsStored store outcomes)) (sym same) stored
still_stored (Err why) seen outcomes old new same stored = tt

-- ---- commits

module _ {D : Type 0} (moment : D → ℕ) (left_since : D → ℕ → Places → Type 0) (seen : D → Option Places) (may_leave : D → Places → Type 0)
    (start : Outset) (feed others : Feed) (k : Keeping) (now : Counts) where
  -- a shelf that is not called
  pub nothing_leaves : (shelf : D) → ((c : Places) → left_since shelf (moment shelf) c → may_leave shelf c) → IsKnown (seen shelf) (Way start feed others k now)
      → WhereKnown (seen shelf) (IsStored k.store (may_leave shelf)) → LeavesOnly moment left_since shelf shelf (Prefix start.state feed)
  nothing_leaves shelf only_now known stored =
      started moment left_since shelf (Prefix start.state feed) (λ c left. prefix_kept start feed others k now known.places known.holds c
      (ap (stands start.state.mailbox.me) (is_settled k.store (may_leave shelf) known.places (stored known.places known.is) c (only_now c left))))

  module _ (old new : D) (known : IsKnown (seen old) (Way start feed others k now)) where
    commit_leaves : IsWhole (length known.holds.leads.done) feed → WhereKnown (seen old) (IsStored k.store (may_leave old))
        → WhereKnown (seen old) (λ _. LeavesOnly moment left_since old new (Left (may_leave old) (OldOrNew k.state.mailbox.me k.state)))
        → LeavesOnly moment left_since old new (Prefix start.state feed)
    commit_leaves whole stored any = weaker moment left_since old new _ (Prefix start.state feed) (any known.places known.is)
        (prefix_commit start feed others k now known.places known.holds (may_leave old) (stored known.places known.is) whole)

    -- of 256 changes
    pub full_leaves : k.pending.count ≡ 256 → WhereKnown (seen old) (IsStored k.store (may_leave old))
        → WhereKnown (seen old) (λ _. LeavesOnly moment left_since old new (Left (may_leave old) (OldOrNew k.state.mailbox.me k.state)))
        → LeavesOnly moment left_since old new (Prefix start.state feed)
    full_leaves full = commit_leaves (whole_of_256 start feed others k now known.places known.holds full)

    -- of all changes
    pub all_leaves : others ≡ ends End → WhereKnown (seen old) (IsStored k.store (may_leave old))
        → WhereKnown (seen old) (λ _. LeavesOnly moment left_since old new (Left (may_leave old) (OldOrNew k.state.mailbox.me k.state)))
        → LeavesOnly moment left_since old new (Prefix start.state feed)
    all_leaves last = commit_leaves (whole_of_all start feed others k now known.places known.holds last)

    -- what the commit reads and writes
    module _ (later : Counts) (reads : later.reads ≤ now.reads + commit_reads (fill_of k.store) (length k.pending.bytes) k.state)
        (writes : RisesUpTo (commit_writes (fill_of k.store) (length k.pending.bytes) k.state) now.written later.written) where
      pub full_goes : (r : Result Unit RunFault) (after : Keeping) → k.pending.count ≡ 256 → OnOk r (KnownThen (seen old) (seen new) (λ _ places. stands k.state.mailbox.me places ≡ Ok k.state))
          → after.state ≡ k.state → OnOk r (after.pending ≡ none_pending) → (1 ≤ k.pending.count → OnOk r (fill_of after.store ≡ fill_with (fill_of k.store) (length k.pending.bytes)))
          → CommitGoes r start feed others after later (seen new)
      full_goes (Ok t) after full lasting state none fill =
          let after_it = lasting.forth known.places known.is in record {
            places = after_it.places;
            is = after_it.is;
            holds = way_committed start feed others k now known.places known.holds after later after_it.places full after_it.holds state none (fill (omega (arith, full)))
                (full_rose start feed others k now known.places known.holds full later reads writes);
          }
      full_goes (Err why) after full lasting state none fill =
          full_spends start feed others k now known.places known.holds full later (full_rose start feed others k now known.places known.holds full later reads writes)

      all_spends : others ≡ ends End → k.pending.count ≤ 256 → (k.pending.count ≡ 0 → later ≡ now) → SpendsWithin start feed later
      all_spends last few none = by k.pending.count refl
        where
          by : (n : ℕ) → k.pending.count ≡ n → SpendsWithin start feed later
          by zero is = subst (SpendsWithin start feed) (sym (none is)) (way_spends start feed others k now known.places known.holds now (stays_within now _))
          by (suc n) is = last_spends start feed others k now known.places known.holds last few (omega (arith, is)) later reads writes

      pub end_goes : (r : Result Unit RunFault) (after : Keeping) → others ≡ ends End → k.pending.count ≤ 256 → (k.pending.count ≡ 0 → later ≡ now)
          → OnOk r (KnownThen (seen old) (seen new) (λ _ places. stands k.state.mailbox.me places ≡ Ok k.state)) → after.state ≡ k.state → OnOk r (WhereKnown (seen new) (IsStored after.store (may_leave new)))
          → IfErr r (λ why. (why ≡ fault.Disk) ⊎ (why ≡ fault.Memory)) → EndGoes r start feed after later (may_leave new)
      end_goes (Ok t) after last few none lasting state stored possible =
          let after_it = lasting.forth known.places known.is in
          ends_all start feed others k now known.places known.holds after later after_it.places (may_leave new) last (stored after_it.places after_it.is) after_it.holds state (all_spends last few none)
      end_goes (Err why) after last few none lasting state stored possible = free_stop start feed later (may_leave new) (seen new) why possible (all_spends last few none)

-- ---- the moment that comes last

module _ (start : Outset) (feed : Feed) (now : Counts) (outcomes : Places → Type 0) (seen : Option Places) where
  -- there is none
  pub no_last : (last : Option ℕ) (k : Keeping) → last ≡ None → OnWay start feed (LastToCome last k) k now seen → OnWay start feed NothingToCome k now seen
  no_last last k none on = record { others = on.others; to_come = on.to_come ∙ ap (λ (o : Option ℕ). last_fed o k.state.position) none; known = on.known }

  -- it is made, or the count has no room for it
  module _ (moment : ℕ) (others : Feed) (k new : Keeping) (is : others ≡ last_fed (Some moment) k.state.position) (known : IsKnown seen (Way start feed others k now))
      (few : k.pending.count < 256) (stored : WhereKnown seen (IsStored k.store outcomes)) (to : ℕ) (cost : to ≤ now.reads + change_cost k.state.mailbox (At moment)) where
    abbrev after : Counts
    after = counts to now.written

    costs : RoseWithin now (counts (next_cost k.state others.changes) 0) after
    costs = record { reads = omega (arith, cost, next_is k.state others (moment_fed k.state.position moment) (ends End) is); written = omega arith }

    pub last_goes : (r : Result Unit RunFault) → OnOk r (is_refused k.state (At moment) ≡ false) → OnOk r (new.state ≡ after_fed k.state (moment_fed k.state.position moment))
        → OnOk r (new.pending ≡ with_change k.pending (At moment)) → new.store ≡ k.store → (IsErrOf r fault.Full → is_refused k.state (At moment) ≡ true) → IfErr r (λ why. (why ≡ fault.Full) ⊎ (why ≡ fault.Memory))
        → LastGoes r start feed new after seen outcomes
    last_goes (Ok t) room state pending store full cause = record {
      others = ends End;
      to_come = refl;
      known = record {
        places = known.places;
        is = known.is;
        holds = way_on start feed others k now known.places known.holds new (ends End) after
            (record { fed = moment_fed k.state.position moment; first = is; room = room; state = state; pending = pending }) store costs;
      };
    }
    last_goes (Err why) room state pending store full cause = by cause
      where
        by : (why ≡ fault.Full) ⊎ (why ≡ fault.Memory) → Stops why start feed after outcomes
        by (inl is_full) = subst (λ (e : RunFault). Stops e start feed after outcomes) (sym is_full)
            (stops_at start feed now outcomes seen others k after known few stored fault.Full
            (record { fed = moment_fed k.state.position moment; others = ends End; first = is; refused = full (ap Err is_full) }) costs)
        by (inr memory) = free_stop start feed after outcomes seen why (inr memory) (way_spends start feed others k now known.places known.holds after costs)
