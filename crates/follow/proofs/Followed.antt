-- A run over its files: what came of opening, of following, and of commits.
use Rattle.std.proofs.Common.{◌≡◌, ◌≢◌, ◌⊎◌, inl, inr, ◌≤◌, ◌<◌, ℕ, ◌+◌, List, ◌++◌, length, take, Bool, true, false, Option, Some, None, Result, Ok, Err, arith, rules, refl, sym, ap, subst, ◌∙◌, if◌then◌else◌}
use Rattle.std.specs.Prelude.{bytes_eq, option_map}
use Rattle.std.proofs.lemmas.Bool.{le-ltb, lt-ltb}
use Rattle.std.proofs.lemmas.Slice.Eq.{bytes_eq-Decides}
use Rattle.kit.specs.Chains.{StandsFor}
use Rattle.outside.specs.declared.shelf.Place.{Place}
use Rattle.outside.specs.Moments.{IsKnown, KnownThen, LeavesOnly, Reached as Left, WhereKnown}
use Rattle.outside.specs.Places.{Places}
use Rattle.outside.proofs.Moments.{and_then, weaker}
use Rattle.mailbox_model.specs.Lists.{Bytes}
use Rattle.mailbox_model.specs.declared.change.Change.TheVariants.{At}
use Rattle.mboxrd.specs.Mails.{Mail, mails_from}
use Rattle.mboxrd.specs.Reading.{Reading, position}
use Rattle.source_buffer.specs.Known.{IfKnown}
use Rattle.state_store.specs.States.{State}
use Rattle.state_store.specs.Stands.{stand_of, stands}
use Rattle.state_store.specs.Commits.{Fill}
use Rattle.state_store.specs.Stored.{IsStored, SameFound}
use Rattle.state_store.proofs.Appending.{is_settled}
use Rattle.keeper.specs.Keeping.{Keeping, is_refused}
use Rattle.tail_journal.specs.Pending.{PendingChanges, none_pending, with_change}
use Rattle.keeper.specs.Opening.{AllFindSame, IsOthers}
use Rattle.touched_chats.specs.Costs.{change_cost}
use Rattle.follower.specs.declared.fault.Input.{Input}
use Rattle.follower.specs.declared.fault.Input.TheVariants.{Mbox, Steps}
use Rattle.follower.specs.declared.fault.RunFault.{RunFault}
use Rattle.follower.specs.declared.fault.RunFault.TheVariants as fault
use Rattle.follower.specs.Committing.{AllStand, Ends, HaltsAt, MailsToCome, OnWay, Prefix, Stops, Way, committed, outset}
use Rattle.follower.specs.Feed.{Feed, Files, after_fed, coming, files_of, fed_first, lines_left, mails_feed, mails_left, moment_fed}
use Rattle.follower.specs.Following.{Following, IsFollowFault, StandsInMbox, StandsInSteps, lines_ahead, mails_ahead, to_come}
use Rattle.follower.specs.Inputs.{GivesOther, IsPassedOver, other_of}
use Rattle.follower.specs.Opening.{IsOpenFault, OnOtherMe, StartsLines, StartsMbox}
use Rattle.follower.specs.Reached.{reached}
use Rattle.follower.specs.Spending.{Counts, RoseWithin, counts, next_cost, run_spends}
use Rattle.follower.proofs.Committing.{sum_within, way_first, way_on, way_spends}
use Rattle.follower.proofs.Rounds.{free_stop, stops_at}
use Rattle.follower.proofs.Spending.{next_is}
use Rattle.follower.proofs.Turning.{mbox_stands_as}
use Rattle.follow.specs.declared.status.Refusal.{Refusal}
use Rattle.follow.specs.declared.status.Refusal.TheVariants as refusal
use Rattle.follow.specs.Outcome.{Given, KeepsAll, MayStand, SameState, changes, spent_from, spent_if, follow_spends, followed, followed_from, followed_if, given_of, kept, kept_from, kept_if, short_of, short_steps, steps_found, unfit, unfit_files}
use Rattle.follow.specs.Replies.{BeginFails, Begun, FollowGoes, FollowStops, IsState}

-- ---- what is fit to be followed

same_bytes : (a b : Bytes) → a ≡ b → bytes_eq a b ≡ true
same_bytes a b is = search (rules, bytes_eq-Decides)

other_bytes : (a b : Bytes) → a ≢ b → bytes_eq a b ≡ false
other_bytes a b differs = search (rules, bytes_eq-Decides)

-- a state of the own address
module _ (g : Given) (s : State) (own : s.mailbox.me ≡ g.me) where
  by_input : unfit g s ≡ unfit_files g s (short_of s.position g.mbox g.steps)
  by_input = ap (λ (b : Bool). if b then unfit_files g s (short_of s.position g.mbox g.steps) else Some (refusal.OtherMe s.mailbox.me g.me)) (same_bytes s.mailbox.me g.me own)

  mbox_short : length g.mbox < s.position.mbox → unfit g s ≡ Some (refusal.Short Mbox)
  mbox_short short = by_input ∙ ap (λ (b : Bool). unfit_files g s (if b then Some Mbox else short_steps s.position.steps g.steps)) (lt-ltb (length g.mbox) s.position.mbox short)

  mbox_long : s.position.mbox ≤ length g.mbox → unfit g s ≡ unfit_files g s (short_steps s.position.steps g.steps)
  mbox_long long = by_input ∙ ap (λ (b : Bool). unfit_files g s (if b then Some Mbox else short_steps s.position.steps g.steps)) (le-ltb (length g.mbox) s.position.mbox long)

  steps_short : (steps : Bytes) → s.position.mbox ≤ length g.mbox → g.steps ≡ Some steps → length steps < s.position.steps → unfit g s ≡ Some (refusal.Short Steps)
  steps_short steps long given short =
      mbox_long long ∙ ap (λ (o : Option Bytes). unfit_files g s (short_steps s.position.steps o)) given
      ∙ ap (λ (b : Bool). unfit_files g s (if b then Some Steps else None)) (lt-ltb (length steps) s.position.steps short)

  -- neither is short, and the traces decide
  pub traced_alone : s.position.mbox ≤ length g.mbox → g.steps ≡ None → unfit g s ≡ option_map refusal.OtherFiles (other_of s.position g.mbox g.steps)
  traced_alone long none = mbox_long long ∙ ap (λ (o : Option Bytes). unfit_files g s (short_steps s.position.steps o)) none

  pub traced_both : (steps : Bytes) → s.position.mbox ≤ length g.mbox → g.steps ≡ Some steps → s.position.steps ≤ length steps
      → unfit g s ≡ option_map refusal.OtherFiles (other_of s.position g.mbox g.steps)
  traced_both steps long given steps_long =
      mbox_long long ∙ ap (λ (o : Option Bytes). unfit_files g s (short_steps s.position.steps o)) given
      ∙ ap (λ (b : Bool). unfit_files g s (if b then Some Steps else None)) (le-ltb (length steps) s.position.steps steps_long)

-- what stands, and why nothing is followed from it, if so
module _ (g : Given) (s : State) (stand : g.stand ≡ Ok s) (outcomes : Places → Type 0) where
  followed_by : (o : Option Refusal) → unfit g s ≡ o → followed g ≡ followed_from g s o
  followed_by o fits = ap (followed_if g) stand ∙ ap (followed_from g s) fits

  kept_by : (o : Option Refusal) → unfit g s ≡ o → kept g ≡ Ok (kept_from g s o)
  kept_by o fits = ap (kept_if g) stand ∙ ap (λ (o : Option Refusal). Ok (kept_from g s o)) fits

  keeps_all : (t : State) → kept g ≡ Ok t → s.mailbox.me ≡ g.me → AllStand s.mailbox.me t outcomes → KeepsAll g outcomes
  keeps_all t is own each c left = ap (λ (me : Bytes). stands me c) (sym own) ∙ each c left ∙ sym is

  -- an input is short
  short_stops : (input : Input) → s.mailbox.me ≡ g.me → unfit g s ≡ Some (refusal.Short input) → AllStand s.mailbox.me s outcomes → FollowStops (fault.Short input) g outcomes
  short_stops input own unfits each = (followed_by (Some (refusal.Short input)) unfits, keeps_all s (kept_by (Some (refusal.Short input)) unfits) own each)

  pub steps_short_stops : (steps : Bytes) → s.mailbox.me ≡ g.me → s.position.mbox ≤ length g.mbox → g.steps ≡ Some steps → length steps < s.position.steps → AllStand s.mailbox.me s outcomes
      → FollowStops (fault.Short Steps) g outcomes
  steps_short_stops steps own long given short each = short_stops Steps own (steps_short g s own steps long given short) each

  pub mbox_short_stops : s.mailbox.me ≡ g.me → length g.mbox < s.position.mbox → AllStand s.mailbox.me s outcomes → FollowStops (fault.Short Mbox) g outcomes
  mbox_short_stops own short each = short_stops Mbox own (mbox_short g s own short) each

  -- an input is another one
  pub other_stops : (why : RunFault) → (input : Input) × (why ≡ fault.OtherFiles input) → s.mailbox.me ≡ g.me → unfit g s ≡ option_map refusal.OtherFiles (other_of s.position g.mbox g.steps)
      → GivesOther (Err why) (other_of s.position g.mbox g.steps) → AllStand s.mailbox.me s outcomes → FollowStops why g outcomes
  other_stops why (input, is) own unfits gives each =
      let other : other_of s.position g.mbox g.steps ≡ Some input = subst (λ (e : RunFault). GivesOther (Err e) (other_of s.position g.mbox g.steps)) is gives in
      let refused : unfit g s ≡ Some (refusal.OtherFiles input) = unfits ∙ ap (option_map refusal.OtherFiles) other in
      subst (λ (e : RunFault). FollowStops e g outcomes) (sym is)
      (followed_by (Some (refusal.OtherFiles input)) refused, keeps_all s (kept_by (Some (refusal.OtherFiles input)) refused) own each)

  -- it is followed
  module _ (own : s.mailbox.me ≡ g.me) (fits : unfit g s ≡ None) where
    pub goes_to_end : (f : Following) (fill : Fill) (old now : Counts) → Ends (record { state = s; fill = fill; counts = old }) (changes g s) f.keeper now outcomes → FollowGoes (Ok f) g outcomes
    goes_to_end f fill old now ends = (followed_by None fits ∙ ap Ok ends.all, keeps_all (committed s (changes g s)) (kept_by None fits) own ends.each)

    pub halts_stop : (why : RunFault) → IsFollowFault why → HaltsAt why s (changes g s) outcomes → FollowStops why g outcomes
    halts_stop (fault.Read input) may halts = tt
    halts_stop (fault.Endless input) may halts = tt
    halts_stop (fault.Short input) may halts = absurd may
    halts_stop (fault.OtherFiles input) may halts = absurd may
    halts_stop (fault.Steps number) may halts =
        (reached s (changes g s), followed_by None fits, halts.stop, keeps_all (committed s (changes g s)) (kept_by None fits) own halts.each)
    halts_stop fault.Full may halts =
        (reached s (changes g s), followed_by None fits, halts.stop, keeps_all (committed s (changes g s)) (kept_by None fits) own halts.each)
    halts_stop fault.Disk may halts = tt
    halts_stop (fault.Damaged place at) may halts = absurd may
    halts_stop (fault.OtherMe other) may halts = absurd may
    halts_stop fault.Memory may halts = tt

-- it is the state of another address
other_unfit : (g : Given) (other : Bytes) (o : IsOthers g.me other g.stand) → unfit g o.state ≡ Some (refusal.OtherMe other g.me)
other_unfit g other o =
    ap (λ (b : Bool). if b then unfit_files g o.state (short_of o.state.position g.mbox g.steps) else Some (refusal.OtherMe o.state.mailbox.me g.me))
    (other_bytes o.state.mailbox.me g.me (λ is. o.differs (sym o.whose ∙ is)))
    ∙ ap (λ (bytes : Bytes). Some (refusal.OtherMe bytes g.me)) o.whose

-- nothing was begun
pub begin_stops : (g : Given) (outcomes : Places → Type 0) (why : RunFault) → BeginFails why g.me g.mbox g.stand outcomes → FollowStops why g outcomes
begin_stops g outcomes (fault.Read input) fails = tt
begin_stops g outcomes (fault.Endless input) fails = tt
begin_stops g outcomes (fault.Short Mbox) fails =
    mbox_short_stops g fails.state fails.stand_is outcomes fails.own fails.short (subst (λ (me : Bytes). AllStand me fails.state outcomes) (sym fails.own) fails.each)
begin_stops g outcomes (fault.Short Steps) fails = absurd fails
begin_stops g outcomes (fault.OtherFiles input) fails = absurd fails
begin_stops g outcomes (fault.Steps number) fails = absurd fails
begin_stops g outcomes fault.Full fails = absurd fails
begin_stops g outcomes fault.Disk fails = tt
begin_stops g outcomes (fault.Damaged place at) fails = ap (followed_if g) fails
begin_stops g outcomes (fault.OtherMe other) fails =
    let o = fails.0 in (
      followed_by g o.state o.is outcomes (Some (refusal.OtherMe other g.me)) (other_unfit g other o),
      λ c left. fails.1 c left ∙ o.is ∙ sym (kept_by g o.state o.is outcomes (Some (refusal.OtherMe other g.me)) (other_unfit g other o)),
    )
begin_stops g outcomes fault.Memory fails = tt

-- ---- opening

pub open_fails : (me bytes : Bytes) (places : Places) (outcomes : Places → Type 0) (why : RunFault) → IsOpenFault me (stands me places) why
    → OnOtherMe {T = Following} (Err why) (AllFindSame outcomes places) → BeginFails why me bytes (stands me places) outcomes
open_fails me bytes places outcomes fault.Disk is other = tt
open_fails me bytes places outcomes (fault.Damaged place at) is other = is
open_fails me bytes places outcomes (fault.OtherMe them) is other = (is, λ c left. ap (stand_of me) (other c left))
open_fails me bytes places outcomes fault.Memory is other = tt
open_fails me bytes places outcomes (fault.Read input) is other = absurd is
open_fails me bytes places outcomes (fault.Endless input) is other = absurd is
open_fails me bytes places outcomes (fault.Short input) is other = absurd is
open_fails me bytes places outcomes (fault.OtherFiles input) is other = absurd is
open_fails me bytes places outcomes (fault.Steps number) is other = absurd is
open_fails me bytes places outcomes fault.Full is other = absurd is

-- what is opened is found again
module _ (me : Bytes) (places : Places) (old new : Option Places) (k : Keeping) (stand : stands me places ≡ Ok k.state) (own : k.state.mailbox.me ≡ me)
    (is : old ≡ Some places) (same : KnownThen old new SameFound) where
  pub known_after : IsKnown new (λ now. stands me now ≡ Ok k.state)
  known_after = let now = same.forth places is in record { places = now.places; is = now.is; holds = ap (stand_of me) now.holds ∙ stand }

  pub each_stands : (outcomes : Places → Type 0) → WhereKnown new (IsStored k.store outcomes) → AllStand me k.state outcomes
  each_stands outcomes stored c left =
      let now = known_after in ap (stands me) (is_settled k.store outcomes now.places (stored now.places now.is) c left) ∙ now.holds

pub start_fails : (l m : Option Bytes) (me bytes : Bytes) (places : Places) (f new : Following) (outcomes : Places → Type 0) → l ≡ Some bytes → stands me places ≡ Ok f.keeper.state → f.keeper.state.mailbox.me ≡ me
    → AllStand me f.keeper.state outcomes → (why : RunFault) → IfKnown l m (λ before after. StartsMbox (Err why) f before new after) → BeginFails why me bytes (stands me places) outcomes
start_fails None m me bytes places f new outcomes known stand own each why starts = absurd cc
start_fails (Some b) None me bytes places f new outcomes known stand own each why starts = absurd starts
start_fails (Some b) (Some a) me bytes places f new outcomes known stand own each (fault.Read input) starts = tt
start_fails (Some b) (Some a) me bytes places f new outcomes known stand own each (fault.Endless input) starts = tt
start_fails (Some b) (Some a) me bytes places f new outcomes known stand own each (fault.Short Mbox) starts =
    let same : b ≡ bytes = cc in
    record { state = f.keeper.state; stand_is = stand; own = own; short = subst (λ (x : Bytes). length x < f.keeper.state.position.mbox) same starts; each = each }
start_fails (Some b) (Some a) me bytes places f new outcomes known stand own each (fault.Short Steps) starts = absurd starts
start_fails (Some b) (Some a) me bytes places f new outcomes known stand own each (fault.OtherFiles input) starts = absurd starts
start_fails (Some b) (Some a) me bytes places f new outcomes known stand own each (fault.Steps number) starts = absurd starts
start_fails (Some b) (Some a) me bytes places f new outcomes known stand own each fault.Full starts = absurd starts
start_fails (Some b) (Some a) me bytes places f new outcomes known stand own each fault.Disk starts = absurd starts
start_fails (Some b) (Some a) me bytes places f new outcomes known stand own each (fault.Damaged place at) starts = absurd starts
start_fails (Some b) (Some a) me bytes places f new outcomes known stand own each (fault.OtherMe other) starts = absurd starts
start_fails (Some b) (Some a) me bytes places f new outcomes known stand own each fault.Memory starts = absurd starts

pub begun : (l m : Option Bytes) (me bytes : Bytes) (places : Places) (seen : Option Places) (f new : Following) → l ≡ Some bytes → stands me places ≡ Ok f.keeper.state → f.keeper.state.mailbox.me ≡ me
    → new.keeper ≡ f.keeper → IsKnown seen (λ now. stands me now ≡ Ok f.keeper.state) → IfKnown l m (λ before after. StartsMbox (Ok tt) f before new after)
    → Begun me bytes (stands me places) new m seen
begun None m me bytes places seen f new known stand own same found starts = absurd cc
begun (Some b) None me bytes places seen f new known stand own same found starts = absurd starts
begun (Some b) (Some a) me bytes places seen f new known stand own same found starts =
    let alike : b ≡ bytes = cc in record {
      stand_is = stand ∙ ap (λ (k : Keeping). Ok k.state) (sym same);
      own = ap (λ (k : Keeping). k.state.mailbox.me) same ∙ own;
      within = subst (λ (x : Bytes). new.keeper.state.position.mbox ≤ length x) alike (subst (λ (k : Keeping). k.state.position.mbox ≤ length b) (sym same) starts.within);
      rest = a;
      left_is = refl;
      ahead = starts.ahead ∙ (λ i. mails_left (sym same i).state.position (alike i));
      place = starts.place ∙ ap (λ (k : Keeping). k.state.position.mbox) (sym same);
      mbox_stands = λ files is. starts.stands files (is ∙ sym alike);
      known = subst (λ (k : Keeping). IsKnown seen (λ now. stands me now ≡ Ok k.state)) (sym same) found;
    }

-- ---- what a crash may leave

module _ {D : Type 0} (moment : D → ℕ) (left_since : D → ℕ → Places → Type 0) (outcomes : Places → Type 0) where
  -- until something is followed
  pub opening_leaves : (me : Bytes) (old new : D) → LeavesOnly moment left_since old new (Left outcomes SameFound) → LeavesOnly moment left_since old new (Left outcomes (SameState me))
  opening_leaves me old new leaves = weaker moment left_since old new _ _ leaves (λ c found. (found.0, found.1, ap (stand_of me) found.2))

  module _ (g : Given) where
    pub begin_leaves : (old new : D) → LeavesOnly moment left_since old new (Left outcomes (SameState g.me)) → LeavesOnly moment left_since old new (MayStand g outcomes)
    begin_leaves old new leaves = weaker moment left_since old new _ _ leaves (λ c same. inl same)

    -- and then
    pub follow_leaves : (old mid new : D) (s : State) → g.stand ≡ Ok s → LeavesOnly moment left_since old mid (Left outcomes (SameState g.me))
        → LeavesOnly moment left_since mid new (Prefix s (changes g s)) → LeavesOnly moment left_since old new (MayStand g outcomes)
    follow_leaves old mid new s stand first second = and_then moment left_since old mid new _ _ _ first second (λ c same. inl same) (λ c prefix. inr (s, stand, prefix))

-- ---- following from what was opened

-- nothing is made yet
pub first_way : (k : Keeping) (feed : Feed) (now : Counts) (seen : Option Places) → k.pending ≡ none_pending → IsKnown seen (IsState k.state) → IsKnown seen (Way (outset k now) feed feed k now)
first_way k feed now seen none known = record { places = known.places; is = known.is; holds = way_first feed k now known.places none known.holds }

-- a moment comes first
abbrev pub whole : Files → Keeping → List Mail → ℕ → Feed
whole files k mails moment = mails_feed files k.state mails (Some moment)

module _ (files : Files) (k : Keeping) (mails : List Mail) (moment : ℕ) (now : Counts) where
  abbrev all : Feed
  all = whole files k mails moment

  -- the moment reads no more than it may cost
  pub moment_costs : (to : ℕ) → to ≤ now.reads + change_cost k.state.mailbox (At moment) → RoseWithin now (counts (next_cost k.state all.changes) 0) (counts to now.written)
  moment_costs to cost = record {
    reads = omega (arith, cost, next_is k.state all (moment_fed k.state.position moment) (coming files None (after_fed k.state (moment_fed k.state.position moment)) mails None) refl);
    written = omega arith;
  }

  pub moment_refused : (later : Counts) → RoseWithin now (counts (next_cost k.state all.changes) 0) later
      → (seen : Option Places) (outcomes : Places → Type 0) (why : RunFault) → IsKnown seen (Way (outset k now) all all k now) → k.pending ≡ none_pending
      → WhereKnown seen (IsStored k.store outcomes) → (why ≡ fault.Full) ⊎ (why ≡ fault.Memory) → (why ≡ fault.Full → is_refused k.state (At moment) ≡ true) → Stops why (outset k now) all later outcomes
  moment_refused later costs seen outcomes why known none stored (inl full) refused = subst (λ (e : RunFault). Stops e (outset k now) all later outcomes) (sym full)
      (stops_at (outset k now) all now outcomes seen all k later known (omega (arith, ap (λ (p : PendingChanges). p.count) none)) stored fault.Full
      (record { fed = moment_fed k.state.position moment; others = coming files None (after_fed k.state (moment_fed k.state.position moment)) mails None; first = refl; refused = refused full }) costs)
  moment_refused later costs seen outcomes why known none stored (inr memory) refused =
      free_stop (outset k now) all later outcomes seen why (inr memory) (way_spends (outset k now) all all k now known.places known.holds later costs)

  pub moment_made : (later : Counts) → RoseWithin now (counts (next_cost k.state all.changes) 0) later → (seen : Option Places) (old new : Following) (left : Option Bytes) (rest : Bytes) → left ≡ Some rest → StandsInMbox files old rest → mails ≡ mails_ahead old rest → new.mbox ≡ old.mbox
      → IsKnown seen (Way (outset k now) all all k now) → is_refused k.state (At moment) ≡ false → new.keeper.state ≡ after_fed k.state (moment_fed k.state.position moment)
      → new.keeper.pending ≡ with_change k.pending (At moment) → new.keeper.store ≡ k.store → OnWay (outset k now) all (MailsToCome files new left) new.keeper later seen
  moment_made later costs seen old new left rest is stands ahead same known room state pending store =
      let others = coming files None new.keeper.state mails None in record {
        others = others;
        to_come = record {
          bytes = rest;
          told = is;
          stands = mbox_stands_as files old new rest same stands;
          is = ap (λ (ms : List Mail). coming files None new.keeper.state ms None) (ahead ∙ ap (λ (r : Reading). mails_from (position r) (r.held ++ rest)) (sym same));
        };
        known = record {
          places = known.places;
          is = known.is;
          holds = way_on (outset k now) all all k now known.places known.holds new.keeper others later (record {
            fed = moment_fed k.state.position moment;
            first = ap (λ (s : State). fed_first (moment_fed k.state.position moment) (coming files None s mails None)) (sym state);
            room = room;
            state = state;
            pending = pending;
          }) store costs;
        };
      }

-- ---- what is read and written

-- where nothing is followed
pub opening_spends : (g : Given) (old mid : Counts) → mid.reads ≤ old.reads + g.opening → mid.written ≡ old.written → RoseWithin old (follow_spends g) mid
opening_spends g old mid reads written = record { reads = omega (arith, reads); written = omega (arith, written) }

module _ (g : Given) (s : State) (stand : g.stand ≡ Ok s) (old mid : Counts) (reads : mid.reads ≤ old.reads + g.opening) (written : mid.written ≡ old.written) where
  pub following_spends : (fill : Fill) (feed : Feed) (new : Counts) → unfit g s ≡ None → fill ≡ g.fill → feed ≡ changes g s → RoseWithin mid (run_spends s fill feed) new → RoseWithin old (follow_spends g) new
  following_spends fill feed new fits fill_is feed_is rose =
      let spent : spent_if g g.stand ≡ run_spends s fill feed =
      ap (spent_if g) stand ∙ ap (spent_from g s) fits ∙ (λ i. run_spends s (sym fill_is i) (sym feed_is i)) in
      record {
        reads = sum_within old.reads (g.opening) (spent_if g g.stand).reads mid.reads new.reads (run_spends s fill feed).reads (sym (ap (λ (c : Counts). c.reads) spent)) reads rose.reads;
        written = omega (arith, rose.written, written, ap (λ (c : Counts). c.written) spent);
      }

-- the own address is that of the state
pub own_state : (me : Bytes) (s : State) (seen : Option Places) → s.mailbox.me ≡ me → IsKnown seen (λ places. stands me places ≡ Ok s) → IsKnown seen (IsState s)
own_state me s seen own known = record { places = known.places; is = known.is; holds = ap (λ (x : Bytes). stands x known.places) own ∙ known.holds }

-- ---- the steps file

pub lines_fail : (l m : Option Bytes) (steps : Bytes) (g : Given) (f new : Following) (outcomes : Places → Type 0) → l ≡ Some steps → g.stand ≡ Ok f.keeper.state → f.keeper.state.mailbox.me ≡ g.me
    → f.keeper.state.position.mbox ≤ length g.mbox → g.steps ≡ Some steps → AllStand f.keeper.state.mailbox.me f.keeper.state outcomes → (why : RunFault)
    → IfKnown l m (λ before after. StartsLines (Err why) f before new after) → FollowStops why g outcomes
lines_fail None m steps g f new outcomes known stand own long given each why starts = absurd cc
lines_fail (Some b) None steps g f new outcomes known stand own long given each why starts = absurd starts
lines_fail (Some b) (Some a) steps g f new outcomes known stand own long given each (fault.Read input) starts = tt
lines_fail (Some b) (Some a) steps g f new outcomes known stand own long given each (fault.Endless input) starts = tt
lines_fail (Some b) (Some a) steps g f new outcomes known stand own long given each (fault.Short Mbox) starts = absurd starts
lines_fail (Some b) (Some a) steps g f new outcomes known stand own long given each (fault.OtherFiles input) starts = absurd starts
lines_fail (Some b) (Some a) steps g f new outcomes known stand own long given each (fault.Short Steps) starts =
    let same : b ≡ steps = cc in
    steps_short_stops g f.keeper.state stand outcomes steps own long given (subst (λ (x : Bytes). length x < f.keeper.state.position.steps) same starts) each
lines_fail (Some b) (Some a) steps g f new outcomes known stand own long given each (fault.Steps number) starts = absurd starts
lines_fail (Some b) (Some a) steps g f new outcomes known stand own long given each fault.Full starts = absurd starts
lines_fail (Some b) (Some a) steps g f new outcomes known stand own long given each fault.Disk starts = absurd starts
lines_fail (Some b) (Some a) steps g f new outcomes known stand own long given each (fault.Damaged place at) starts = absurd starts
lines_fail (Some b) (Some a) steps g f new outcomes known stand own long given each (fault.OtherMe other) starts = absurd starts
lines_fail (Some b) (Some a) steps g f new outcomes known stand own long given each fault.Memory starts = absurd starts

-- what it was passed over to
pub record LinesBegun (f : Following) (steps : Bytes) (left : Option Bytes) : Type 0 where
  pub within : f.keeper.state.position.steps ≤ length steps
  pub rest : Bytes
  pub left_is : left ≡ Some rest
  pub ahead : lines_ahead f rest ≡ lines_left f.keeper.state.position steps
  pub place : f.lines.place ≡ f.keeper.state.position.steps
  pub stands : (files : Files) → files.steps ≡ steps → StandsInSteps files f rest

pub lines_begun : (l m : Option Bytes) (steps : Bytes) (f new : Following) → l ≡ Some steps → new.keeper ≡ f.keeper → IfKnown l m (λ before after. StartsLines (Ok tt) f before new after) → LinesBegun new steps m
lines_begun None m steps f new known same starts = absurd cc
lines_begun (Some b) None steps f new known same starts = absurd starts
lines_begun (Some b) (Some a) steps f new known same starts =
    let alike : b ≡ steps = cc in record {
      within = subst (λ (x : Bytes). new.keeper.state.position.steps ≤ length x) alike (subst (λ (k : Keeping). k.state.position.steps ≤ length b) (sym same) starts.within);
      rest = a;
      left_is = refl;
      ahead = starts.ahead ∙ (λ i. lines_left (sym same i).state.position (alike i));
      place = starts.place ∙ ap (λ (k : Keeping). k.state.position.steps) (sym same);
      stands = λ files is. starts.stands files (is ∙ sym alike);
    }

-- both files were passed over
pub record BothBegun (g : Given) (f : Following) (rest left : Bytes) (seen : Option Places) : Type 0 where
  pub stand_is : g.stand ≡ Ok f.keeper.state
  pub own : f.keeper.state.mailbox.me ≡ g.me
  pub traced : unfit g f.keeper.state ≡ option_map refusal.OtherFiles (other_of f.keeper.state.position g.mbox g.steps)
  pub passed : IsPassedOver g.mbox g.steps f
  pub mbox_stands : StandsInMbox (files_of g.mbox g.steps) f rest
  pub steps_stand : StandsInSteps (files_of g.mbox g.steps) f left
  pub changes_are : changes g f.keeper.state ≡ to_come (files_of g.mbox g.steps) g.moment f rest (Some left)
  pub known : IsKnown seen (IsState f.keeper.state)

pub both_begun : (me : Bytes) (at : Option ℕ) (bytes lines : Bytes) (places : Places) (next : ℕ) (l j : Option Bytes) (seen : Option Places) (f new : Following) (b : Begun me bytes (stands me places) f l seen)
    (c : LinesBegun new lines j) → new.keeper ≡ f.keeper → new.mbox ≡ f.mbox → BothBegun (given_of me at (steps_found bytes lines places next)) new b.rest c.rest seen
both_begun me at bytes lines places next l j seen f new b c same reader =
    let g = given_of me at (steps_found bytes lines places next) in
    let files = files_of bytes (Some lines) in
    let stands = mbox_stands_as files f new b.rest reader (b.mbox_stands files refl) in
    let lines_stand = c.stands files refl in
    let own : new.keeper.state.mailbox.me ≡ me = ap (λ (k : Keeping). k.state.mailbox.me) same ∙ b.own in
    let long : new.keeper.state.position.mbox ≤ length bytes = subst (λ (k : Keeping). k.state.position.mbox ≤ length bytes) (sym same) b.within in
    let ahead : mails_ahead new b.rest ≡ mails_left new.keeper.state.position bytes =
    ap (λ (r : Reading). mails_from (position r) (r.held ++ b.rest)) reader ∙ b.ahead ∙ ap (λ (k : Keeping). mails_left k.state.position bytes) (sym same) in
    record {
      stand_is = b.stand_is ∙ ap (λ (k : Keeping). Ok k.state) (sym same);
      own = own;
      traced = traced_both g new.keeper.state own lines long refl c.within;
      passed = record {
        mbox_stands = subst (λ (n : ℕ). StandsFor new.mbox.trace (take n bytes)) (ap (λ (r : Reading). r.place) reader ∙ b.place ∙ ap (λ (k : Keeping). k.state.position.mbox) (sym same)) stands.traced.trace;
        steps_stand = subst (λ (n : ℕ). StandsFor new.lines.trace (take n lines)) c.place lines_stand.traced.trace;
      };
      mbox_stands = stands;
      steps_stand = lines_stand;
      changes_are = λ i. coming files at new.keeper.state (sym ahead i) (Some (sym c.ahead i));
      known = subst (λ (k : Keeping). IsKnown seen (IsState k.state)) (sym same) (own_state me f.keeper.state seen b.own b.known);
    }

-- the inputs are the same
pub fits_same : (g : Given) (s : State) → unfit g s ≡ option_map refusal.OtherFiles (other_of s.position g.mbox g.steps) → other_of s.position g.mbox g.steps ≡ None → unfit g s ≡ None
fits_same g s traced same = traced ∙ ap (option_map refusal.OtherFiles) same

-- the mbox alone was passed over
pub passed_alone : (me bytes : Bytes) (stand : Result State (Place × ℕ)) (f : Following) (left : Option Bytes) (seen : Option Places) → Begun me bytes stand f left seen → IsPassedOver bytes None f
passed_alone me bytes stand f left seen b = record {
  mbox_stands = subst (λ (n : ℕ). StandsFor f.mbox.trace (take n bytes)) b.place (b.mbox_stands (files_of bytes None) refl).traced.trace;
  steps_stand = tt;
}
