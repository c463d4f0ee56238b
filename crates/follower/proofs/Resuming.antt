-- A run that goes on where another one was stopped.
use Rattle.std.proofs.Common.{◌≡◌, ◌⊎◌, inl, inr, ℕ, ◌+◌, ◌≤◌, Bool, true, false, ◌||◌, max, List, [], ◌∷◌, Option, Some, None, refl, sym, ap, subst, ◌∙◌, arith}
use Rattle.std.proofs.lemmas.Bool.{cases_Bool, cases_eq, eq-eqb, ne_eqb}
use Rattle.mboxrd.specs.Mails.{Mail}
use Rattle.mailbox_model.specs.declared.change.Change.{Change}
use Rattle.mailbox_model.specs.declared.change.Change.TheVariants.{Arrive, ArriveFault, Expunge, Seen, At}
use Rattle.mailbox_model.specs.Lists.{Bytes}
use Rattle.mailbox_model.specs.Mailbox.{Mailbox, after, full}
use Rattle.state_image.specs.declared.position.Position.{Position}
use Rattle.state_store.specs.States.{State, max_changes}
use Rattle.keeper.specs.Keeping.{is_refused}
use Rattle.arrivals.specs.Arrivals.{arrival_of}
use Rattle.follower.specs.Feed.{Fed, Feed, Files, End, after_fed, counted, ends, fed_first, feed, files_of, mail_fed, mails_fed, mails_left, moment_fed}
use Rattle.follower.specs.Going.{AreMade, Leads, after_feds, fed_all}
use Rattle.follower.specs.Reached.{Reached, Full, reached}
use Rattle.follower.specs.Inputs.{AreSame}
use Rattle.follower.specs.Resuming.{ChangesGoOn, CountsOn, LiesWithin, MboxGrows, ReachSame, StepsGrow}
use Rattle.follower.proofs.Going.{made}
use Rattle.follower.proofs.NextChange.{ComesLast, Follows, ahead, first_is, next_follows, no_first}

-- ---- runs that reach the same

-- what equals runs that reach the same
between : (a b c d : Reached) → a ≡ b → ReachSame b c → d ≡ c → ReachSame a d
between a b c d e same f = record {
  stop = ap (λ (r : Reached). r.stop) e ∙ same.stop ∙ sym (ap (λ (r : Reached). r.stop) f);
  mailbox = ap (λ (r : Reached). r.state.mailbox) e ∙ same.mailbox ∙ sym (ap (λ (r : Reached). r.state.mailbox) f);
}

-- ---- counts

full_at : (s : State) (f : Fed) (others : Feed) → is_refused s f.change ≡ true → reached s (fed_first f others) ≡ record { state = s; stop = Some Full }
full_at s f others refused = rw refused refl

-- where no change is met with a count at its end, one is refused where it is full
room_counts : (s : State) (f : Fed) (others : Feed) → CountsOn (reached s (fed_first f others)) → is_refused s f.change ≡ full s.mailbox f.change
room_counts s f others on = elim (cases_eq s.position.count max_changes) [
  | inl end ↦
      let stops = full_at s f others (rw (eq-eqb s.position.count max_changes end) refl) in
      absurd (on (ap (λ (r : Reached). r.stop) stops) (ap (λ (r : Reached). r.state.position.count) stops ∙ end))
  | inr other ↦ ap (λ (b : Bool). b || full s.mailbox f.change) (ne_eqb s.position.count max_changes other)
]

-- mails that are counted from elsewhere
same_mails : (files : Files) (m : Mailbox) (p q : Position) (uid : ℕ) (mails : List Mail)
    → CountsOn (reached (record { mailbox = m; position = p }) (mails_fed files uid p mails)) → CountsOn (reached (record { mailbox = m; position = q }) (mails_fed files uid q mails))
    → ReachSame (reached (record { mailbox = m; position = p }) (mails_fed files uid p mails)) (reached (record { mailbox = m; position = q }) (mails_fed files uid q mails))
same_mails files m p q uid [] on_p on_q = record { stop = refl; mailbox = refl }
same_mails files m p q uid (mail ∷ mails) on_p on_q =
    let s : State = record { mailbox = m; position = p } in
    let t : State = record { mailbox = m; position = q } in
    let f = mail_fed files uid p mail in
    let g = mail_fed files uid q mail in
    let fs = mails_fed files (uid + 1) f.position mails in
    let gs = mails_fed files (uid + 1) g.position mails in
    let full_s = room_counts s f fs on_p in
    let full_t = room_counts t g gs on_q in
    elim (cases_Bool (full m (arrival_of uid mail))) [
      | inl h ↦
          between (reached s (fed_first f fs)) (record { state = s; stop = Some Full }) (record { state = t; stop = Some Full }) (reached t (fed_first g gs))
          (full_at s f fs (full_s ∙ h)) (record { stop = refl; mailbox = refl }) (full_at t g gs (full_t ∙ h))
      | inr h ↦
          let a = made s f fs (full_s ∙ h) in
          let b = made t g gs (full_t ∙ h) in
          between (reached s (fed_first f fs)) (reached (after_fed s f) fs) (reached (after_fed t g) gs) (reached t (fed_first g gs))
          a (same_mails files (after m f.change) f.position g.position (uid + 1) mails (subst CountsOn a on_p) (subst CountsOn b on_q)) b
    ]

-- ---- moments

moment_rises : (m : Mailbox) (change : Change) → m.now ≤ (after m change).now
moment_rises m (Arrive card) = omega arith
moment_rises m (ArriveFault fault) = omega arith
moment_rises m (Expunge uid) = omega arith
moment_rises m (Seen uid) = omega arith
moment_rises m (At moment) = omega arith

moments_rise : (s : State) (done : List Fed) → s.mailbox.now ≤ (after_feds s done).mailbox.now
moments_rise s [] = omega arith
moments_rise s (f ∷ fs) = omega (arith, moment_rises s.mailbox f.change, moments_rise (after_fed s f) fs)

-- a moment that has passed changes nothing
passed : (m : Mailbox) (moment : ℕ) → moment ≤ m.now → after m (At moment) ≡ m
passed m moment past = ap (λ (now : ℕ). record m { now = now }) (let e : max m.now moment ≡ m.now = omega (arith, past) in e)

-- a mailbox has room for each moment
moment_made : (s : State) (moment : ℕ) (others : Feed) → CountsOn (reached s (fed_first (moment_fed s.position moment) others))
    → reached s (fed_first (moment_fed s.position moment) others) ≡ reached (after_fed s (moment_fed s.position moment)) others
moment_made s moment others on = let f = moment_fed s.position moment in made s f others (room_counts s f others on)

-- ---- after the changes that were made

-- from the state after them come the changes that are left
record GoesOn (last : Option ℕ) (s t : State) (mbox longer : Bytes) (steps more : Option Bytes) : Type 0 where
  same : reached s (ahead last s longer more) ≡ reached t (ahead last t longer more)
  within : LiesWithin t.position mbox steps
  inputs : AreSame s.position mbox steps → AreSame t.position mbox steps

-- They were all, and the last one was the moment that comes last. From the state after it comes the same moment.
record AllWere (last : Option ℕ) (s t : State) (mbox longer : Bytes) (steps more : Option Bytes) : Type 0 where
  moment : ℕ
  comes : last ≡ Some moment
  all : reached s (ahead last s longer more) ≡ record { state = t; stop = None }
  again : ahead last t longer more ≡ fed_first (moment_fed t.position moment) (ends End)
  past : moment ≤ t.mailbox.now
  within : LiesWithin t.position mbox steps
  inputs : AreSame s.position mbox steps → AreSame t.position mbox steps

module _ (last : Option ℕ) (mbox longer : Bytes) (steps more : Option Bytes) (grows : MboxGrows mbox longer) (grown : StepsGrow steps more last) where
  abbrev Goes : State → State → Type 0
  Goes s t = GoesOn last s t mbox longer steps more ⊎ AllWere last s t mbox longer steps more

  -- one change before
  one_before : (s t : State) (f : Fed) (others : Feed) → is_refused s f.change ≡ false → Follows last s f others mbox longer steps more → Goes (after_fed s f) t → Goes s t
  one_before s t f others room h (inl g) = inl (record { same = ap (reached s) h.now ∙ made s f (ahead last (after_fed s f) longer more) room ∙ g.same; within = g.within; inputs = λ same. g.inputs (h.inputs same) })
  one_before s t f others room h (inr g) = inr (record {
    moment = g.moment;
    comes = g.comes;
    all = ap (reached s) h.now ∙ made s f (ahead last (after_fed s f) longer more) room ∙ g.all;
    again = g.again;
    past = g.past;
    within = g.within;
    inputs = λ same. g.inputs (h.inputs same);
  })

  -- the moment that comes last, and nothing after it
  at_last : (s : State) (f : Fed) (fs : List Fed) (others : Feed) → is_refused s f.change ≡ false → ComesLast last s f (fed_all fs others) mbox longer steps more → Goes s (after_feds s (f ∷ fs))
  at_last s f [] others room h = inr (record {
    moment = h.moment;
    comes = h.comes;
    all = ap (reached s) h.now ∙ made s f (ends End) room;
    again = h.again;
    past = subst (λ (x : Fed). h.moment ≤ (after_fed s x).mailbox.now) h.is (let e : h.moment ≤ max s.mailbox.now h.moment = omega arith in e);
    within = h.within;
    inputs = h.inputs;
  })
  at_last s f (g ∷ fs) others room h = absurd (no_first End g (fed_all fs others) h.none)

  all_go : (done : List Fed) (s : State) (others : Feed) → LiesWithin s.position mbox steps → ahead last s mbox steps ≡ fed_all done others → AreMade s done → Goes s (after_feds s done)
  all_go [] s others within e all_made = inl (record { same = refl; within = within; inputs = λ same. same })
  all_go (f ∷ fs) s others within e all_made = elim (next_follows last s f (fed_all fs others) mbox longer steps more grows grown within e) [
    | inl h ↦ one_before s (after_feds s (f ∷ fs)) f (fed_all fs others) all_made.0 h (all_go fs (after_fed s f) others h.within h.before all_made.1)
    | inr h ↦ at_last s f fs others all_made.0 h
  ]

-- where a run that comes to one feed comes to another one over the files as they are now
abbrev pub Comes : State → State → Bytes → Bytes → Option Bytes → Feed → Feed → Type 0
Comes s t mbox longer steps from_t from_s =
    LiesWithin t.position mbox steps × (AreSame s.position mbox steps → AreSame t.position mbox steps) × ReachSame (reached t from_t) (reached s from_s)

-- the moment that comes last may come twice
comes_last : (last : Option ℕ) (mbox longer : Bytes) (steps more : Option Bytes) (s t : State) → CountsOn (reached t (ahead last t longer more))
    → GoesOn last s t mbox longer steps more ⊎ AllWere last s t mbox longer steps more → Comes s t mbox longer steps (ahead last t longer more) (ahead last s longer more)
comes_last last mbox longer steps more s t on (inl g) =
    let there = reached t (ahead last t longer more) in
    (g.within, g.inputs, between there there there (reached s (ahead last s longer more)) refl (record { stop = refl; mailbox = refl }) g.same)
comes_last last mbox longer steps more s t on (inr g) =
    let after_it : State = after_fed t (moment_fed t.position g.moment) in
    let once : reached t (ahead last t longer more) ≡ record { state = after_it; stop = None } =
    ap (reached t) g.again ∙ moment_made t g.moment (ends End) (subst (λ (feed : Feed). CountsOn (reached t feed)) g.again on) in (
      g.within,
      g.inputs,
      between (reached t (ahead last t longer more)) (record { state = after_it; stop = None }) (record { state = t; stop = None }) (reached s (ahead last s longer more))
          once (record { stop = refl; mailbox = passed t.mailbox g.moment g.past }) g.all,
    )

-- ---- a run without a steps file: its moment comes first

module _ (mbox longer : Bytes) (grows : MboxGrows mbox longer) (moment : ℕ) (s : State) (within : LiesWithin s.position mbox None) where
  abbrev from_here : State → Feed
  from_here t = feed t longer None (Some moment)

  abbrev first : Fed
  first = moment_fed s.position moment

  -- the second time the moment has passed
  twice : (t : State) → GoesOn None (after_fed s first) t mbox longer None None → moment ≤ t.mailbox.now
      → CountsOn (reached s (from_here s)) → CountsOn (reached t (from_here t)) → Comes s t mbox longer None (from_here t) (from_here s)
  twice t g past on_s on_t =
      let mails = mails_left t.position longer in
      let uid = t.mailbox.next_uid in
      let second = moment_fed t.position moment in
      let again : State = record { mailbox = t.mailbox; position = counted t.position } in
      let one : reached s (from_here s) ≡ reached t (mails_fed (files_of longer None) uid t.position mails) =
      moment_made s moment (ahead None (after_fed s first) longer None) on_s ∙ g.same in
      let two : reached t (from_here t) ≡ reached again (mails_fed (files_of longer None) uid (counted t.position) mails) =
      moment_made t moment (ahead None (after_fed t second) longer None) on_t
      ∙ ap (λ (m : Mailbox). reached (record { mailbox = m; position = counted t.position }) (mails_fed (files_of longer None) m.next_uid (counted t.position) mails)) (passed t.mailbox moment past) in (
        g.within,
        g.inputs,
        between (reached t (from_here t)) (reached again (mails_fed (files_of longer None) uid (counted t.position) mails)) (reached t (mails_fed (files_of longer None) uid t.position mails)) (reached s (from_here s))
            two (same_mails (files_of longer None) t.mailbox (counted t.position) t.position uid mails (subst CountsOn two on_t) (subst CountsOn one on_s)) one,
      )

  after_first : (fs : List Fed) (others : Feed) → ahead None (after_fed s first) mbox None ≡ fed_all fs others → AreMade (after_fed s first) fs
      → CountsOn (reached s (from_here s)) → CountsOn (reached (after_feds s (first ∷ fs)) (from_here (after_feds s (first ∷ fs))))
      → Comes s (after_feds s (first ∷ fs)) mbox longer None (from_here (after_feds s (first ∷ fs))) (from_here s)
  after_first fs others e all_made on_s on_t =
      let t = after_feds s (first ∷ fs) in
      let begun : moment ≤ (after_fed s first).mailbox.now = omega arith in
      let past : moment ≤ t.mailbox.now = omega (arith, begun, moments_rise (after_fed s first) fs) in
      elim (all_go None mbox longer None None grows tt fs (after_fed s first) others within e all_made) [
        | inl g ↦ twice t g past on_s on_t
        | inr g ↦ absurd (let h = g.comes in cc)
      ]

  comes_first : (done : List Fed) (others : Feed) → feed s mbox None (Some moment) ≡ fed_all done others → AreMade s done
      → CountsOn (reached s (from_here s)) → CountsOn (reached (after_feds s done) (from_here (after_feds s done)))
      → Comes s (after_feds s done) mbox longer None (from_here (after_feds s done)) (from_here s)
  comes_first [] others e all_made on_s on_t = (within, (λ same. same), record { stop = refl; mailbox = refl })
  comes_first (f ∷ fs) others e all_made on_s on_t =
      let h = first_is first f (ahead None (after_fed s first) mbox None) (fed_all fs others) e in
      subst (λ (x : Fed). AreMade (after_fed s x) fs → CountsOn (reached (after_feds s (x ∷ fs)) (from_here (after_feds s (x ∷ fs))))
      → Comes s (after_feds s (x ∷ fs)) mbox longer None (from_here (after_feds s (x ∷ fs))) (from_here s)) h.0
      (λ are_made on. after_first fs others h.1 are_made on_s on) all_made.1 on_t

-- ---- all runs

all_come : (s : State) (mbox longer : Bytes) (steps more : Option Bytes) (moment : Option ℕ) (done : List Fed) (others : Feed)
    → MboxGrows mbox longer → StepsGrow steps more moment → LiesWithin s.position mbox steps → feed s mbox steps moment ≡ fed_all done others → AreMade s done
    → CountsOn (reached s (feed s longer more moment)) → CountsOn (reached (after_feds s done) (feed (after_feds s done) longer more moment))
    → Comes s (after_feds s done) mbox longer steps (feed (after_feds s done) longer more moment) (feed s longer more moment)
all_come s mbox longer None None None done others grows grown within e all_made on_s on_t =
    comes_last None mbox longer None None s (after_feds s done) on_t (all_go None mbox longer None None grows tt done s others within e all_made)
all_come s mbox longer None None (Some moment) done others grows grown within e all_made on_s on_t =
    comes_first mbox longer grows moment s within done others e all_made on_s on_t
all_come s mbox longer (Some steps) (Some more) moment done others grows grown within e all_made on_s on_t =
    comes_last moment mbox longer (Some steps) (Some more) s (after_feds s done) on_t
    (all_go moment mbox longer (Some steps) (Some more) grows grown done s others within e all_made)
all_come s mbox longer None (Some more) moment done others grows grown within e all_made on_s on_t = absurd grown
all_come s mbox longer (Some steps) None moment done others grows grown within e all_made on_s on_t = absurd grown

-- the second run begins within the files, and reaches the same
pub goes_on : (s t : State) (mbox longer : Bytes) (steps more : Option Bytes) (moment : Option ℕ) (others : Feed)
    → MboxGrows mbox longer → StepsGrow steps more moment → LiesWithin s.position mbox steps → Leads s (feed s mbox steps moment) t others
    → CountsOn (reached s (feed s longer more moment)) → CountsOn (reached t (feed t longer more moment))
    → Comes s t mbox longer steps (feed t longer more moment) (feed s longer more moment)
goes_on s t mbox longer steps more moment others grows grown within leads on_s on_t =
    subst (λ (t : State). CountsOn (reached t (feed t longer more moment)) → Comes s t mbox longer steps (feed t longer more moment) (feed s longer more moment)) (sym leads.state)
    (λ on. all_come s mbox longer steps more moment leads.done others grows grown within leads.first leads.made on_s on) on_t

pub changes_go_on : ChangesGoOn
changes_go_on s t mbox longer steps more moment others grows grown within leads on_s on_t =
    (goes_on s t mbox longer steps more moment others grows grown within leads on_s on_t).2
