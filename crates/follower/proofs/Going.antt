-- One turn after another.
use Rattle.std.proofs.Common.{◌≡◌, ◌⊎◌, inl, inr, ◌≤◌, ◌+◌, ◌∷◌, ◌++◌, ℕ, zero, suc, Bool, true, false, ◌||◌, List, [], length, take, Option, Result, Ok, Err, IfErr, arith, rules, refl, sym, ap, subst, ◌∙◌}
use Rattle.std.specs.Prelude.{◌==◌, IsErrOf}
use Rattle.std.proofs.lemmas.Bool.{eqb-true, false≢true}
use Rattle.outside.specs.Causes.{Rose}
use Rattle.mailbox_model.specs.declared.change.Change.{Change}
use Rattle.mailbox_model.specs.declared.change.Change.TheVariants.{At}
use Rattle.mailbox_model.specs.Mailbox.{Mailbox, after}
use Rattle.mboxrd.specs.Reading as mbox_reading
use Rattle.source_buffer.proofs.Taking.{BufferTakes_more, BufferTakes_none}
use Rattle.state_store.specs.States.{State, max_changes}
use Rattle.steps_file.specs.Reading as steps_reading
use Rattle.keeper.specs.Keeping.{is_refused}
use Rattle.follower.specs.declared.fault.Input.TheVariants.{Mbox, Steps}
use Rattle.follower.specs.declared.fault.RunFault.{RunFault}
use Rattle.follower.specs.declared.fault.RunFault.TheVariants as fault
use Rattle.follower.specs.Feed.{Fed, Feed, after_fed, fed_first}
use Rattle.follower.specs.Following.{Following, HasTaken, IsCause, IsFedFrom}
use Rattle.follower.specs.Going.{AreMade, Leads, after_feds, fed_all}
use Rattle.follower.specs.Reached.{count_made, reached}

-- ---- sources

pub rose_since : (a b c : ℕ) → a ≤ b → Rose b c → Rose a c
rose_since a b c le rose = omega (arith, le, rose)

pub mbox_takes : (l m n : Option (List ℕ)) (a b c : mbox_reading.Reading) → (bytes : List ℕ) × mbox_reading.Takes l m a b bytes → (bytes : List ℕ) × mbox_reading.Takes m n b c bytes
    → (bytes : List ℕ) × mbox_reading.Takes l n a c bytes
mbox_takes l m n a b c t u = (t.0 ++ u.0, BufferTakes_more l m n (mbox_reading.buffered a) (mbox_reading.buffered b) (mbox_reading.buffered c) t.0 u.0 t.1 u.1)

pub mbox_takes_none : (l : Option (List ℕ)) (a : mbox_reading.Reading) → (bytes : List ℕ) × mbox_reading.Takes l l a a bytes
mbox_takes_none l a = ([], BufferTakes_none l (mbox_reading.buffered a) (mbox_reading.buffered a) refl refl)

pub steps_takes : (l m n : Option (List ℕ)) (a b c : steps_reading.Reading) → (bytes : List ℕ) × steps_reading.Takes l m a b bytes → (bytes : List ℕ) × steps_reading.Takes m n b c bytes
    → (bytes : List ℕ) × steps_reading.Takes l n a c bytes
steps_takes l m n a b c t u = (t.0 ++ u.0, BufferTakes_more l m n (steps_reading.buffered a) (steps_reading.buffered b) (steps_reading.buffered c) t.0 u.0 t.1 u.1)

pub steps_takes_none : (l : Option (List ℕ)) (a : steps_reading.Reading) → (bytes : List ℕ) × steps_reading.Takes l l a a bytes
steps_takes_none l a = ([], BufferTakes_none l (steps_reading.buffered a) (steps_reading.buffered a) refl refl)

-- ---- changes

-- one change more
pub fed_more : (done : List Fed) (f : Fed) (others : Feed) → fed_all done (fed_first f others) ≡ fed_all (done ++ f ∷ []) others
fed_more [] f others = refl
fed_more (x ∷ xs) f others = ap (fed_first x) (fed_more xs f others)

pub made_more : (s : State) (done : List Fed) (f : Fed) → AreMade s done → is_refused (after_feds s done) f.change ≡ false → AreMade s (done ++ f ∷ [])
made_more s [] f made_all room = (room, tt)
made_more s (x ∷ xs) f made_all room = (made_all.0, made_more (after_fed s x) xs f made_all.1 room)

pub after_more : (s : State) (done : List Fed) (f : Fed) → after_fed (after_feds s done) f ≡ after_feds s (done ++ f ∷ [])
after_more s [] f = refl
after_more s (x ∷ xs) f = after_more (after_fed s x) xs f

-- ---- how far changes come

pub made : (s : State) (f : Fed) (rest : Feed) → is_refused s f.change ≡ false → reached s (fed_first f rest) ≡ reached (after_fed s f) rest
made s f rest room = rw room refl

pub all_reached : (s : State) (done : List Fed) (others : Feed) → AreMade s done → reached s (fed_all done others) ≡ reached (after_feds s done) others
all_reached s [] others made_all = refl
all_reached s (f ∷ fs) others made_all = made s f (fed_all fs others) made_all.0 ∙ all_reached (after_fed s f) fs others made_all.1

pub leads_reached : (a b : State) (f g : Feed) → Leads a f b g → reached a f ≡ reached b g
leads_reached a b f g leads = ap (reached a) leads.first ∙ all_reached a leads.done g leads.made ∙ ap (λ (s : State). reached s g) (sym leads.state)

-- so many changes are made
pub count_done : (s : State) (done others : List Fed) → AreMade s done → count_made s (done ++ others) ≡ length done + count_made (after_feds s done) others
count_done s [] others made_all = omega arith
count_done s (f ∷ fs) others made_all =
    let one : count_made s (f ∷ (fs ++ others)) ≡ count_made (after_fed s f) (fs ++ others) + 1 = rw made_all.0 refl in
    omega (arith, one, count_done (after_fed s f) fs others made_all.1)

pub all_changes : (done : List Fed) (others : Feed) → (fed_all done others).changes ≡ done ++ others.changes
all_changes [] others = refl
all_changes (f ∷ fs) others = ap (λ (rest : List Fed). f ∷ rest) (all_changes fs others)

pub made_take : (n : ℕ) (s : State) (fs : List Fed) → AreMade s fs → AreMade s (take n fs)
made_take zero s fs made_all = tt
made_take (suc n) s [] made_all = tt
made_take (suc n) s (f ∷ fs) made_all = (made_all.0, made_take n (after_fed s f) fs made_all.1)

-- the own address stays
pub same_me : (s : State) (done : List Fed) → (after_feds s done).mailbox.me ≡ s.mailbox.me
same_me s [] = refl
same_me s (f ∷ fs) = same_me (after_fed s f) fs ∙ one s.mailbox f.change
  where
    one : (m : Mailbox) (change : Change) → (after m change).me ≡ m.me
    one m change = search rules

-- ---- causes

pub cause_since : (P P' Q Q' R R' F F' : Type 0) (new : Following) (why : RunFault) → (P → P') → (Q → Q') → (R → R') → (F → F')
    → IsCause P Q R F new why → IsCause P' Q' R' F' new why
cause_since P P' Q Q' R R' F F' new (fault.Read Mbox) p q r f h = p h
cause_since P P' Q Q' R R' F F' new (fault.Read Steps) p q r f h = q h
cause_since P P' Q Q' R R' F F' new (fault.Endless Mbox) p q r f h = h
cause_since P P' Q Q' R R' F F' new (fault.Endless Steps) p q r f h = h
cause_since P P' Q Q' R R' F F' new fault.Disk p q r f h = r h
cause_since P P' Q Q' R R' F F' new (fault.Short Mbox) p q r f h = h
cause_since P P' Q Q' R R' F F' new (fault.Short Steps) p q r f h = h
cause_since P P' Q Q' R R' F F' new (fault.OtherFiles input) p q r f h = tt
cause_since P P' Q Q' R R' F F' new (fault.Steps number) p q r f h = h
cause_since P P' Q Q' R R' F F' new (fault.Damaged place at) p q r f h = tt
cause_since P P' Q Q' R R' F F' new (fault.OtherMe other) p q r f h = tt
cause_since P P' Q Q' R R' F F' new fault.Full p q r f h = f h
cause_since P P' Q Q' R R' F F' new fault.Memory p q r f h = tt

-- of a change that is refused, as a keeper or a follower tells it
pub full_caused : (P Q R F : Type 0) (new : Following) (why : RunFault) → (why ≡ fault.Full) ⊎ (why ≡ fault.Memory) → (why ≡ fault.Full → F) → IsCause P Q R F new why
full_caused P Q R F new why (inl full) f = subst (IsCause P Q R F new) (sym full) (f full)
full_caused P Q R F new why (inr memory) f = subst (IsCause P Q R F new) (sym memory) tt

-- a moment is refused only where as many changes were made as may be
pub moment_filled : (s : State) (moment : ℕ) → is_refused s (At moment) ≡ true → max_changes ≤ s.position.count
moment_filled s moment refused = by (s.position.count == max_changes) refl refused
  where
    by : (b : Bool) → (s.position.count == max_changes) ≡ b → (b || false) ≡ true → max_changes ≤ s.position.count
    by true e h = let is = eqb-true s.position.count max_changes e in omega (arith, is)
    by false e h = absurd (false≢true h)

-- a line was read, or the state is as it was
pub fed_on : (s : State) (mid new : Following) → mid.lines.taken ≤ new.lines.taken → IsFedFrom s mid → IsFedFrom mid.keeper.state new → IsFedFrom s new
fed_on s mid new more past (inl taken) = inl taken
fed_on s mid new more (inl taken) (inr same) = inl (omega (arith, taken, more))
fed_on s mid new more (inr past) (inr same) = inr (same ∙ past)

pub at_caused : {T : Type 0} (P Q R : Type 0) (s t : State) (new : Following) (moment : ℕ) (r : Result T RunFault) → t ≡ s → IfErr r (λ why. (why ≡ fault.Full) ⊎ (why ≡ fault.Memory))
    → (IsErrOf r fault.Full → is_refused t (At moment) ≡ true) → IfErr r (IsCause P Q R (max_changes ≤ s.position.count) new)
at_caused P Q R s t new moment (Ok x) same cause full = tt
at_caused P Q R s t new moment (Err why) same cause full =
    full_caused P Q R (max_changes ≤ s.position.count) new why cause
    (λ is. subst (λ (u : State). max_changes ≤ u.position.count) same (moment_filled t moment (full (ap Err is))))

-- a moment that comes after the lines
pub filled_since : (s : State) (mid new : Following) → new.lines ≡ mid.lines → IsFedFrom s mid → max_changes ≤ mid.keeper.state.position.count
    → HasTaken new ⊎ (max_changes ≤ s.position.count)
filled_since s mid new same (inl taken) full = inl (inr (subst (λ (r : steps_reading.Reading). 1 ≤ r.taken) (sym same) taken))
filled_since s mid new same (inr state) full = inr (subst (λ (t : State). max_changes ≤ t.position.count) state full)
