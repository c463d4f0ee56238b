-- What every history of a shelf in memory has: what a read gives is a crash outcome, and so is what each crash leaves;
-- and the laws of the clock.
use Rattle.std.proofs.Common.{◌≡◌, ℕ, ◌+◌, ◌≤◌, min, max, List, [], ◌∷◌, ◌++◌, length, take, drop, replicate, refl, sym, ◌∙◌, ap, subst, arith, length-append, length-take, length-drop}
use Rattle.std.proofs.lemmas.List.{take_at, drop_at, take_all, length-replicate, take_min, take-append-le}
use Rattle.outside.specs.Places.{Places}
use Rattle.outside.specs.Crash.{Torn, PartlyCut}
use Rattle.outside.specs.Unsynced.{Leaves}
use Rattle.outside.proofs.Moments.{torn_same, cut_same}
use Rattle.outside.specs.declared.shelf.Place.{Place}
use Rattle.outside.specs.declared.shelf.Place.TheVariants.{A, B, T}
use Rattle.shelves.specs.declared.event.Event.{Event}
use Rattle.shelves.specs.declared.event.What.{What}
use Rattle.shelves.specs.declared.event.What.TheVariants as what
use Rattle.shelves.specs.History.{over, ones_over, Content, at_first, changed, Disk, on, after, reads, MayLeave, disk_at_first, LeftSince}

-- a write that is done
torn_over : (at : ℕ) (bytes old : List ℕ) → at ≤ length old → Torn at (length bytes) old (over at bytes old)
torn_over at bytes old le =
    let front : length (take at old) ≡ at = omega (arith, length-take at old) in
    let both : length (take at old ++ bytes) ≡ at + length bytes = omega (arith, length-append (take at old) bytes, front) in
    let fits : at ≤ length (take at old ++ bytes) = omega (arith, both) in
    let whole : length (over at bytes old) ≡ at + length bytes + length (drop (at + length bytes) old) = omega (arith, length-append (take at old ++ bytes) (drop (at + length bytes) old), both) in
    record {
      before = take-append-le at (take at old ++ bytes) (drop (at + length bytes) old) fits ∙ take_at (take at old) bytes at front;
      after = drop_at (take at old ++ bytes) (drop (at + length bytes) old) (at + length bytes) both;
      no_shorter = omega (arith, whole, length-drop (at + length bytes) old);
      no_longer = omega (arith, whole, length-drop (at + length bytes) old);
    }

torn_ones : (at n : ℕ) (old : List ℕ) → at ≤ length old → Torn at n old (ones_over at n old)
torn_ones at n old le =
    subst (λ (k : ℕ). Torn at k old (take at old ++ replicate n 1 ++ drop (at + k) old)) (length-replicate {A = ℕ} n 1) (torn_over at (replicate n 1) old le)

-- a cut that is done
cut_done : (n : ℕ) (old : List ℕ) → PartlyCut (min n (length old)) old (take n old)
cut_done n old =
    record {
      no_longer = omega (arith, length-take n old);
      no_shorter = omega (arith, length-take n old);
      front = ap (λ (k : ℕ). take k old) (length-take n old) ∙ take_min n old;
    }

-- what every place has after any events
pub record IsSound (f : Content) : Type 0 where
  pub now : Leaves f.synced f.calls f.now
  pub synced : Leaves f.synced f.calls f.synced
  pub ones : Leaves f.synced f.calls f.ones
  pub long : length f.now ≤ length f.ones

sound_at_first : (bytes : List ℕ) → IsSound (at_first bytes)
sound_at_first bytes = record { now = refl; synced = refl; ones = refl; long = omega arith }

pub length-over : (at : ℕ) (bytes old : List ℕ) → at ≤ length old → length (over at bytes old) ≡ max (length old) (at + length bytes)
length-over at bytes old le =
    omega (arith, length-append (take at old ++ bytes) (drop (at + length bytes) old), length-append (take at old) bytes, length-take at old, length-drop (at + length bytes) old)

long_ones : (at n : ℕ) (old : List ℕ) → at ≤ length old → at + n ≤ length (ones_over at n old)
long_ones at n old le = omega (arith, length-append (take at old ++ replicate n 1) (drop (at + n) old), length-append (take at old) (replicate n 1), length-take at old, length-replicate {A = ℕ} n 1)

sound_changed : (w : What) (f : Content) → IsSound f → IsSound (changed w f)
sound_changed (what.Wrote at v) f s =
    let start = min at (length f.now) in
    let le : start ≤ length f.now = omega arith in
    let le_ones : start ≤ length f.ones = omega (arith, s.long) in
    let ones = torn_ones start (length v.items) f.ones le_ones in
    record {
      now = (f.now, s.now, torn_over start v.items f.now le);
      synced = (f.synced, s.synced, torn_same start (length v.items) f.synced);
      ones = (f.ones, s.ones, ones);
      long = omega (arith, length-over start v.items f.now le, ones.no_shorter, s.long, long_ones start (length v.items) f.ones le_ones);
    }
sound_changed (what.Cut n) f s =
    record {
      now = (f.now, s.now, cut_done n f.now);
      synced = (f.synced, s.synced, cut_same (min n (length f.now)) f.synced);
      ones = (f.ones, s.ones, cut_same (min n (length f.now)) f.ones);
      long = omega (arith, length-take n f.now, s.long);
    }
sound_changed what.Synced f s = record { now = refl; synced = refl; ones = refl; long = omega arith }

pub record AreSound (d : Disk) : Type 0 where
  pub a : IsSound d.a
  pub b : IsSound d.b
  pub t : IsSound d.t

sound_on : (place : Place) (w : What) (d : Disk) → AreSound d → AreSound (on place (changed w) d)
sound_on A w d s = record { a = sound_changed w d.a s.a; b = s.b; t = s.t }
sound_on B w d s = record { a = s.a; b = sound_changed w d.b s.b; t = s.t }
sound_on T w d s = record { a = s.a; b = s.b; t = sound_changed w d.t s.t }

sound_after : (d : Disk) (es : List Event) → AreSound d → AreSound (after d es)
sound_after d [] s = s
sound_after d (e ∷ es) s = sound_after (on e.place (changed e.what) d) es (sound_on e.place e.what d s)

pub sound : (first : Places) (es : List Event) → AreSound (after (disk_at_first first) es)
sound first es = sound_after (disk_at_first first) es (record { a = sound_at_first first.a; b = sound_at_first first.b; t = sound_at_first first.t })

-- what a read gives is an outcome
pub is_outcome : (first : Places) (es : List Event) → MayLeave (after (disk_at_first first) es) (reads (after (disk_at_first first) es))
is_outcome first es = let s = sound first es in (s.a.now, s.b.now, s.t.now)

pub counts_now : (first : Disk) (es : List Event) (t : ℕ) (c : Places) → t ≤ length es → MayLeave (after first es) c → LeftSince first es t c
counts_now first es t c le now = (length es, le, omega arith, subst (λ (l : List Event). MayLeave (after first l) c) (sym (take_all (length es) es (omega arith))) now)

pub only_now : (first : Disk) (es : List Event) (c : Places) → LeftSince first es (length es) c → MayLeave (after first es) c
only_now first es c left = subst (λ (l : List Event). MayLeave (after first l) c) (take_all left.0 es left.1) left.3
