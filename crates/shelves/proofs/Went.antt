-- One event more, as the clock and the crash outcomes see it.
use Rattle.std.proofs.Common.{◌≡◌, inl, inr, ℕ, ◌≤◌, min, List, [], ◌∷◌, ◌++◌, length, refl, sym, subst, arith, length-append}
use Rattle.std.proofs.lemmas.List.{take_all, take-append-le}
use Rattle.std.proofs.lemmas.Bool.{cases_lt}
use Rattle.outside.specs.Places.{Places, content, Changes}
use Rattle.outside.specs.Crash.{Torn, PartlyCut, Follows, WasOutcome, Elapses}
use Rattle.outside.specs.Unsynced.{Leaves}
use Rattle.outside.specs.declared.shelf.Place.{Place}
use Rattle.outside.specs.declared.shelf.Place.TheVariants.{A, B, T}
use Rattle.shelves.specs.declared.event.Event.{Event}
use Rattle.shelves.specs.declared.disk.Disk as real
use Rattle.shelves.specs.declared.call.Crash.{Crash}
use Rattle.shelves.specs.declared.call.Crash.TheVariants.{Old, New, Ones}
use Rattle.shelves.specs.History.{Content, written, cut_to, synced_now, Disk, on, after, reads, MayLeave, LeftSince, disk_at_first, picked}
use Rattle.shelves.specs.Laws.{AreSound, sound}
use Rattle.shelves.specs.Disks.{first_of, state_of, left_of, left_since_of, moment_of, Went}

-- the moments of a history and of one with an event more
elapses_last : (first : Disk) (es : List Event) (e : Event) → Elapses (length es) (length (es ++ e ∷ [])) (LeftSince first es) (LeftSince first (es ++ e ∷ [])) (MayLeave (after first (es ++ e ∷ [])))
elapses_last first es e =
    record {
      later = omega (arith, length-append es (e ∷ []));
      nothing_else = λ t c le left. elim (cases_lt (length es) left.0) [
        | inl past ↦ inr (subst (λ (l : List Event). MayLeave (after first l) c) (take_all left.0 (es ++ e ∷ []) (omega (arith, past, length-append es (e ∷ [])))) left.3)
        | inr within ↦ inl (left.0, left.1, within, subst (λ (l : List Event). MayLeave (after first l) c) (take-append-le left.0 es (e ∷ []) within) left.3)
      ];
      keeps = λ t c le left. (left.0, left.1, omega (arith, left.2, length-append es (e ∷ [])), subst (λ (l : List Event). MayLeave (after first l) c) (sym (take-append-le left.0 es (e ∷ []) left.2)) left.3);
    }

pub went_clock : (place : Place) (change : Content → Content) (bytes : ℕ) (old new : real.Disk) → Went place change bytes old new → Elapses (moment_of old) (moment_of new) (left_since_of old) (left_since_of new) (left_of new)
went_clock place change bytes old new w =
    subst (λ (f : Places). Elapses (moment_of old) (moment_of new) (left_since_of old) (LeftSince (disk_at_first f) new.events.items) (MayLeave (after (disk_at_first f) new.events.items))) (sym w.first)
    (subst (λ (es : List Event). Elapses (moment_of old) (length es) (left_since_of old) (LeftSince (disk_at_first (first_of old)) es) (MayLeave (after (disk_at_first (first_of old)) es))) (sym w.events)
    (elapses_last (disk_at_first (first_of old)) old.events.items w.event))

write_follows : (place : Place) (d : Disk) (at : ℕ) (bytes : List ℕ) → at ≤ length (content (reads d) place) → Follows (Changes place (Torn at (length bytes))) (MayLeave d) (MayLeave (on place (written at bytes) d))
write_follows A d at bytes le c (m, mb, mt) =
    let start : min at (length d.a.now) ≡ at = omega arith in
    (record { a = m.0; b = c.b; t = c.t }, (m.1, mb, mt), (subst (λ (k : ℕ). Torn k (length bytes) m.0 c.a) start m.2, refl, refl))
write_follows B d at bytes le c (ma, m, mt) =
    let start : min at (length d.b.now) ≡ at = omega arith in
    (record { a = c.a; b = m.0; t = c.t }, (ma, m.1, mt), (refl, subst (λ (k : ℕ). Torn k (length bytes) m.0 c.b) start m.2, refl))
write_follows T d at bytes le c (ma, mb, m) =
    let start : min at (length d.t.now) ≡ at = omega arith in
    (record { a = c.a; b = c.b; t = m.0 }, (ma, mb, m.1), (refl, refl, subst (λ (k : ℕ). Torn k (length bytes) m.0 c.t) start m.2))

cut_follows : (place : Place) (d : Disk) (n : ℕ) → n ≤ length (content (reads d) place) → Follows (Changes place (PartlyCut n)) (MayLeave d) (MayLeave (on place (cut_to n) d))
cut_follows A d n le c (m, mb, mt) =
    let size : min n (length d.a.now) ≡ n = omega arith in
    (record { a = m.0; b = c.b; t = c.t }, (m.1, mb, mt), (subst (λ (k : ℕ). PartlyCut k m.0 c.a) size m.2, refl, refl))
cut_follows B d n le c (ma, m, mt) =
    let size : min n (length d.b.now) ≡ n = omega arith in
    (record { a = c.a; b = m.0; t = c.t }, (ma, m.1, mt), (refl, subst (λ (k : ℕ). PartlyCut k m.0 c.b) size m.2, refl))
cut_follows T d n le c (ma, mb, m) =
    let size : min n (length d.t.now) ≡ n = omega arith in
    (record { a = c.a; b = c.b; t = m.0 }, (ma, mb, m.1), (refl, refl, subst (λ (k : ℕ). PartlyCut k m.0 c.t) size m.2))

sync_leaves : (place : Place) (d : Disk) → AreSound d → WasOutcome (MayLeave d) (MayLeave (on place synced_now d))
sync_leaves A d s c (m, mb, mt) = (subst (λ l. Leaves d.a.synced d.a.calls l) (sym m) s.a.now, mb, mt)
sync_leaves B d s c (ma, m, mt) = (ma, subst (λ l. Leaves d.b.synced d.b.calls l) (sym m) s.b.now, mt)
sync_leaves T d s c (ma, mb, m) = (ma, mb, subst (λ l. Leaves d.t.synced d.t.calls l) (sym m) s.t.now)

pub went_write : (place : Place) (at : ℕ) (bytes : List ℕ) (n : ℕ) (old new : real.Disk) → at ≤ length (content (reads (state_of old)) place) → Went place (written at bytes) n old new → Follows (Changes place (Torn at (length bytes))) (left_of old) (left_of new)
went_write place at bytes n old new le w = subst (λ (d : Disk). Follows (Changes place (Torn at (length bytes))) (left_of old) (MayLeave d)) (sym w.state) (write_follows place (state_of old) at bytes le)

pub went_cut : (place : Place) (size : ℕ) (n : ℕ) (old new : real.Disk) → size ≤ length (content (reads (state_of old)) place) → Went place (cut_to size) n old new → Follows (Changes place (PartlyCut size)) (left_of old) (left_of new)
went_cut place size n old new le w = subst (λ (d : Disk). Follows (Changes place (PartlyCut size)) (left_of old) (MayLeave d)) (sym w.state) (cut_follows place (state_of old) size le)

pub went_sync : (place : Place) (n : ℕ) (old new : real.Disk) → Went place synced_now n old new → WasOutcome (left_of old) (left_of new)
went_sync place n old new w c left = sync_leaves place (state_of old) (sound (first_of old) old.events.items) c (subst (λ (d : Disk). MayLeave d c) w.state left)

-- what a crash leaves is an outcome
pub picked_leaves : (crash : Crash) (d : real.Disk) → left_of d (picked crash (state_of d))
picked_leaves Old d = let s = sound (first_of d) d.events.items in (s.a.synced, s.b.synced, s.t.synced)
picked_leaves New d = let s = sound (first_of d) d.events.items in (s.a.now, s.b.now, s.t.now)
picked_leaves Ones d = let s = sound (first_of d) d.events.items in (s.a.ones, s.b.ones, s.t.ones)
