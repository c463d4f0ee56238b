-- One event more.
use Rattle.std.proofs.Common.{◌≡◌, ℕ, ◌+◌, min, List, [], ◌∷◌, ◌++◌, length, take, refl, sym, ◌∙◌, ap, subst, arith}
use Rattle.outside.specs.Places.{content}
use Rattle.outside.specs.declared.shelf.Place.{Place}
use Rattle.outside.specs.declared.shelf.Place.TheVariants.{A, B, T}
use Rattle.shelves.specs.declared.file.File.{File}
use Rattle.shelves.specs.declared.files.Files.{Files}
use Rattle.shelves.specs.declared.event.Event.{Event}
use Rattle.shelves.specs.declared.event.What.{What}
use Rattle.shelves.specs.Files.{Writes, Cuts, Syncs}
use Rattle.shelves.specs.History.{over, ones_over, Content, changed, written, cut_to, synced_now, Disk, on, after, reads, bytes_of, bytes_written}
use Rattle.shelves.specs.Kept.{Same, AreKept, OneChanges, file_at}

after_last : (d : Disk) (es : List Event) (e : Event) → after d (es ++ e ∷ []) ≡ on e.place (changed e.what) (after d es)
after_last d [] e = refl
after_last d (x ∷ es) e = after_last (on x.place (changed x.what) d) es e

written_last : (es : List Event) (e : Event) → bytes_written (es ++ e ∷ []) ≡ bytes_written es + bytes_of e.what
written_last [] e = omega arith
written_last (x ∷ es) e = omega (arith, written_last es e)

-- the bytes kept are those that a read gives
pub same_bytes : (place : Place) (d : Disk) (files : Files) → AreKept d files → (file_at place files).bytes.items ≡ content (reads d) place
same_bytes A d files k = k.a.now
same_bytes B d files k = k.b.now
same_bytes T d files k = k.t.now

kept_on : (place : Place) (change : Content → Content) (P : File → File → Type 0) (d : Disk) (old new : Files)
    → ((c : Content) (f g : File) → Same c f → P f g → Same (change c) g) → OneChanges place P old new → AreKept d old → AreKept (on place change d) new
kept_on A change P d old new step h k = record { a = step d.a old.a new.a k.a h.0; b = subst (Same d.b) (sym h.1) k.b; t = subst (Same d.t) (sym h.2) k.t }
kept_on B change P d old new step h k = record { a = subst (Same d.a) (sym h.0) k.a; b = step d.b old.b new.b k.b h.1; t = subst (Same d.t) (sym h.2) k.t }
kept_on T change P d old new step h k = record { a = subst (Same d.a) (sym h.0) k.a; b = subst (Same d.b) (sym h.1) k.b; t = step d.t old.t new.t k.t h.2 }

pub writes : (at : ℕ) (bytes : List ℕ) (c : Content) (f g : File) → Same c f → Writes at bytes f g → Same (written at bytes c) g
writes at bytes c f g s w =
    let start : at ≡ min at (length c.now) = omega (arith, w.inside, ap length s.now) in
    record {
      now = w.now ∙ ap (over at bytes) s.now ∙ ap (λ (k : ℕ). over k bytes c.now) start;
      synced = w.synced ∙ s.synced;
      ones = w.ones ∙ ap (ones_over at (length bytes)) s.ones ∙ ap (λ (k : ℕ). ones_over k (length bytes) c.ones) start;
    }

pub cuts : (n : ℕ) (c : Content) (f g : File) → Same c f → Cuts n f g → Same (cut_to n c) g
cuts n c f g s w = record { now = w.now ∙ ap (take n) s.now; synced = w.synced ∙ s.synced; ones = w.ones ∙ s.ones }

pub syncs : (c : Content) (f g : File) → Same c f → Syncs f g → Same (synced_now c) g
syncs c f g s w = record { now = w.now ∙ s.now; synced = w.synced ∙ s.now; ones = w.ones ∙ s.now }

pub kept_last : (place : Place) (w : What) (P : File → File → Type 0) (first : Disk) (es es2 : List Event) (old new : Files)
    → ((c : Content) (f g : File) → Same c f → P f g → Same (changed w c) g) → OneChanges place P old new
    → es2 ≡ es ++ record { place = place; what = w } ∷ [] → AreKept (after first es) old → AreKept (after first es2) new
kept_last place w P first es es2 old new step h last k =
    subst (λ (d : Disk). AreKept d new) (sym (ap (after first) last ∙ after_last first es (record { place = place; what = w })))
    (kept_on place (changed w) P (after first es) old new step h k)

pub state_last : (place : Place) (w : What) (first : Disk) (es es2 : List Event) → es2 ≡ es ++ record { place = place; what = w } ∷ [] → after first es2 ≡ on place (changed w) (after first es)
state_last place w first es es2 last = ap (after first) last ∙ after_last first es (record { place = place; what = w })

pub count_last : (place : Place) (w : What) (es es2 : List Event) → es2 ≡ es ++ record { place = place; what = w } ∷ [] → bytes_written es2 ≡ bytes_written es + bytes_of w
count_last place w es es2 last = ap bytes_written last ∙ written_last es (record { place = place; what = w })
