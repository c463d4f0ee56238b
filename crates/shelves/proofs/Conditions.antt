-- The calls since the last sync of each place met their conditions.
use Rattle.std.proofs.Common.{◌≡◌, ℕ, ◌≤◌, min, List, [], ◌∷◌, length, refl, arith, length-take}
use Rattle.outside.specs.Places.{Places}
use Rattle.outside.specs.Unsynced.{AreMet, size_now}
use Rattle.outside.specs.declared.shelf.Place.{Place}
use Rattle.outside.specs.declared.shelf.Place.TheVariants.{A, B, T}
use Rattle.shelves.specs.declared.event.Event.{Event}
use Rattle.shelves.specs.declared.event.What.{What}
use Rattle.shelves.specs.declared.event.What.TheVariants as what
use Rattle.shelves.specs.History.{Content, at_first, changed, Disk, on, after, disk_at_first}
use Rattle.shelves.specs.Laws.{length-over}

-- and led to the size of what a read gives
pub record IsMet (f : Content) : Type 0 where
  pub size : size_now (length f.synced) f.calls ≡ length f.now
  pub met : AreMet (length f.synced) f.calls

met_changed : (w : What) (f : Content) → IsMet f → IsMet (changed w f)
met_changed (what.Wrote at v) f m =
    let le : min at (length f.now) ≤ length f.now = omega arith in
    record {
      size = omega (arith, m.size, length-over (min at (length f.now)) v.items f.now le);
      met = (omega (arith, m.size), m.met);
    }
met_changed (what.Cut n) f m = record { size = omega (arith, length-take n f.now); met = (omega (arith, m.size), m.met) }
met_changed what.Synced f m = record { size = refl; met = tt }

pub record AreMetBy (d : Disk) : Type 0 where
  pub a : IsMet d.a
  pub b : IsMet d.b
  pub t : IsMet d.t

met_on : (place : Place) (w : What) (d : Disk) → AreMetBy d → AreMetBy (on place (changed w) d)
met_on A w d m = record { a = met_changed w d.a m.a; b = m.b; t = m.t }
met_on B w d m = record { a = m.a; b = met_changed w d.b m.b; t = m.t }
met_on T w d m = record { a = m.a; b = m.b; t = met_changed w d.t m.t }

met_after : (d : Disk) (es : List Event) → AreMetBy d → AreMetBy (after d es)
met_after d [] m = m
met_after d (e ∷ es) m = met_after (on e.place (changed e.what) d) es (met_on e.place e.what d m)

met_first : (bytes : List ℕ) → IsMet (at_first bytes)
met_first bytes = record { size = refl; met = tt }

pub are_met : (first : Places) (es : List Event) → AreMetBy (after (disk_at_first first) es)
are_met first es = met_after (disk_at_first first) es (record { a = met_first first.a; b = met_first first.b; t = met_first first.t })
