use Rattle.std.proofs.Common.{◌≡◌, refl, sym, ◌∙◌, ap, subst, length, List, ℕ, ◌+◌}
use Rattle.shelves.specs.declared.event.What.TheVariants as what
use Rattle.shelves.specs.Files.{Writes}
use Rattle.shelves.specs.Kept.{OneChanges}
use Rattle.shelves.specs.History.{written, on, disk_at_first}
use Rattle.shelves.specs.Disks.{state_of, first_of, written_of}
use Rattle.shelves.proofs.Pushed.{kept_last, state_last, count_last, writes}
use Rattle.shelves.proofs.Rooms.{rooms_stay}
use Rattle.shelves.proofs.disk.Disk.write.Goals as goal

pub invariant_of-self-clause-are_kept : goal.invariant_of-self-clause-are_kept
invariant_of-self-clause-are_kept c =
    let s = c.args.self.now in
    let copy = c.copied-copy.result in
    let done = subst (λ (l : List ℕ). OneChanges c.args.place (Writes c.args.at l) s.files c.write.new.self) (sym c.copied-copy.ensures.copy) c.write.ensures in
    kept_last c.args.place (what.Wrote c.args.at copy) (Writes c.args.at copy.items) (disk_at_first (first_of s)) s.events.items c.add_event.new.events.items s.files c.write.new.self (writes c.args.at copy.items) done c.add_event.ensures.events s.are_kept

pub invariant_of-self-clause-rooms : goal.invariant_of-self-clause-rooms
invariant_of-self-clause-rooms c =
    let s = c.args.self.now in
    rooms_stay c.args.place (Writes c.args.at c.args.bytes.now) s.room s.files c.write.new.self (λ f g w. w.room) c.write.ensures s.rooms

pub returns-clause-went : goal.returns-clause-went
returns-clause-went c =
    let s = c.args.self.now in
    let copy = c.copied-copy.result in
    let same : copy.items ≡ c.args.bytes.now = c.copied-copy.ensures.copy in
    record {
      first = refl;
      event = record { place = c.args.place; what = what.Wrote c.args.at copy };
      events = c.add_event.ensures.events;
      state = state_last c.args.place (what.Wrote c.args.at copy) (disk_at_first (first_of s)) s.events.items c.add_event.new.events.items c.add_event.ensures.events ∙ ap (λ (l : List ℕ). on c.args.place (written c.args.at l) (state_of s)) same;
      written = count_last c.args.place (what.Wrote c.args.at copy) s.events.items c.add_event.new.events.items c.add_event.ensures.events ∙ ap (λ (l : List ℕ). written_of s + length l) same;
    }
