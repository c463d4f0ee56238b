use Rattle.std.proofs.Common.{refl}
use Rattle.shelves.specs.declared.event.What.TheVariants as what
use Rattle.shelves.specs.Files.{Cuts}
use Rattle.shelves.specs.History.{disk_at_first}
use Rattle.shelves.specs.Disks.{first_of}
use Rattle.shelves.proofs.Pushed.{kept_last, state_last, count_last, cuts}
use Rattle.shelves.proofs.Rooms.{rooms_stay}
use Rattle.shelves.proofs.disk.Disk.cut.Goals as goal

pub invariant_of-self-clause-are_kept : goal.invariant_of-self-clause-are_kept
invariant_of-self-clause-are_kept c =
    let s = c.args.self.now in
    kept_last c.args.place (what.Cut c.args.size) (Cuts c.args.size) (disk_at_first (first_of s)) s.events.items c.add_event.new.events.items s.files c.cut.new.self (cuts c.args.size) c.cut.ensures c.add_event.ensures.events s.are_kept

pub invariant_of-self-clause-rooms : goal.invariant_of-self-clause-rooms
invariant_of-self-clause-rooms c =
    let s = c.args.self.now in
    rooms_stay c.args.place (Cuts c.args.size) s.room s.files c.cut.new.self (λ f g w. w.room) c.cut.ensures s.rooms

pub returns-clause-went : goal.returns-clause-went
returns-clause-went c =
    let s = c.args.self.now in
    record {
      first = refl;
      event = record { place = c.args.place; what = (what.Cut c.args.size) };
      events = c.add_event.ensures.events;
      state = state_last c.args.place (what.Cut c.args.size) (disk_at_first (first_of s)) s.events.items c.add_event.new.events.items c.add_event.ensures.events;
      written = count_last c.args.place (what.Cut c.args.size) s.events.items c.add_event.new.events.items c.add_event.ensures.events;
    }
