use Rattle.std.proofs.Common.{◌≡◌, vec_len}
use Rattle.shelves.specs.Room.{HaveRoom}
use Rattle.shelves.proofs.event.spare_copies.Given as goal

abbrev pub invariant-loop : goal.invariant-loop
invariant-loop l = record {
  len : vec_len l.spare ≡ l.counter;
  have : HaveRoom l.room l.spare.items;
}
