use Rattle.std.proofs.Common.{◌≡◌, []}
use Rattle.box_state.specs.declared.ready.Ready.TheVariants.{Unready}
use Rattle.card_record.specs.Reading.{times_of}
use Rattle.state_image.specs.Images.{entry_at}
use Rattle.state_image.proofs.ItemsRead.{HasRead}
use Rattle.state_image.proofs.entries.read_times.Given as goal

-- what is left to read leads to what all leads to
abbrev pub invariant-loop : goal.invariant-loop
invariant-loop l =
    let start = l.fn.mailbox.mailbox in
    record {
      read : HasRead start l.count (times_of (entry_at start.now start.next_uid) [] l.count l.fn.rest) l.counter l.mailbox.mailbox l.rest;
      ready : l.mailbox.ready ≡ Unready;
    }
