use Rattle.std.proofs.Common.{◌≤◌, subst, arith}
use Rattle.std.specs.Prelude.{IfSome}
use Rattle.mailbox_model.specs.Mailbox.{Entry}
use Rattle.state_image.proofs.ItemsRead.{one_keeps}
use Rattle.state_image.proofs.entries.read_entry.Goals as goal

pub returns-clause-rules : goal.returns-clause-rules
returns-clause-rules c =
    let e : Entry = record { uid = c.in_ok-uid.uid; arrival = c.in_ok-arrival.arrival; seen = c.in_ok-seen.seen; read = c.in_ok-read.read } in
    one_keeps c.args.mailbox.now.mailbox e c.keeps_rules.ensures (record {
      above = omega (arith, c.in_ok-uid.ensures.above, c.last_uid.ensures);
      below = omega (arith, c.in_ok-uid.ensures.below, c.next_uid.ensures);
      entry = record {
        arrived = omega (arith, c.in_ok-arrival.ensures.by, c.now-now.ensures);
        seen_after = c.in_ok-seen.ensures.after;
        seen_by = subst (λ now. IfSome c.in_ok-seen.seen (λ n. n ≤ now)) c.now-now.ensures c.in_ok-seen.ensures.by;
        valid = c.in_ok-read.ensures.valid;
      };
      light = omega (arith, c.in_ok-read.ensures.light, c.in_ok-read.ensures.weight, c.weight.ensures);
      room = c.requires.room;
    })
