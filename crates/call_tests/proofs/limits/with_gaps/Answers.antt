use Rattle.std.proofs.Common.{◌≡◌, refl, arith}
use Rattle.mailbox_model.specs.Mailbox.{IsMailbox}
use Rattle.box_state.specs.Kept.{AreBeside, mailbox_of}
use Rattle.call_tests.proofs.limits.with_gaps.Goals as goal

pub restore-requires-clause-beside : goal.restore-requires-clause-beside
restore-requires-clause-beside c =
    rw (c.in_ok-push-2.ensures.items, c.in_ok-push.ensures.items, c.new-items.ensures.items, c.item.ensures, c.item-2.ensures) (refl, (refl, tt))

pub restore-requires-clause-rules : goal.restore-requires-clause-rules
restore-requires-clause-rules c =
    rw (c.in_ok-push-2.ensures.items, c.in_ok-push.ensures.items, c.new-items.ensures.items, c.item.ensures, c.item-2.ensures)
    (record {
      moment = omega arith;
      uids = (omega arith, (omega arith, omega arith));
      next = omega arith;
      each = (record { arrived = omega arith; seen_after = tt; seen_by = tt; valid = tt }, (record { arrived = omega arith; seen_after = tt; seen_by = tt; valid = tt }, tt));
      count_fits = omega arith;
      weight_fits = omega arith;
    })
