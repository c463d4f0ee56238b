use Rattle.std.proofs.Common.{◌∙◌, sym, ap, cond, true, arith}
use Rattle.std.specs.BTreeSet.{contains}
use Rattle.std.specs.Option.{option_copied}
use Rattle.card_type.specs.Spots.{spot_cmp}
use Rattle.mailbox_model.specs.Present.{present}
use Rattle.indexes.proofs.PresentAt.{spot_of_mail}
use Rattle.indexes.proofs.Spots.{ties, next, spots_kept, spots_more, all_spots}
use Rattle.indexes.proofs.present.present_spots.Goals as goal
use Rattle.indexes.proofs.present.present_spots.Goals.{in-Some+in_ok-copy+in_ok-insert, in_default}

pub loop-item-init : goal.loop-item-init
loop-item-init c = record { each = λ q. ap (λ ks. contains spot_cmp (record { keys = ks }) q) c.new-spots.ensures.empty; ordered = c.new-spots.ensures.ordered }

pub loop-item-preserved : goal.loop-item-preserved
loop-item-preserved c =
    let m = c.args.mailbox.now.mailbox in
    let i = c.loop-item.item-index in
    let own = sym (spot_of_mail _ (present m)) ∙ sym c.present_spot.ensures.spot in
    elim c.match-present_spot.branch [
      | in-Some+in_ok-copy+in_ok-insert w ↦
          rw w.spots-is
          (spots_more m c.keeps_rules.ensures i (next m c.items-item-items.result.now i _ c.items-item-items.ensures c.loop-item-test.true)
          c.loop-item.spots w.insert.new.self w.in-Some.spot.now (own ∙ ap option_copied w.in-Some.is) c.loop-item.invariant
          (λ q. w.in_ok-insert.ensures.updates.0 q ∙ ap (λ s. cond (ties s q) true (contains spot_cmp c.loop-item.spots q)) w.in_ok-copy.ensures)
          w.in_ok-insert.ensures.ordered)
      | in_default w ↦
          rw w.spots-is
          (spots_kept m c.keeps_rules.ensures i (next m c.items-item-items.result.now i _ c.items-item-items.ensures c.loop-item-test.true)
          c.loop-item.spots (own ∙ ap option_copied w.in_default.is) c.loop-item.invariant)
    ]

pub returns : goal.returns
returns c =
    all_spots c.args.mailbox.now.mailbox c.keeps_rules.ensures c.items-item-items.result.now c.loop-item.item-index c.loop-item.spots c.items-item-items.ensures
    (let past = c.loop-item-test.false in omega (arith, past)) c.loop-item.invariant
