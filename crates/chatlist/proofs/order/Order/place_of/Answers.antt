use Rattle.std.proofs.Common.{◌≡◌, ◌+◌, ◌-◌, ◌/◌, ◌∙◌, sym, ap, arith}
use Rattle.chatlist.proofs.Kept.{length_chats, none_past, all_up_to, none_from}
use Rattle.chatlist.proofs.order.Order.place_of.Goals as goal

pub loop-start-init : goal.loop-start-init
loop-start-init c =
    let keys = c.self.inside.keys in
    let chats = ap (λ o. o.chats) c.self.view_is in
    let all = length_chats keys.values c.self.inside.dates.values c.args.self.now.chats c.self.invariant.0 chats in
    record {
      rises = omega arith;
      within = omega (arith, all, c.len-end.ensures);
      before = tt;
      after = none_past keys.values c.self.inside.dates.values c.args.self.now.chats c.self.invariant.0 chats (c.args.key.now, c.args.date) c.len-end.result (omega (arith, c.len-end.ensures));
    }

pub at-requires : goal.at-requires
at-requires c =
    let keys = c.self.inside.keys in
    let all = length_chats keys.values c.self.inside.dates.values c.args.self.now.chats c.self.invariant.0 (ap (λ o. o.chats) c.self.view_is) in
    omega (arith, all, c.loop-start.invariant.within, c.loop-start-test.true)

pub at-requires-in-loop-start : goal.at-requires-in-loop-start
at-requires-in-loop-start c =
    let keys = c.self.inside.keys in
    let dates = c.self.inside.dates in
    let all = length_chats keys.values dates.values c.args.self.now.chats c.self.invariant.0 (ap (λ o. o.chats) c.self.view_is) in
    omega (arith, all, c.self.invariant.0, c.loop-start.invariant.within, c.loop-start-test.true)

pub loop-start-preserved-then-is_before : goal.loop-start-preserved-then-is_before
loop-start-preserved-then-is_before c =
    let keys = c.self.inside.keys in
    let dates = c.self.inside.dates in
    let chats = ap (λ o. o.chats) c.self.view_is in
    let before = c.loop-start.invariant in
    let middle = c.loop-start.start + (c.loop-start.end - c.loop-start.start) / 2 in
    let all = length_chats keys.values dates.values c.args.self.now.chats c.self.invariant.0 chats in
    record {
      rises = omega (arith, c.loop-start-test.true);
      within = before.within;
      before = all_up_to keys.values dates.values c.args.self.now.chats c.self.invariant.0 chats (c.args.key.now, c.args.date) middle c.at.result.now c.at-in-loop-start.result
          c.self.invariant.1 (omega (arith, all, before.within, c.loop-start-test.true)) c.at.ensures c.at-in-loop-start.ensures (sym c.is_before.ensures ∙ c.if-is_before.true);
      after = before.after;
    }

pub loop-start-preserved : goal.loop-start-preserved
loop-start-preserved c =
    let keys = c.self.inside.keys in
    let dates = c.self.inside.dates in
    let chats = ap (λ o. o.chats) c.self.view_is in
    let before = c.loop-start.invariant in
    let middle = c.loop-start.start + (c.loop-start.end - c.loop-start.start) / 2 in
    let all = length_chats keys.values dates.values c.args.self.now.chats c.self.invariant.0 chats in
    record {
      rises = omega arith;
      within = omega (arith, before.within, c.loop-start-test.true);
      before = before.before;
      after = none_from keys.values dates.values c.args.self.now.chats c.self.invariant.0 chats (c.args.key.now, c.args.date) middle c.at.result.now c.at-in-loop-start.result
          c.self.invariant.1 (omega (arith, all, before.within, c.loop-start-test.true)) c.at.ensures c.at-in-loop-start.ensures (sym c.is_before.ensures ∙ c.if-is_before.false);
    }

pub returns-clause-bound : goal.returns-clause-bound
returns-clause-bound c = omega (arith, c.loop-start.invariant.rises, c.loop-start.invariant.within)

pub returns-clause-place : goal.returns-clause-place
returns-clause-place c =
    let closed : c.loop-start.start ≡ c.loop-start.end = omega (arith, c.loop-start.invariant.rises, c.loop-start-test.false) in
    record { before = c.loop-start.invariant.before; after = rw closed c.loop-start.invariant.after }
