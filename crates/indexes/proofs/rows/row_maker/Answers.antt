use Rattle.std.proofs.Common.{◌≡◌, sym, ap, ◌∙◌, subst, ◌+◌, ◌++◌, ◌≤◌, [], ◌∷◌, length, Some, take, get_or, arith}
use Rattle.std.specs.Prelude.{is_some, sum_by, IfSome}
use Rattle.std.specs.Option.{option_to_list}
use Rattle.std.proofs.lemmas.List.Sums.{sum_by-append, sum_by-cons}
use Rattle.kit.specs.Moments.{last_moment}
use Rattle.mailbox_model.specs.Mailbox.{max_total_weight}
use Rattle.mailbox_model.specs.Present.{Placed, present_cards}
use Rattle.mailbox_model.specs.Rows.{act_on, acts_on, naming}
use Rattle.mailbox_model.proofs.ActLaws.{naming_enough}
use Rattle.chat_view.specs.Makers.{MakesRow}
use Rattle.indexes.proofs.Mails.{seen_is}
use Rattle.indexes.proofs.Making.{mail_there, spot_of_mail, own, same_mail, has_moments, namers, count, next, all_taken, acts_more}
use Rattle.indexes.proofs.rows.row_maker.Goals as goal

pub new-requires-clause-date : goal.new-requires-clause-date
new-requires-clause-date g c =
    let m = c.args.view.now in
    let s = c.args.spot.now in
    let t = mail_there m s.uid s c.requires.there in
    subst (λ place. place.date ≤ last_moment) (sym t.2) (has_moments m c.me-me.ensures.rules s.uid t.0 t.1).date

pub new-requires-clause-seen : goal.new-requires-clause-seen
new-requires-clause-seen g c =
    let m = c.args.view.now in
    let s = c.args.spot.now in
    let t = mail_there m s.uid s c.requires.there in
    subst (λ seen. IfSome seen (λ moment. moment ≤ last_moment)) (sym (c.seen-seen.ensures ∙ seen_is m s.uid t.0 t.1)) (has_moments m c.me-me.ensures.rules s.uid t.0 t.1).seen

pub loop-uid-init : goal.loop-uid-init
loop-uid-init g c =
    let m = c.args.view.now in
    let s = c.args.spot.now in
    record {
      made = λ t is.
          subst (λ me. MakesRow me t [] c.in_ok-maker.maker) c.me-me.ensures.value
          (subst (λ u. MakesRow c.me-me.result.now u [] c.in_ok-maker.maker)
          (same_mail m s.uid t s c.args.card.now c.seen-seen.result is (spot_of_mail m s.uid s t c.requires.there is) c.requires.card (c.seen-seen.ensures ∙ seen_is m s.uid t is))
          c.in_ok-maker.ensures.stands);
      few = omega (arith, ap length c.in_ok-maker.ensures.updates);
      read = omega arith;
    }

-- the next of those that name the card
pub add_act-requires-clause-there : goal.add_act-requires-clause-there
add_act-requires-clause-there g c =
    let m = c.args.view.now in
    let s = c.args.spot.now in
    let d = (mail_there m s.uid s c.requires.there).0.placed in
    let at = (next m c.me-me.ensures.rules s.id c.args.effects.now c.requires.effects c.on-uid-items.result.now c.on-uid-items.ensures d c.loop-uid.uid-index c.loop-uid-test.true).at in
    ap is_some at

pub add_act-requires-clause-room : goal.add_act-requires-clause-room
add_act-requires-clause-room g c p here =
    let m = c.args.view.now in
    let s = c.args.spot.now in
    let d = (mail_there m s.uid s c.requires.there).0.placed in
    let is = next m c.me-me.ensures.rules s.id c.args.effects.now c.requires.effects c.on-uid-items.result.now c.on-uid-items.ensures d c.loop-uid.uid-index c.loop-uid-test.true in
    let same : Some p ≡ Some (get_or (namers m c.me-me.ensures.rules s.id c.args.effects.now c.requires.effects c.on-uid-items.result.now c.on-uid-items.ensures) c.loop-uid.uid-index d) = sym here ∙ is.at in
    let own : get_or (namers m c.me-me.ensures.rules s.id c.args.effects.now c.requires.effects c.on-uid-items.result.now c.on-uid-items.ensures) c.loop-uid.uid-index d ≡ p = cc in
    let few = subst (λ e. sum_by (λ (p : Placed). length p.card.updates) (take c.loop-uid.uid-index (namers m c.me-me.ensures.rules s.id c.args.effects.now c.requires.effects c.on-uid-items.result.now c.on-uid-items.ensures)) + length e.card.updates ≤ max_total_weight) own is.few in
    omega (arith, few, c.loop-uid.invariant.few)

pub returns-in_err-add_act-clause-cost : goal.returns-in_err-add_act-clause-cost
returns-in_err-add_act-clause-cost g c =
    let m = c.args.view.now in
    let s = c.args.spot.now in
    omega (
      arith,
      c.in_err-add_act.ensures.cost,
      c.loop-uid.invariant.read,
      c.loop-uid-test.true,
      count m c.me-me.ensures.rules s.id c.args.effects.now c.requires.effects c.on-uid-items.result.now c.on-uid-items.ensures,
    )

pub loop-uid-preserved : goal.loop-uid-preserved
loop-uid-preserved g c =
    let m = c.args.view.now in
    let s = c.args.spot.now in
    let d = (mail_there m s.uid s c.requires.there).0.placed in
    let i = c.loop-uid.uid-index in
    let all = namers m c.me-me.ensures.rules s.id c.args.effects.now c.requires.effects c.on-uid-items.result.now c.on-uid-items.ensures in
    let is = next m c.me-me.ensures.rules s.id c.args.effects.now c.requires.effects c.on-uid-items.result.now c.on-uid-items.ensures d i c.loop-uid-test.true in
    record {
      made = λ t at.
          subst (λ acts. MakesRow m.me t acts c.add_act.new.maker)
          (sym (ap (acts_on m.me t.placed.card) is.more ∙ acts_more m.me t.placed.card (take i all) (get_or all i d)))
          (subst (λ card. MakesRow m.me t (acts_on m.me t.placed.card (take i all) ++ option_to_list (act_on m.me card (get_or all i d))) c.add_act.new.maker) (own m s.uid t c.args.card.now at c.requires.card)
          (c.in_ok-add_act.ensures.stands (get_or all i d) t (acts_on m.me t.placed.card (take i all)) is.at (sym (own m s.uid t c.args.card.now at c.requires.card)) (c.loop-uid.invariant.made t at)));
      few = omega (
        arith,
        c.in_ok-add_act.ensures.updates (get_or all i d) is.at,
        c.loop-uid.invariant.few,
        ap (sum_by (λ (p : Placed). length p.card.updates)) is.more,
        sum_by-append (λ (p : Placed). length p.card.updates) (take i all) (get_or all i d ∷ []),
        sum_by-cons (λ (p : Placed). length p.card.updates) (get_or all i d) [],
      );
      read = omega (arith, c.in_ok-add_act.ensures.cost, c.loop-uid.invariant.read);
    }

pub returns-clause-stands : goal.returns-clause-stands
returns-clause-stands g c t at =
    let m = c.args.view.now in
    let s = c.args.spot.now in
    let taken = all_taken m c.me-me.ensures.rules s.id c.args.effects.now c.requires.effects c.on-uid-items.result.now c.on-uid-items.ensures c.loop-uid.uid-index (omega (arith, c.loop-uid-test.false)) in
    subst (λ acts. MakesRow m.me t acts c.loop-uid.maker)
    (ap (acts_on m.me t.placed.card) (taken ∙ ap (λ place. naming place.id (present_cards m)) (spot_of_mail m s.uid s t c.requires.there at)) ∙ naming_enough m.me t.placed.card (present_cards m))
    (c.loop-uid.invariant.made t at)

pub returns-clause-cost : goal.returns-clause-cost
returns-clause-cost g c =
    let m = c.args.view.now in
    let s = c.args.spot.now in
    omega (
      arith,
      c.loop-uid.invariant.read,
      c.loop-uid.auto.uid-index-end,
      count m c.me-me.ensures.rules s.id c.args.effects.now c.requires.effects c.on-uid-items.result.now c.on-uid-items.ensures,
    )
