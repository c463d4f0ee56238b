use Rattle.std.proofs.Common.{refl, sym, ap, ◌∙◌, subst, ◌++◌, ◌∷◌, [], take, Some, append_assoc, arith}
use Rattle.std.specs.Option.{option_map}
use Rattle.std.proofs.lemmas.List.{append-nil, take_all}
use Rattle.group_roster.specs.Setters.{RestsOn, at}
use Rattle.mailbox_model.specs.Mailbox.{card_at}
use Rattle.indexes.proofs.Making.{lent_card}
use Rattle.indexes.proofs.PagedSteps.{filter_map_next}
use Rattle.repair.specs.Cards.{cards_at}
use Rattle.repair.proofs.refold.add_spots.Goals as goal

pub loop-spot-init : goal.loop-spot-init
loop-spot-init g c =
    record {
      rests = λ cards rests. subst (λ cards. RestsOn c.args.view.now.me c.args.key.now cards c.args.roster.now c.args.setters.now) (sym (append-nil cards)) rests;
      read = omega arith;
    }

pub returns-in_err-add_at-clause-cost : goal.returns-in_err-add_at-clause-cost
returns-in_err-add_at-clause-cost g c = omega (arith, c.card.ensures.cost, c.loop-spot.invariant.read, c.loop-spot-test.true)

pub loop-spot-preserved : goal.loop-spot-preserved
loop-spot-preserved g c =
    let n = c.args.view.now in
    let key = c.args.key.now in
    let spots = c.args.spots.now in
    let i = c.loop-spot.spot-index in
    let s = c.spot-item.result in
    let before = cards_at n (take i spots) in
    let card = lent_card n s.uid c.card.result c.unwrap-card.result c.card.ensures.card c.unwrap-card.ensures in
    let next = filter_map_next spots i s c.loop-spot-test.true c.spot-item.is (λ s. option_map (at s) (card_at n s.uid)) before refl (Some (at s c.unwrap-card.result.now)) (ap (option_map (at s)) (sym card)) in
    record {
      rests =
          λ cards rests.
          subst (λ after. RestsOn n.me key after c.add_at.new.roster c.add_at.new.setters)
          (append_assoc cards before (at s c.unwrap-card.result.now ∷ []) ∙ ap (λ more. cards ++ more) next)
          (subst (λ me. RestsOn me key ((cards ++ before) ++ at s c.unwrap-card.result.now ∷ []) c.add_at.new.roster c.add_at.new.setters) c.me-me.ensures.value
          (c.in_ok-add_at.ensures.stands (cards ++ before) (subst (λ me. RestsOn me key (cards ++ before) c.loop-spot.roster c.loop-spot.setters) (sym c.me-me.ensures.value) (c.loop-spot.invariant.rests cards rests))));
      read = omega (arith, c.card.ensures.cost, c.loop-spot.invariant.read);
    }

pub returns-clause-rests : goal.returns-clause-rests
returns-clause-rests g c cards rests =
    subst (λ spots. RestsOn c.args.view.now.me c.args.key.now (cards ++ cards_at c.args.view.now spots) c.loop-spot.roster c.loop-spot.setters)
    (take_all c.loop-spot.spot-index c.args.spots.now c.loop-spot-test.false) (c.loop-spot.invariant.rests cards rests)

pub returns-clause-cost : goal.returns-clause-cost
returns-clause-cost g c = omega (arith, c.loop-spot.invariant.read, c.loop-spot.auto.spot-index-end)
