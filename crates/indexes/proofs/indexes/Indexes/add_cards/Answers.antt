use Rattle.std.proofs.Common.{◌≡◌, refl, sym, ap, ◌∙◌, subst, suc, [], ◌∷◌, ◌++◌, length, take, arith}
use Rattle.std.specs.Map.Iter.{deref}
use Rattle.std.proofs.lemmas.List.{length-append, length-map, take_all}
use Rattle.std.proofs.lemmas.Map.Iter.{iter_end}
use Rattle.mailbox_model.specs.Present.{present, spot as place_of}
use Rattle.indexes.specs.Kept.{AreOf}
use Rattle.indexes.proofs.Mails.{lent, lent_is}
use Rattle.indexes.proofs.CardsSoFar.{next_mail, its_card, is_absent, one_more, rest_stays}
use Rattle.indexes.proofs.indexes.Indexes.add_cards.Given as given
use Rattle.indexes.proofs.indexes.Indexes.add_cards.Goals as goal

pub loop-spot-init : goal.loop-spot-init
loop-spot-init g c = record { cards = c.requires.none; rest = refl; read = omega arith }

pub unwrap-card-requires : goal.unwrap-card-requires
unwrap-card-requires g c =
    let m = c.args.mailbox.now.mailbox in
    let here = next_mail m c.args.spots.now.keys c.requires.spots c.into_iter-spot-iterator.result c.loop-spot.spot-iterator c.next.new.self c.into_iter-spot-iterator.ensures.into_iter_gives.0 c.loop-spot.yielded c.loop-spot.yielded_by c.next.result c.in-Some.spot c.in-Some.is c.next.ensures.steps in
    lent c.card.result here.one.placed.card (c.card.ensures.card ∙ its_card m c.me-me.ensures.rules (length c.loop-spot.yielded) c.in-Some.spot.now here)

pub add_card-requires-clause-whole : goal.add_card-requires-clause-whole
add_card-requires-clause-whole g c = c.loop-spot.invariant.cards.whole

pub add_card-requires-clause-absent : goal.add_card-requires-clause-absent
add_card-requires-clause-absent g c content =
    let m = c.args.mailbox.now.mailbox in
    let here = next_mail m c.args.spots.now.keys c.requires.spots c.into_iter-spot-iterator.result c.loop-spot.spot-iterator c.next.new.self c.into_iter-spot-iterator.ensures.into_iter_gives.0 c.loop-spot.yielded c.loop-spot.yielded_by c.next.result c.in-Some.spot c.in-Some.is c.next.ensures.steps in
    is_absent m c.me-me.ensures.rules (length c.loop-spot.yielded) c.in-Some.spot.now here m.me c.loop-spot.self.links.cites c.loop-spot.invariant.cards.links

pub loop-spot-preserved : goal.loop-spot-preserved
loop-spot-preserved g c =
    let m = c.args.mailbox.now.mailbox in
    let n = length c.loop-spot.yielded in
    let here = next_mail m c.args.spots.now.keys c.requires.spots c.into_iter-spot-iterator.result c.loop-spot.spot-iterator c.next.new.self c.into_iter-spot-iterator.ensures.into_iter_gives.0 c.loop-spot.yielded c.loop-spot.yielded_by c.next.result c.in-Some.spot c.in-Some.is c.next.ensures.steps in
    let same = sym (lent_is c.card.result here.one.placed.card c.unwrap-card.result (c.card.ensures.card ∙ its_card m c.me-me.ensures.rules n c.in-Some.spot.now here) c.unwrap-card.ensures) in
    let more : length (c.loop-spot.yielded ++ c.in-Some.spot ∷ []) ≡ suc n = omega (arith, length-append c.loop-spot.yielded (c.in-Some.spot ∷ [])) in
    record {
      cards =
          one_more m c.me-me.ensures.rules n c.in-Some.spot.now here c.me-me.result.now c.me-me.ensures.value c.unwrap-card.result.now same c.loop-spot.self c.add_card.new.self
          c.in_ok-add_card.ensures.cards c.loop-spot.invariant.cards (length (c.loop-spot.yielded ++ c.in-Some.spot ∷ [])) more;
      rest = rest_stays c.args.self.now c.loop-spot.self c.add_card.new.self c.loop-spot.invariant.rest c.in_ok-add_card.ensures.rest;
      read = omega (arith, c.card.ensures.cost, c.loop-spot.invariant.read, more);
    }

pub returns-in_err-add_card-clause-cost : goal.returns-in_err-add_card-clause-cost
returns-in_err-add_card-clause-cost g c =
    let m = c.args.mailbox.now.mailbox in
    let here = next_mail m c.args.spots.now.keys c.requires.spots c.into_iter-spot-iterator.result c.loop-spot.spot-iterator c.next.new.self c.into_iter-spot-iterator.ensures.into_iter_gives.0 c.loop-spot.yielded c.loop-spot.yielded_by c.next.result c.in-Some.spot c.in-Some.is c.next.ensures.steps in
    omega (arith, c.card.ensures.cost, c.loop-spot.invariant.read, here.within)

-- all are done
all : (g : given.Over) (c : goal.In-None g) → length c.loop-spot.yielded ≡ length (present c.args.mailbox.now.mailbox)
all g c =
    let m = c.args.mailbox.now.mailbox in
    (iter_end deref c.args.spots.now.keys c.loop-spot.yielded c.into_iter-spot-iterator.result c.loop-spot.spot-iterator c.next.new.self c.next.result c.into_iter-spot-iterator.ensures.into_iter_gives.0 c.loop-spot.yielded_by c.in-None.is c.next.ensures.steps).1
    ∙ ap length c.requires.spots ∙ length-map (present m) (λ t. place_of t.placed)

pub returns-clause-cards : goal.returns-clause-cards
returns-clause-cards g c =
    let m = c.args.mailbox.now.mailbox in
    subst (λ ts. AreOf m.me ts c.loop-spot.self) (ap (λ n. take n (present m)) (all g c) ∙ take_all (length (present m)) (present m) (omega arith)) c.loop-spot.invariant.cards

pub returns-clause-rest : goal.returns-clause-rest
returns-clause-rest g c = c.loop-spot.invariant.rest

pub returns-clause-cost : goal.returns-clause-cost
returns-clause-cost g c = omega (arith, c.loop-spot.invariant.read, all g c)
