use Rattle.std.proofs.Common.{rules, sym, subst}
use Rattle.indexes.specs.Moves.{IsTold}
use Rattle.indexes.proofs.Told.{told_added}
use Rattle.indexes.proofs.OneCard.{IsNext, effects_more, contacts_more, content_more, other_stays}
use Rattle.indexes.proofs.indexes.Indexes.add_card.Goals as goal

pub returns-clause-cards : goal.returns-clause-cards
returns-clause-cards c t ts place card order few of_others =
    let next : IsNext c.args.spot.now c.args.card.now t ts = record { at = place; same = card; order = order } in
    record {
      whole = c.in_ok-moved.ensures.whole;
      links = content_more c.args.spot.now c.args.card.now t ts next c.args.me.now c.in_ok-cites.cites c.args.self.now.links.cites c.add-3.new.self.cites (search rules) c.in_ok-cites.ensures of_others.links c.in_ok-moved.ensures.cites;
      effects = effects_more c.args.spot.now c.args.card.now t ts next c.args.self.now.effects c.add.new.self of_others.effects c.in_ok-add.ensures;
      contacts = contacts_more c.args.spot.now c.args.card.now t ts next c.args.self.now.contacts c.add-2.new.self few of_others.contacts c.in_ok-add-2.ensures.mentions c.in_ok-add-2.ensures.names;
    }

pub returns-then-ne-clause-cards : goal.returns-then-ne-clause-cards
returns-then-ne-clause-cards c t ts place card order few of_others =
    let next : IsNext c.args.spot.now c.args.card.now t ts = record { at = place; same = card; order = order } in
    record {
      whole = of_others.whole;
      links = other_stays c.args.spot.now c.args.card.now t ts next c.args.me.now c.args.self.now.links.cites (search rules) of_others.links;
      effects = effects_more c.args.spot.now c.args.card.now t ts next c.args.self.now.effects c.add.new.self of_others.effects c.in_ok-add.ensures;
      contacts = contacts_more c.args.spot.now c.args.card.now t ts next c.args.self.now.contacts c.add-2.new.self few of_others.contacts c.in_ok-add-2.ensures.mentions c.in_ok-add-2.ensures.names;
    }

pub returns-clause-told : goal.returns-clause-told
returns-clause-told c =
    let before = c.args.self.now.links.cites in
    let after = c.add-3.new.self.cites in
    subst (λ moved. IsTold moved before after) (sym c.in_ok-moved.ensures.moved) (told_added c.in_ok-cites.cites before after c.in_ok-moved.ensures.cites)
