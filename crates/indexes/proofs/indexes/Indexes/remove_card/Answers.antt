use Rattle.std.proofs.Common.{rules, sym, subst}
use Rattle.indexes.specs.Moves.{IsTold}
use Rattle.indexes.proofs.OneCard.{IsNext, effects_less, contacts_less, content_less, other_left}
use Rattle.indexes.proofs.Told.{told_removed}
use Rattle.indexes.proofs.indexes.Indexes.remove_card.Goals as goal

pub returns-then-ne-clause-cards : goal.returns-then-ne-clause-cards
returns-then-ne-clause-cards c me t ts place card order once of_all =
    let next : IsNext c.args.spot.now c.args.card.now t ts = record { at = place; same = card; order = order } in
    record {
      whole = of_all.whole;
      links = other_left c.args.spot.now c.args.card.now t ts next me c.args.self.now.links.cites (search rules) of_all.links;
      effects = effects_less c.args.spot.now c.args.card.now t ts next c.args.self.now.effects c.remove.new.self of_all.effects c.remove.ensures;
      contacts = contacts_less c.args.spot.now c.args.card.now t ts next c.args.self.now.contacts c.remove-2.new.self of_all.contacts c.remove-2.ensures.mentions c.remove-2.ensures.names;
    }

pub returns-clause-cards : goal.returns-clause-cards
returns-clause-cards c me t ts place card order once of_all =
    let next : IsNext c.args.spot.now c.args.card.now t ts = record { at = place; same = card; order = order } in
    record {
      whole = c.in_ok-moved.ensures.whole;
      links = content_less c.args.spot.now c.args.card.now t ts next me c.args.self.now.links.cites c.remove-3.new.self.cites once of_all.links c.in_ok-moved.ensures.cites;
      effects = effects_less c.args.spot.now c.args.card.now t ts next c.args.self.now.effects c.remove.new.self of_all.effects c.remove.ensures;
      contacts = contacts_less c.args.spot.now c.args.card.now t ts next c.args.self.now.contacts c.remove-2.new.self of_all.contacts c.remove-2.ensures.mentions c.remove-2.ensures.names;
    }

pub returns-clause-told : goal.returns-clause-told
returns-clause-told c =
    let before = c.args.self.now.links.cites in
    let after = c.remove-3.new.self.cites in
    subst (λ moved. IsTold moved before after) (sym c.in_ok-moved.ensures.moved) (told_removed c.args.spot.now.id before after c.in_ok-moved.ensures.cites)
