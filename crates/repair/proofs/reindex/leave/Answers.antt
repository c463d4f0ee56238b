use Rattle.std.proofs.Common.{◌≡◌, ◌∙◌, sym, subst}
use Rattle.std.proofs.lemmas.Result.{on_ok_weaker}
use Rattle.mailbox_model.specs.Present.{Mail, present}
use Rattle.indexes.specs.Kept.{AreOf}
use Rattle.indexes.proofs.Mails.{lent, lent_is}
use Rattle.repair.specs.Reindexed.{IsOneOf}
use Rattle.repair.proofs.Turns.{in_order, once, its_card, is_there}
use Rattle.repair.proofs.reindex.leave.Given as given
use Rattle.repair.proofs.reindex.leave.Goals as goal
use Rattle.repair.proofs.reindex.leave.Goals.{After-unwrap-card}

pub unwrap-card-requires : goal.unwrap-card-requires
unwrap-card-requires g c =
    let one = c.requires.there in
    lent c.card.result one.0.placed.card (c.card.ensures.card ∙ its_card c.args.mailbox.now.mailbox c.keeps_rules.ensures c.args.at.now one.0 one.1 one.2)

-- the card that is read is that of any of the present mails that is at the spot
same : (g : given.Over) (c : After-unwrap-card g) (t : Mail) (others : _) → IsOneOf c.args.at.now t others (present c.args.mailbox.now.mailbox) → t.placed.card ≡ c.unwrap-card.result.now
same g c t others one =
    sym (lent_is c.card.result t.placed.card c.unwrap-card.result (c.card.ensures.card ∙ its_card c.args.mailbox.now.mailbox c.keeps_rules.ensures c.args.at.now t others one) c.unwrap-card.ensures)

pub remove_card-requires-clause-there : goal.remove_card-requires-clause-there
remove_card-requires-clause-there g c content =
    let m = c.args.mailbox.now.mailbox in
    let one = c.requires.there in
    is_there m c.keeps_rules.ensures c.args.at.now one.0 one.1 one.2 m.me c.args.indexes.now.links.cites c.unwrap-card.result.now
    (same g (goal.at.remove_card-requires-clause-there g c).After-unwrap-card one.0 one.1 one.2) content c.requires.kept.links

pub returns-clause-cards : goal.returns-clause-cards
returns-clause-cards g c =
    let m = c.args.mailbox.now.mailbox in
    let rules = c.keeps_rules.ensures in
    let at = c.args.at.now in
    on_ok_weaker c.note.result
    (λ _ t others one.
    c.in_ok-moved.ensures.cards m.me t others one.place (same g (goal.at.returns-clause-cards g c).After-unwrap-card t others one) (in_order m rules at t others one) (once m rules at t others one)
    (subst (λ ts. AreOf m.me ts c.args.indexes.now) one.all c.requires.kept))
    c.note.ensures

pub returns-clause-before : goal.returns-clause-before
returns-clause-before g c = on_ok_weaker c.note.result (λ noted first back. noted first c.args.indexes.now.links.cites c.remove_card.new.self.links.cites c.in_ok-moved.ensures.told back) c.note.ensures
