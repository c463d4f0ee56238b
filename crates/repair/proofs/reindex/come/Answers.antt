use Rattle.std.proofs.Common.{◌≡◌, ◌∙◌, sym, subst}
use Rattle.std.proofs.lemmas.Result.{on_ok_weaker}
use Rattle.mailbox_model.specs.Turns.{with_mail}
use Rattle.indexes.specs.Kept.{AreOf}
use Rattle.indexes.proofs.Mails.{lent, lent_is}
use Rattle.repair.proofs.Turns.{in_order, are_counted, its_card, is_absent}
use Rattle.repair.proofs.reindex.come.Goals as goal

pub unwrap-card-requires : goal.unwrap-card-requires
unwrap-card-requires g c =
    let one = c.requires.others in
    lent c.card.result one.0.placed.card (c.card.ensures.card ∙ its_card c.args.view.now c.me-me.ensures.rules c.args.at.now one.0 one.1 one.2)

pub add_card-requires-clause-absent : goal.add_card-requires-clause-absent
add_card-requires-clause-absent g c content =
    let one = c.requires.others in
    is_absent c.args.view.now c.me-me.ensures.rules c.args.at.now one.0 one.1 one.2 c.args.view.now.me c.args.indexes.now.links.cites one.3.links

pub returns-clause-cards : goal.returns-clause-cards
returns-clause-cards g c =
    let m = c.args.view.now in
    let rules = c.me-me.ensures.rules in
    let at = c.args.at.now in
    let one = c.requires.others in
    let t = one.0 in
    let others = one.1 in
    let its = c.card.ensures.card ∙ its_card m rules at t others one.2 in
    let same : t.placed.card ≡ c.unwrap-card.result.now = sym (lent_is c.card.result t.placed.card c.unwrap-card.result its c.unwrap-card.ensures) in
    let added = c.in_ok-moved.ensures.cards t others one.2.place same (in_order m rules at t others one.2) (are_counted m rules at t others one.2)
    (subst (λ a. AreOf a others c.args.indexes.now) (sym c.me-me.ensures.value) one.3) in
    on_ok_weaker c.note.result
    (λ _. subst (λ ts. AreOf m.me ts c.add_card.new.self) (sym one.2.all) (subst (λ a. AreOf a (with_mail t others) c.add_card.new.self) c.me-me.ensures.value added))
    c.note.ensures

pub returns-clause-before : goal.returns-clause-before
returns-clause-before g c = on_ok_weaker c.note.result (λ noted first back. noted first c.args.indexes.now.links.cites c.add_card.new.self.links.cites c.in_ok-moved.ensures.told back) c.note.ensures
