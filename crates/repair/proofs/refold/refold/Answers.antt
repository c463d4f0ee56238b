use Rattle.std.proofs.Common.{◌≡◌, sym, ap, ◌∙◌, subst, length, true, arith}
use Rattle.std.specs.Prelude.{is_some}
use Rattle.std.specs.FinMap as map_of
use Rattle.std.specs.List.{AllByRecursion}
use Rattle.std.proofs.lemmas.Result.{on_ok_weaker}
use Rattle.lists.specs.Chunks.{joined}
use Rattle.group_roster.specs.Setters.{RestsOn}
use Rattle.mailbox_model.specs.Mailbox.{card_at}
use Rattle.mailbox_model.specs.States.{chat_cards}
use Rattle.repair.specs.Cards.{card_in, cards_at}
use Rattle.repair.proofs.ChatCards.{cards_of_chat}
use Rattle.repair.proofs.Refolded.{all_read, all_there, as_many, spots_are}
use Rattle.repair.proofs.refold.refold.Goals as goal

pub fold_roster-requires : goal.fold_roster-requires
fold_roster-requires g c =
    let n = c.args.view.now in
    let rules = c.keeps_rules.ensures in
    let key = c.args.key.now in
    let are = spots_are n rules key n.me (c.requires.states.0 key) (map_of.get c.args.chats.now key) (c.requires.states.1 key) (joined c.spots_of.result.now) c.spots_of.ensures.some c.spots_of.ensures.none in
    record { there = subst (AllByRecursion (λ s. is_some (card_at n s.uid) ≡ true)) (sym are) (all_there n rules key) }

-- so many spots are folded
pub returns-in_err-roster-clause-cost : goal.returns-in_err-roster-clause-cost
returns-in_err-roster-clause-cost g c =
    let n = c.args.view.now in
    let rules = c.keeps_rules.ensures in
    let key = c.args.key.now in
    let are = spots_are n rules key n.me (c.requires.states.0 key) (map_of.get c.args.chats.now key) (c.requires.states.1 key) (joined c.spots_of.result.now) c.spots_of.ensures.some c.spots_of.ensures.none in
    omega (arith, c.fold_roster.ensures.cost, ap length are, as_many n rules key)

pub returns-clause-cost : goal.returns-clause-cost
returns-clause-cost g c =
    let n = c.args.view.now in
    let rules = c.keeps_rules.ensures in
    let key = c.args.key.now in
    let are = spots_are n rules key n.me (c.requires.states.0 key) (map_of.get c.args.chats.now key) (c.requires.states.1 key) (joined c.spots_of.result.now) c.spots_of.ensures.some c.spots_of.ensures.none in
    omega (arith, c.fold_roster.ensures.cost, ap length are, as_many n rules key)

pub returns-clause-states : goal.returns-clause-states
returns-clause-states g c =
    let n = c.args.view.now in
    let rules = c.keeps_rules.ensures in
    let key = c.args.key.now in
    let are = spots_are n rules key n.me (c.requires.states.0 key) (map_of.get c.args.chats.now key) (c.requires.states.1 key) (joined c.spots_of.result.now) c.spots_of.ensures.some c.spots_of.ensures.none in
    let rests = subst (λ cards. RestsOn n.me key cards c.in_ok-roster.roster c.in_ok-roster.setters) (ap (cards_at n) are ∙ all_read n rules key) c.in_ok-roster.ensures.rests in
    on_ok_weaker c.settle.result (λ states unsettled before. states n.me unsettled (card_in n) (chat_cards n key) (cards_of_chat n rules key) rests before) c.settle.ensures.states
