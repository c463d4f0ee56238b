use Rattle.std.proofs.Common.{◌≡◌, refl, sym, ap, ◌∙◌, subst, [], length, false, arith}
use Rattle.std.specs.Prelude.{sum_by, IfNone}
use Rattle.std.proofs.lemmas.Bool.{or_parts}
use Rattle.std.proofs.lemmas.List.Sums.{sum_by-cons}
use Rattle.card_type.specs.declared.key.ChatKey.{ChatKey}
use Rattle.card_type.specs.Keys.{key_eq}
use Rattle.mailbox_model.specs.Chats.{chat_mails}
use Rattle.mailbox_model.proofs.ListLaws.{key_turn}
use Rattle.chat_states.specs.States.{AreStatesOf, has_key}
use Rattle.repair.specs.Cards.{card_in}
use Rattle.repair.proofs.refold.refold_all.Goals as goal

pub loop-key-init : goal.loop-key-init
loop-key-init g c = record { states = c.requires.states; others = λ key h. refl; left = λ key h. h; read = omega arith }

pub loop-key-smaller : goal.loop-key-smaller
loop-key-smaller g c = omega (arith, ap length c.in-Some.ensures.some)

pub refold_next-requires : goal.refold_next-requires
refold_next-requires g c = record { states = (has_key c.loop-key.unsettled, c.loop-key.invariant.states) }

pub loop-key-preserved : goal.loop-key-preserved
loop-key-preserved g c =
    let n = c.args.view.now in
    let key = c.in-Some.key in
    let first = c.in-Some.ensures.some in
    let parts : (other : ChatKey) → has_key c.args.unsettled other ≡ false → (key_eq other key ≡ false) × (has_key c.pop.new.self other ≡ false) =
    λ other h. or_parts (key_eq other key) (has_key c.pop.new.self other) (sym (ap (λ us. has_key us other) first) ∙ c.loop-key.invariant.left other h) in
    record {
      states = c.in_ok-refold_next.ensures.states (has_key c.pop.new.self) (subst (λ us. AreStatesOf n.me (has_key us) (card_in n) c.loop-key.chats) first c.loop-key.invariant.states);
      others = λ other h. c.in_ok-refold_next.ensures.others other (key_turn key other ∙ (parts other h).0) ∙ c.loop-key.invariant.others other h;
      left = λ other h. (parts other h).1;
      read = omega (arith, c.refold_next.ensures.cost, c.loop-key.invariant.read, ap (sum_by (λ k. length (chat_mails n k))) first, sum_by-cons (λ k. length (chat_mails n k)) key c.pop.new.self);
    }

pub returns-in_err-refold_next-clause-cost : goal.returns-in_err-refold_next-clause-cost
returns-in_err-refold_next-clause-cost g c =
    let n = c.args.view.now in
    omega (arith, c.refold_next.ensures.cost, c.loop-key.invariant.read, ap (sum_by (λ k. length (chat_mails n k))) c.in-Some.ensures.some, sum_by-cons (λ k. length (chat_mails n k)) c.in-Some.key c.pop.new.self)

pub returns-clause-states : goal.returns-clause-states
returns-clause-states g c =
    let n = c.args.view.now in
    subst (λ us. AreStatesOf n.me (has_key us) (card_in n) c.loop-key.chats) (subst (λ o. IfNone o (c.loop-key.unsettled ≡ [])) c.in_default.is c.pop.ensures.none) c.loop-key.invariant.states

pub returns-clause-others : goal.returns-clause-others
returns-clause-others g c = c.loop-key.invariant.others

pub returns-clause-cost : goal.returns-clause-cost
returns-clause-cost g c = omega (arith, c.loop-key.invariant.read)
