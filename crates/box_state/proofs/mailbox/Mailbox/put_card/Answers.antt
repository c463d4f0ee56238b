use Rattle.std.proofs.Common.{◌≡◌, sym, ap, ◌∙◌, subst, ℕ, ◌+◌, ◌==◌, cond, Some, Ok, List, ◌++◌, ◌∷◌, []}
use Rattle.mailbox_model.specs.Mailbox.{IsMailbox}
use Rattle.mailbox_model.specs.Present.{effective_date}
use Rattle.box_state.specs.Spots.{spot_at, copies_at, copies_with}
use Rattle.box_state.specs.Entries.{entry_with}
use Rattle.box_state.specs.Kept.{with_entry}
use Rattle.box_state.specs.Inside.{mailbox_in}
use Rattle.box_state.proofs.Changed.{Keeps, kept_as, mailbox_as}
use Rattle.box_state.proofs.Kept.{card_put, no_card, no_spot, no_copy, is_spot}
use Rattle.box_state.proofs.mailbox.Mailbox.put_card.Goals as goal

pub insert-requires-clause-absent : goal.insert-requires-clause-absent
insert-requires-clause-absent c =
    let e = entry_with c.args.item (Ok c.args.card) in
    let rules = subst (λ k. IsMailbox (with_entry k.mailbox e)) (sym c.self.view_is) c.requires.rules in
    rw c.spot_in.ensures (no_spot c.self.inside c.self.invariant e rules)

pub insert-requires-clause-apart : goal.insert-requires-clause-apart
insert-requires-clause-apart c =
    let e = entry_with c.args.item (Ok c.args.card) in
    let rules = subst (λ k. IsMailbox (with_entry k.mailbox e)) (sym c.self.view_is) c.requires.rules in
    rw c.spot_in.ensures (no_copy c.self.inside c.self.invariant e rules (effective_date c.args.card.date c.args.item.arrival) c.in-ForCard.id)

pub insert-requires-in-ForCard-clause-absent : goal.insert-requires-in-ForCard-clause-absent
insert-requires-in-ForCard-clause-absent c =
    let e = entry_with c.args.item (Ok c.args.card) in
    let rules = subst (λ k. IsMailbox (with_entry k.mailbox e)) (sym c.self.view_is) c.requires.rules in
    no_card c.self.inside c.self.invariant e rules

kept : (c : goal.After-unwrap)
    → Keeps (record c.self.inside { items = c.push-pushed.new.self; cards = c.insert-in-ForCard.new.self; weight = c.self.inside.weight + c.args.weight; spots = c.insert.new.self; ready = c.replace.new.dest }) ((mailbox_in c.self.inside).entries ++ entry_with c.args.item (Ok c.args.card) ∷ [])
kept c =
    let a = c.self.inside in
    let e = entry_with c.args.item (Ok c.args.card) in
    let rules = subst (λ k. IsMailbox (with_entry k.mailbox e)) (sym c.self.view_is) c.requires.rules in
    let pushed = rw c.unwrap.ensures at c.push-pushed.ensures.items in
    let at = is_spot c.args.item c.args.card c.in-ForCard.id c.spot_in.result c.spot_in.ensures (sym c.in-ForCard.is ∙ c.replace.ensures.value ∙ ap (λ k. k.ready) c.self.view_is ∙ c.requires.ready) in
    rw c.replace.ensures.after
    (card_put a c.self.invariant c.push-pushed.new.self c.insert-in-ForCard.new.self (a.weight + c.args.weight) c.insert.new.self c.args.item c.args.card rules
    (sym (ap (λ held. record c.args.item { held = held }) c.requires.held)) pushed c.insert-in-ForCard.ensures.cards (ap (λ w. a.weight + w) c.requires.weight)
    (subst (λ s. (uid : ℕ) → spot_at c.insert.new.self uid ≡ cond (s.uid == uid) (Some s) (spot_at a.spots uid)) at c.insert.ensures.spots)
    (subst (λ s. (id : List ℕ) → copies_at c.insert.new.self id ≡ copies_with s id (copies_at a.spots id)) at c.insert.ensures.copies))

pub invariant_of-self : goal.invariant_of-self
invariant_of-self c = kept_as _ _ (kept c)

pub returns-in-ForCard-clause-mailbox : goal.returns-in-ForCard-clause-mailbox
returns-in-ForCard-clause-mailbox c =
    mailbox_as _ _ (kept c) ∙ ap (λ k. with_entry k.mailbox (entry_with c.args.item (Ok c.args.card))) c.self.view_is
