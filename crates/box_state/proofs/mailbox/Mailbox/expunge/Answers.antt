use Rattle.std.proofs.Common.{◌≡◌, sym, ap, ◌∙◌, ◌+◌, ◌-◌, arith}
use Rattle.mailbox_model.specs.Mailbox.{after, weight_read}
use Rattle.mailbox_model.specs.declared.change.Change.TheVariants.{Expunge}
use Rattle.box_state.specs.declared.ready.Ready.TheVariants.{Unready}
use Rattle.box_state.specs.Entries.{IsEntryAt}
use Rattle.box_state.specs.Inside.{mailbox_in}
use Rattle.box_state.proofs.Indexes.{entry_is, items_left}
use Rattle.box_state.proofs.Changed.{Keeps, kept_as, mailbox_as}
use Rattle.box_state.proofs.Kept.{uid_left, card_is, read_weight, fault_weight, weight_within, weight_small, nothing_left}
use Rattle.box_state.proofs.mailbox.Mailbox.expunge.Goals as goal

pub overflow_sub-self : goal.overflow_sub-self
overflow_sub-self c =
    let a = c.self.inside in
    let k = c.self.invariant in
    let uid = c.args.uid in
    let at : IsEntryAt (mailbox_in a) uid c.in-Some.index = c.in-Some.ensures.found in
    let found = entry_is (mailbox_in a) k.rules.uids a.items.items k.entries.items uid c.in-Some.index at in
    let card = read_weight at.entry.read c.in-Some-take.card (sym (card_is a k uid at.entry found) ∙ sym c.take.ensures.card ∙ c.in-Some-take.is) in
    let exact = c.weight_taken.ensures.exact (omega (arith, card, weight_small a k uid at.entry found)) in
    omega (arith, exact, card, weight_within a k uid at.entry found)

kept : (c : goal.After-self-in-Some-take-1)
    → Keeps (record c.self.inside { items = c.remove-item.new.self; cards = c.take.new.self; weight = c.self.inside.weight - c.weight_taken.result; spots = c.remove.new.self; ready = Unready }) (after (mailbox_in c.self.inside) (Expunge c.args.uid)).entries
kept c =
    let a = c.self.inside in
    let k = c.self.invariant in
    let uid = c.args.uid in
    let at : IsEntryAt (mailbox_in a) uid c.in-Some.index = c.in-Some.ensures.found in
    let found = entry_is (mailbox_in a) k.rules.uids a.items.items k.entries.items uid c.in-Some.index at in
    let card = read_weight at.entry.read c.in-Some-take.card (sym (card_is a k uid at.entry found) ∙ sym c.take.ensures.card ∙ c.in-Some-take.is) in
    let exact = c.weight_taken.ensures.exact (omega (arith, card, weight_small a k uid at.entry found)) in
    let left = c.remove-item.ensures.items ∙ items_left (mailbox_in a) k.rules.uids a.items.items k.entries.items uid c.in-Some.index at in
    let rest : (a.weight - c.weight_taken.result) + weight_read at.entry.read ≡ a.weight = omega (arith, exact, card, weight_within a k uid at.entry found) in
    uid_left a k c.remove-item.new.self c.take.new.self (a.weight - c.weight_taken.result) c.remove.new.self uid at.entry found left c.take.ensures.cards rest c.remove.ensures.spots c.remove.ensures.copies

kept_fault : (c : goal.In_default-take)
    → Keeps (record c.self.inside { items = c.remove-item.new.self; cards = c.take.new.self; spots = c.remove.new.self; ready = Unready }) (after (mailbox_in c.self.inside) (Expunge c.args.uid)).entries
kept_fault c =
    let a = c.self.inside in
    let k = c.self.invariant in
    let uid = c.args.uid in
    let at : IsEntryAt (mailbox_in a) uid c.in-Some.index = c.in-Some.ensures.found in
    let found = entry_is (mailbox_in a) k.rules.uids a.items.items k.entries.items uid c.in-Some.index at in
    let none = fault_weight at.entry.read (sym (card_is a k uid at.entry found) ∙ sym c.take.ensures.card ∙ c.in_default-take.is) in
    let left = c.remove-item.ensures.items ∙ items_left (mailbox_in a) k.rules.uids a.items.items k.entries.items uid c.in-Some.index at in
    let rest : a.weight + weight_read at.entry.read ≡ a.weight = omega (arith, none) in
    uid_left a k c.remove-item.new.self c.take.new.self a.weight c.remove.new.self uid at.entry found left c.take.ensures.cards rest c.remove.ensures.spots c.remove.ensures.copies

pub invariant_of-self-in-Some-take : goal.invariant_of-self-in-Some-take
invariant_of-self-in-Some-take c = kept_as _ _ (kept c)

pub invariant_of-self-in_default-take : goal.invariant_of-self-in_default-take
invariant_of-self-in_default-take c = kept_as _ _ (kept_fault c)

pub returns-in-Some-take-clause-mailbox : goal.returns-in-Some-take-clause-mailbox
returns-in-Some-take-clause-mailbox c = mailbox_as _ _ (kept c) ∙ ap (λ k. after k.mailbox (Expunge c.args.uid)) c.self.view_is

pub returns-in_default-take-clause-mailbox : goal.returns-in_default-take-clause-mailbox
returns-in_default-take-clause-mailbox c = mailbox_as _ _ (kept_fault c) ∙ ap (λ k. after k.mailbox (Expunge c.args.uid)) c.self.view_is

pub returns-in_default-clause-mailbox : goal.returns-in_default-clause-mailbox
returns-in_default-clause-mailbox c =
    nothing_left c.self.inside c.self.invariant c.args.uid c.in_default.ensures.none ∙ ap (λ k. after k.mailbox (Expunge c.args.uid)) c.self.view_is
