use Rattle.std.proofs.Common.{sym, rules}
use Rattle.std.proofs.lemmas.List.Sorted.{answers_always}
use Rattle.box_state.specs.Inside.{mailbox_in}
use Rattle.box_state.proofs.Indexes.{searched}
use Rattle.box_state.proofs.mailbox.Mailbox.index_of.Goals as goal

pub returns-clause-found : goal.returns-clause-found
returns-clause-found c =
    let facts = c.binary_search_by_key.ensures in
    let by_key = facts.position (λ item. item.uid) (answers_always _ _ _ (λ f a r g called. search rules)) in
    let items = c.self.invariant.entries.items in
    rw (c.ok.ensures.value, sym c.self.view_is)
    (searched (mailbox_in c.self.inside) c.args.uid c.self.inside.items.items c.binary_search_by_key.result c.self.invariant.rules.uids items (rw c.deref.ensures.value at facts.bound) (rw c.deref.ensures.value at by_key)).found

pub returns-clause-none : goal.returns-clause-none
returns-clause-none c =
    let facts = c.binary_search_by_key.ensures in
    let by_key = facts.position (λ item. item.uid) (answers_always _ _ _ (λ f a r g called. search rules)) in
    let items = c.self.invariant.entries.items in
    rw (c.ok.ensures.value, sym c.self.view_is)
    (searched (mailbox_in c.self.inside) c.args.uid c.self.inside.items.items c.binary_search_by_key.result c.self.invariant.rules.uids items (rw c.deref.ensures.value at facts.bound) (rw c.deref.ensures.value at by_key)).none
