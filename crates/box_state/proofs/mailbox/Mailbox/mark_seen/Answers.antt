use Rattle.std.proofs.Common.{◌≡◌, ap, ◌∙◌, slice_set, Some}
use Rattle.std.specs.Vec.{with_item}
use Rattle.std.specs.Option.{option_or}
use Rattle.mailbox_model.specs.Mailbox.{after, marked_at}
use Rattle.mailbox_model.specs.declared.change.Change.TheVariants.{Seen}
use Rattle.box_state.specs.declared.ready.Ready.TheVariants.{Unready}
use Rattle.box_state.specs.Entries.{IsEntryAt}
use Rattle.box_state.specs.Inside.{mailbox_in}
use Rattle.box_state.proofs.Indexes.{item_is, items_marked}
use Rattle.box_state.proofs.Changed.{Keeps, kept_as, mailbox_as}
use Rattle.box_state.proofs.Kept.{uid_marked, nothing_marked}
use Rattle.box_state.proofs.mailbox.Mailbox.mark_seen.Goals as goal

kept : (c : goal.After-self-in-Some-1)
    → Keeps (record c.self.inside { items = with_item c.self.inside.items c.in-Some.index (record c.index_mut.result.now { seen = c.or-seen.result }); ready = Unready }) (after (mailbox_in c.self.inside) (Seen c.args.uid)).entries
kept c =
    let a = c.self.inside in
    let k = c.self.invariant in
    let at : IsEntryAt (mailbox_in a) c.args.uid c.in-Some.index = c.in-Some.ensures.found in
    let read = item_is (mailbox_in a) k.rules.uids a.items.items k.entries.items c.args.uid c.in-Some.index at c.index.result.now c.index.ensures in
    let written = item_is (mailbox_in a) k.rules.uids a.items.items k.entries.items c.args.uid c.in-Some.index at c.index_mut.result.now c.index_mut.ensures.value in
    let seen : c.or-seen.result ≡ marked_at a.moment at.entry.seen = c.or-seen.ensures ∙ ap (λ item. option_or item.seen (Some a.moment)) read in
    uid_marked a k (with_item a.items c.in-Some.index (record c.index_mut.result.now { seen = c.or-seen.result })) c.args.uid
    ((λ i. slice_set a.items.items c.in-Some.index (record (written i) { seen = seen i })) ∙ items_marked (mailbox_in a) k.rules.uids a.items.items k.entries.items c.args.uid c.in-Some.index at a.moment)

pub invariant_of-self-in-Some : goal.invariant_of-self-in-Some
invariant_of-self-in-Some c = kept_as _ _ (kept c)

pub returns-in-Some-clause-mailbox : goal.returns-in-Some-clause-mailbox
returns-in-Some-clause-mailbox c = mailbox_as _ _ (kept c) ∙ ap (λ k. after k.mailbox (Seen c.args.uid)) c.self.view_is

pub returns-in_default-clause-mailbox : goal.returns-in_default-clause-mailbox
returns-in_default-clause-mailbox c =
    nothing_marked c.self.inside c.self.invariant c.args.uid c.in_default.ensures.none ∙ ap (λ k. after k.mailbox (Seen c.args.uid)) c.self.view_is
