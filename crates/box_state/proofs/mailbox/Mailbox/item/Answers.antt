use Rattle.std.proofs.Common.{sym, ap, ◌∙◌, subst}
use Rattle.mailbox_model.specs.Mailbox.{item_at}
use Rattle.box_state.specs.Entries.{IsEntryAt}
use Rattle.box_state.specs.Inside.{mailbox_in}
use Rattle.box_state.proofs.Indexes.{item_found}
use Rattle.box_state.proofs.mailbox.Mailbox.item.Goals as goal

pub returns : goal.returns
returns c =
    let at = subst (λ k. IsEntryAt k.mailbox c.args.uid c.in_ok-index.index) (sym c.self.view_is) c.in_ok-index.ensures.found in
    item_found (mailbox_in c.self.inside) c.self.invariant.rules.uids c.self.inside.items.items c.self.invariant.entries.items c.args.uid c.in_ok-index.index at c.index.result.now c.index.ensures
    ∙ ap (λ k. item_at k.mailbox c.args.uid) c.self.view_is
