use Rattle.std.proofs.Common.{sym, ap, ◌∙◌, subst, Err, ◌++◌, ◌∷◌, []}
use Rattle.mailbox_model.specs.Mailbox.{IsMailbox}
use Rattle.box_state.specs.Entries.{entry_with}
use Rattle.box_state.specs.Kept.{with_entry}
use Rattle.box_state.specs.Inside.{mailbox_in}
use Rattle.box_state.specs.declared.ready.Ready.TheVariants.{Unready}
use Rattle.box_state.proofs.Changed.{Keeps, kept_as, mailbox_as}
use Rattle.box_state.proofs.Kept.{fault_put}
use Rattle.box_state.proofs.mailbox.Mailbox.put_fault.Goals as goal

kept : (c : goal.After-unwrap) → Keeps (record c.self.inside { items = c.push-pushed.new.self; ready = Unready }) ((mailbox_in c.self.inside).entries ++ entry_with c.args.item (Err c.args.fault) ∷ [])
kept c =
    let pushed = rw c.unwrap.ensures at c.push-pushed.ensures.items in
    fault_put c.self.inside c.self.invariant c.push-pushed.new.self c.args.item c.args.fault
    (subst (λ k. IsMailbox (with_entry k.mailbox (entry_with c.args.item (Err c.args.fault)))) (sym c.self.view_is) c.requires.rules)
    (sym (ap (λ held. record c.args.item { held = held }) c.requires.held)) pushed

pub invariant_of-self : goal.invariant_of-self
invariant_of-self c = kept_as _ _ (kept c)

pub returns-clause-mailbox : goal.returns-clause-mailbox
returns-clause-mailbox c = mailbox_as _ _ (kept c) ∙ ap (λ k. with_entry k.mailbox (entry_with c.args.item (Err c.args.fault))) c.self.view_is
