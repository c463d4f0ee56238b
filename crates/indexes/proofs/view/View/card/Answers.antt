use Rattle.std.proofs.Common.{sym, ap, ◌∙◌, subst}
use Rattle.mailbox_model.specs.Mailbox.{card_at}
use Rattle.indexes.specs.Views.{AllowsComing, card_of, seen_with}
use Rattle.indexes.proofs.Viewed.{entry_seen}
use Rattle.indexes.proofs.view.View.card.Goals as goal

pub returns-in-Some-clause-card : goal.returns-in-Some-clause-card
returns-in-Some-clause-card g c =
    let m = c.self.inside.mailbox.now.mailbox in
    let coming = c.in-Some.coming in
    let is = subst (AllowsComing m) c.in-Some.is c.self.invariant in
    c.card_after.ensures.card
    ∙ ap card_of (entry_seen m coming.change.now coming.turn.now is c.args.uid)
    ∙ ap (λ o. card_at (seen_with m o) c.args.uid) (sym c.in-Some.is)
    ∙ ap (λ n. card_at n c.args.uid) c.self.view_is
