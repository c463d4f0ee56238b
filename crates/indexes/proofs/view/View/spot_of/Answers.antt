use Rattle.std.proofs.Common.{sym, ap, ◌∙◌, subst}
use Rattle.mailbox_model.specs.Present.{spot_of}
use Rattle.indexes.specs.Views.{AllowsComing, seen_with}
use Rattle.indexes.proofs.Viewed.{spot_seen}
use Rattle.indexes.proofs.view.View.spot_of.Goals as goal

pub returns-in-Some : goal.returns-in-Some
returns-in-Some c =
    let m = c.self.inside.mailbox.now.mailbox in
    let coming = c.in-Some.coming in
    let is = subst (AllowsComing m) c.in-Some.is c.self.invariant in
    c.spot_after.ensures
    ∙ spot_seen m coming.change.now coming.turn.now is c.args.id.now
    ∙ ap (λ o. spot_of (seen_with m o) c.args.id.now) (sym c.in-Some.is)
    ∙ ap (λ n. spot_of n c.args.id.now) c.self.view_is
