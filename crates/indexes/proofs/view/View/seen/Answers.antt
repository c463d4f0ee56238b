use Rattle.std.proofs.Common.{sym, ap, ◌∙◌, subst}
use Rattle.indexes.specs.Views.{AllowsComing, seen_at, seen_of, seen_with}
use Rattle.indexes.proofs.Viewed.{entry_seen}
use Rattle.indexes.proofs.view.View.seen.Goals as goal

pub returns-in-Some : goal.returns-in-Some
returns-in-Some c =
    let m = c.self.inside.mailbox.now.mailbox in
    let coming = c.in-Some.coming in
    let is = subst (AllowsComing m) c.in-Some.is c.self.invariant in
    c.seen_after.ensures
    ∙ ap seen_of (entry_seen m coming.change.now coming.turn.now is c.args.uid)
    ∙ ap (λ o. seen_at (seen_with m o) c.args.uid) (sym c.in-Some.is)
    ∙ ap (λ n. seen_at n c.args.uid) c.self.view_is
