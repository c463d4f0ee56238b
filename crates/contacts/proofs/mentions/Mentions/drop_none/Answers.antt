use Rattle.std.proofs.Common.{◌∙◌, sym, ap, None}
use Rattle.contacts.specs.Kept.{mentions_at}
use Rattle.contacts.proofs.ByAddr.{count_of, unchanged}
use Rattle.contacts.proofs.mentions.Mentions.drop_none.Goals as goal

pub returns-then-get-eq0 : goal.returns-then-get-eq0
returns-then-get-eq0 c other =
    let addr = c.args.addr.now in
    let none = sym c.if-get-eq0.true ∙ c.get.ensures ∙ ap (λ counts. mentions_at counts addr) (sym c.self.view_is) in
    unchanged c.self.inside.counts.entries c.remove-none.new.self.entries addr None c.remove-none.ensures.updates.0 count_of none other
    ∙ ap (λ counts. mentions_at counts other) c.self.view_is
