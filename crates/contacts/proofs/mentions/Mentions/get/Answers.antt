use Rattle.std.proofs.Common.{◌∙◌, sym, ap}
use Rattle.std.specs.Option.{option_copied}
use Rattle.contacts.specs.Kept.{mentions_at}
use Rattle.contacts.proofs.ByAddr.{count_of, looked}
use Rattle.contacts.proofs.mentions.Mentions.get.Goals as goal

pub returns-in-Some : goal.returns-in-Some
returns-in-Some c =
    let found = sym (ap option_copied c.in-Some.is) ∙ c.get.ensures.value in
    ap count_of (found ∙ looked c.self.inside.counts.entries c.args.addr.now) ∙ ap (λ counts. mentions_at counts c.args.addr.now) c.self.view_is

pub returns-in-None : goal.returns-in-None
returns-in-None c =
    let found = sym (ap option_copied c.in-None.is) ∙ c.get.ensures.value in
    ap count_of (found ∙ looked c.self.inside.counts.entries c.args.addr.now) ∙ ap (λ counts. mentions_at counts c.args.addr.now) c.self.view_is
