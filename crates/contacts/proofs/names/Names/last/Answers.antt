use Rattle.std.proofs.Common.{◌∙◌, sym, ap}
use Rattle.std.specs.Option.{option_copied}
use Rattle.contacts.specs.Kept.{names_at, last_name}
use Rattle.contacts.proofs.ByAddr.{names_of, looked}
use Rattle.contacts.proofs.names.Names.last.Goals as goal

pub returns-in-Some : goal.returns-in-Some
returns-in-Some c =
    let addr = c.args.addr.now in
    let found = sym (ap option_copied c.in-Some.is) ∙ c.get.ensures.value ∙ looked c.self.inside.by_addr.entries addr in
    c.last.ensures ∙ ap (λ given. last_name (names_of given)) found ∙ ap (λ names. last_name (names_at names addr)) c.self.view_is

pub returns-in-None : goal.returns-in-None
returns-in-None c =
    let addr = c.args.addr.now in
    let found = sym (ap option_copied c.in-None.is) ∙ c.get.ensures.value ∙ looked c.self.inside.by_addr.entries addr in
    ap (λ given. last_name (names_of given)) found ∙ ap (λ names. last_name (names_at names addr)) c.self.view_is
