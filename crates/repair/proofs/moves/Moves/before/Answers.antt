use Rattle.std.proofs.Common.{◌∙◌, sym, ap}
use Rattle.std.specs.Option.{option_copied}
use Rattle.std.specs.Prelude.{unwrap_or}
use Rattle.mailbox_model.specs.Chats.{chat_among}
use Rattle.effects.proofs.ById.{looked}
use Rattle.repair.specs.Moves.{chat_before}
use Rattle.repair.proofs.Noted.{Entries}
use Rattle.repair.proofs.moves.Moves.before.Goals as goal

pub returns-in-Some : goal.returns-in-Some
returns-in-Some c =
    let id = c.args.id.now in
    let now = c.args.links.now.cites in
    let found = sym (ap option_copied c.in-Some.is) ∙ c.get.ensures.value ∙ looked c.self.inside.before.entries id in
    c.as_ref.ensures.value ∙ ap (λ o. unwrap_or o (chat_among now id)) found ∙ ap (λ (entries : Entries). chat_before entries now id) c.self.view_is

pub returns-in-None : goal.returns-in-None
returns-in-None c =
    let id = c.args.id.now in
    let now = c.args.links.now.cites in
    let found = sym (ap option_copied c.in-None.is) ∙ c.get.ensures.value ∙ looked c.self.inside.before.entries id in
    c.chat_of.ensures.chat ∙ ap (λ o. unwrap_or o (chat_among now id)) found ∙ ap (λ (entries : Entries). chat_before entries now id) c.self.view_is
