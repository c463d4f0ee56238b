use Rattle.std.proofs.Common.{◌≡◌, ◌∙◌, sym, ap}
use Rattle.std.specs.Option.{option_and_then, option_copied}
use Rattle.mailbox_model.specs.Chats.{chat_among}
use Rattle.thread_links.specs.declared.kept.Kept.{Kept}
use Rattle.thread_links.specs.Linked.{Linked}
use Rattle.thread_links.proofs.KeptLaws.{looked}
use Rattle.thread_links.proofs.ChangeLaws.{has_chat}
use Rattle.thread_links.proofs.links.Links.chat_of.Goals as goal

chat_none : (c : goal.After-from_residual) → option_copied c.from_residual.result ≡ chat_among c.args.self.now.cites c.args.id.now
chat_none c =
    let es = c.self.inside.kept.entries in
    let id = c.args.id.now in
    let settled = c.self.invariant (ap (λ (v : Linked). v.whole) c.self.view_is ∙ c.requires.whole) in
    let found = sym (looked es id) ∙ sym c.get.ensures.value ∙ ap option_copied c.in_err-get.was in
    ap option_copied c.from_residual.ensures ∙ sym (ap (option_and_then (λ (k : Kept). k.chat)) found) ∙ settled.chats id
    ∙ ap (λ (v : Linked). chat_among v.cites id) c.self.view_is

chat_some : (c : goal.After-as_ref) → option_copied c.as_ref.result ≡ chat_among c.args.self.now.cites c.args.id.now
chat_some c =
    let es = c.self.inside.kept.entries in
    let id = c.args.id.now in
    let settled = c.self.invariant (ap (λ (v : Linked). v.whole) c.self.view_is ∙ c.requires.whole) in
    let found = sym (looked es id) ∙ sym c.get.ensures.value ∙ ap option_copied c.in_ok-get.was in
    c.as_ref.ensures.value ∙ sym (ap (option_and_then (λ (k : Kept). k.chat)) found) ∙ settled.chats id
    ∙ ap (λ (v : Linked). chat_among v.cites id) c.self.view_is

pub returns-in_err-get-clause-chat : goal.returns-in_err-get-clause-chat
returns-in_err-get-clause-chat c = chat_none c

pub returns-in_err-get-clause-kept : goal.returns-in_err-get-clause-kept
returns-in_err-get-clause-kept c = has_chat c.from_residual.result c.args.self.now.cites c.args.id.now (chat_none c)

pub returns-clause-chat : goal.returns-clause-chat
returns-clause-chat c = chat_some c

pub returns-clause-kept : goal.returns-clause-kept
returns-clause-kept c = has_chat c.as_ref.result c.args.self.now.cites c.args.id.now (chat_some c)
