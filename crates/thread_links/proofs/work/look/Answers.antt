use Rattle.std.proofs.Common.{◌≡◌, ◌∙◌, refl, sym, ap, Some}
use Rattle.std.specs.Option.{option_copied, option_and_then, option_eq}
use Rattle.card_type.specs.Keys.{key_eq}
use Rattle.mailbox_model.specs.declared.links.Cites.{Cites}
use Rattle.mailbox_model.specs.Chats.{chat_from}
use Rattle.thread_links.specs.declared.kept.Kept.{Kept}
use Rattle.thread_links.specs.Kept.{chat_in, parent_in}
use Rattle.thread_links.proofs.KeptLaws.{looked}
use Rattle.thread_links.proofs.Turns.{keys_same, told_move, told_none, card_is, no_card}
use Rattle.thread_links.proofs.work.look.Goals as goal

pub returns-in_default-clause-chat : goal.returns-in_default-clause-chat
returns-in_default-clause-chat c t h =
    let found = sym (looked c.args.kept.now.entries c.args.spot.now.id) ∙ sym c.get.ensures.value ∙ ap option_copied c.in_default.is in
    absurd (no_card _ t found h)

pub returns-then-is_in-clause-chat : goal.returns-then-is_in-clause-chat
returns-then-is_in-clause-chat c t h =
    let es = c.args.kept.now.entries in
    let found = sym (looked es c.args.spot.now.id) ∙ sym c.get.ensures.value ∙ ap option_copied c.in-Some.is in
    let same : c.in-Some.card.now.cites ≡ t = card_is _ c.in-Some.card.now t found h in
    ap (option_and_then (λ (k : Kept). k.chat)) found
    ∙ keys_same c.in-Some.card.now.chat (Some c.in_ok-chat.chat) (sym c.is_in.ensures ∙ c.if-is_in.true)
    ∙ ap Some (c.in_ok-chat.ensures ∙ ap (λ (x : Cites). chat_from x (option_and_then (chat_in es) (parent_in es x))) same)

pub returns-then-is_in-clause-told : goal.returns-then-is_in-clause-told
returns-then-is_in-clause-told c = told_none c.args.spot.now.id (chat_in c.args.kept.now.entries c.args.spot.now.id)

pub set_chat-before-requires : goal.set_chat-before-requires
set_chat-before-requires c =
    let found = sym (looked c.args.kept.now.entries c.args.spot.now.id) ∙ sym c.get.ensures.value ∙ ap option_copied c.in-Some.is in
    record { kept = rw found refl }

pub returns-clause-chat : goal.returns-clause-chat
returns-clause-chat c t h =
    let es = c.args.kept.now.entries in
    let found = sym (looked es c.args.spot.now.id) ∙ sym c.get.ensures.value ∙ ap option_copied c.in-Some.is in
    let same : c.in-Some.card.now.cites ≡ t = card_is _ c.in-Some.card.now t found h in
    c.set_chat-before.ensures.chat
    ∙ ap Some (c.in_ok-chat.ensures ∙ ap (λ (x : Cites). chat_from x (option_and_then (chat_in es) (parent_in es x))) same)

pub returns-clause-told : goal.returns-clause-told
returns-clause-told c =
    let es = c.args.kept.now.entries in
    let found = sym (looked es c.args.spot.now.id) ∙ sym c.get.ensures.value ∙ ap option_copied c.in-Some.is in
    let other = ap (λ o. option_eq key_eq o (Some c.in_ok-chat.chat)) (ap (option_and_then (λ (k : Kept). k.chat)) found) ∙ sym c.is_in.ensures ∙ c.if-is_in.false in
    rw (c.in_ok-id.ensures, c.set_chat-before.ensures.before, c.in_ok-after.ensures, c.set_chat-before.ensures.chat)
    (told_move c.args.spot.now.id (chat_in es c.args.spot.now.id) (Some c.in_ok-chat.chat) other)
