use Rattle.std.proofs.Common.{sym, ap, ◌∙◌}
use Rattle.std.specs.FinMap as map
use Rattle.chatlist.specs.Places.{without_key}
use Rattle.chatlist.proofs.Kept.{date_of, dates_without, nothing_left}
use Rattle.chatlist.proofs.list.ChatList.drop_key.Goals as goal

pub remove-requires-in-Some : goal.remove-requires-in-Some
remove-requires-in-Some c = date_of c.self.inside.dates c.self.inside.order.chats c.self.invariant c.args.key.now ∙ sym c.remove.ensures.before ∙ c.in-Some.is

pub invariant_of-self : goal.invariant_of-self
invariant_of-self c =
    c.remove.ensures.after ∙ dates_without c.self.inside.dates c.self.inside.order.chats c.self.invariant c.args.key.now
    ∙ ap map.from_entries (sym c.remove-in-Some.ensures)

pub invariant_of-self-in_default : goal.invariant_of-self-in_default
invariant_of-self-in_default c =
    let key = c.args.key.now in
    let chats = c.self.inside.order.chats in
    let none = date_of c.self.inside.dates chats c.self.invariant key ∙ sym c.remove.ensures.before ∙ c.in_default.is in
    c.remove.ensures.after ∙ dates_without c.self.inside.dates chats c.self.invariant key ∙ ap map.from_entries (sym (nothing_left key chats none))

pub returns-in_default : goal.returns-in_default
returns-in_default c =
    let key = c.args.key.now in
    let chats = c.self.inside.order.chats in
    let none = date_of c.self.inside.dates chats c.self.invariant key ∙ sym c.remove.ensures.before ∙ c.in_default.is in
    nothing_left key chats none ∙ ap (without_key key) c.self.view_is
