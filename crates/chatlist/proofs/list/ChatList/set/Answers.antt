use Rattle.std.proofs.Common.{◌≡◌, sym, ap, ◌∙◌}
use Rattle.std.specs.FinMap as map
use Rattle.std.specs.BTreeMap.{is_at}
use Rattle.std.specs.Map.{lookup}
use Rattle.card_type.specs.Keys.{key_cmp}
use Rattle.lists.specs.Sorted.{insert_by}
use Rattle.mailbox_model.specs.ChatList.{dated_cmp}
use Rattle.chatlist.specs.Places.{with_place}
use Rattle.chatlist.proofs.Kept.{date_of, dates_with, nothing_left}
use Rattle.chatlist.proofs.list.ChatList.set.Goals as goal

-- the date before is that of the place which the chat has
pub shift-requires-clause-date : goal.shift-requires-clause-date
shift-requires-clause-date c =
    ap (lookup (is_at (key_cmp c.args.key.now))) c.reserve.ensures.same
    ∙ date_of c.self.inside.dates c.self.inside.order.chats c.self.invariant c.args.key.now ∙ c.in-Ok.ensures.before

pub invariant_of-self-in-Ok : goal.invariant_of-self-in-Ok
invariant_of-self-in-Ok c =
    let key = c.args.key.now in
    let placed = c.shift.ensures ∙ ap (with_place key c.args.last) c.reserve.ensures.same in
    c.in-Ok.ensures.ok ∙ dates_with c.self.inside.dates c.self.inside.order.chats c.self.invariant key c.args.last ∙ ap map.from_entries (sym placed)

pub insert-requires-2-clause-absent : goal.insert-requires-2-clause-absent
insert-requires-2-clause-absent c =
    let key = c.args.key.now in
    ap (λ k. lookup (is_at (key_cmp k)) c.reserve.new.self.chats) c.in_ok-own.ensures
    ∙ ap (lookup (is_at (key_cmp key))) c.reserve.ensures.same
    ∙ date_of c.self.inside.dates c.self.inside.order.chats c.self.invariant key ∙ c.in_default.ensures.back.1

pub invariant_of-self-2 : goal.invariant_of-self-2
invariant_of-self-2 c =
    let key = c.args.key.now in
    let chats = c.self.inside.order.chats in
    let none = date_of c.self.inside.dates chats c.self.invariant key ∙ c.in_default.ensures.back.1 in
    let placed : c.insert-2.new.self.chats ≡ with_place key c.args.last chats =
    c.insert-2.ensures ∙ ap (λ k. insert_by dated_cmp (k, c.args.last) c.reserve.new.self.chats) c.in_ok-own.ensures
    ∙ ap (insert_by dated_cmp (key, c.args.last)) (c.reserve.ensures.same ∙ nothing_left key chats none) in
    c.in_ok-insert.ensures.ok ∙ ap (λ m. map.insert m c.in_ok-copy.field-0 c.args.last) c.in_default.ensures.err
    ∙ ap (λ k. map.insert c.self.inside.dates k c.args.last) c.in_ok-copy.ensures
    ∙ dates_with c.self.inside.dates chats c.self.invariant key c.args.last ∙ ap map.from_entries (sym placed)

pub returns-clause-ok : goal.returns-clause-ok
returns-clause-ok c =
    let key = c.args.key.now in
    let chats = c.self.inside.order.chats in
    let none = date_of c.self.inside.dates chats c.self.invariant key ∙ c.in_default.ensures.back.1 in
    c.insert-2.ensures ∙ ap (λ k. insert_by dated_cmp (k, c.args.last) c.reserve.new.self.chats) c.in_ok-own.ensures
    ∙ ap (insert_by dated_cmp (key, c.args.last)) (c.reserve.ensures.same ∙ nothing_left key chats none)
    ∙ ap (with_place key c.args.last) c.self.view_is
