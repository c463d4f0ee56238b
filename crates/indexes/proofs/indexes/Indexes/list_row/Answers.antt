use Rattle.std.proofs.Common.{◌≡◌, sym, ap, ◌∙◌, subst, ◌+◌, ◌≤◌, Some, arith}
use Rattle.std.specs.Prelude.{IfSome, unwrap_or}
use Rattle.std.specs.Option.{option_and_then, option_copied, option_map_or}
use Rattle.std.proofs.lemmas.Result.{IfOk-weaker}
use Rattle.contacts.proofs.Standing.{last_name_is}
use Rattle.mailbox_model.specs.ChatList.{list_row, list_row_by}
use Rattle.mailbox_model.specs.Chats.{chat_mails}
use Rattle.mailbox_model.specs.Names.{name_by}
use Rattle.mailbox_model.specs.Present.{present_cards}
use Rattle.indexes.specs.Costs.{chat_cost, times_named}
use Rattle.indexes.specs.Kept.{spot_at}
use Rattle.indexes.proofs.ListedRow.{row_is}
use Rattle.indexes.proofs.Paged.{all_there, last_cost, last_row, last_there, row_there, kept_state}
use Rattle.indexes.proofs.indexes.Indexes.list_row.Goals as goal

pub last_row-requires-clause-there : goal.last_row-requires-clause-there
last_row-requires-clause-there g c =
    let m = c.args.mailbox.now.mailbox in
    let key = c.args.key.now in
    let same = kept_state m c.args.self.now.chats c.requires.kept.chats key c.get.result c.unwrap-state.result c.get.ensures c.unwrap-state.ensures in
    subst (λ s. IfSome s.last (λ spot. spot_at m spot.uid ≡ Some spot)) (sym same) (last_there m (chat_mails m key) (all_there m c.keeps_rules.ensures key))

pub returns-in_err-last-clause-cost : goal.returns-in_err-last-clause-cost
returns-in_err-last-clause-cost g c =
    let m = c.args.mailbox.now.mailbox in
    let key = c.args.key.now in
    let same = kept_state m c.args.self.now.chats c.requires.kept.chats key c.get.result c.unwrap-state.result c.get.ensures c.unwrap-state.ensures in
    omega (arith, c.last_row.ensures.cost, subst (λ s. option_map_or (λ spot. 1 + times_named m spot.id) s.last 0 ≤ chat_cost m key) (sym same) (last_cost m (chat_mails m key)))

pub returns-clause-row : goal.returns-clause-row
returns-clause-row g c =
    let m = c.args.mailbox.now.mailbox in
    let key = c.args.key.now in
    let s = c.unwrap-state.result.now in
    let same = kept_state m c.args.self.now.chats c.requires.kept.chats key c.get.result c.unwrap-state.result c.get.ensures c.unwrap-state.ensures in
    let contact = option_copied c.contact_of.result in
    let last = c.as_ref.ensures.value ∙ c.in_ok-last.ensures.row ∙ ap (λ s. option_and_then (row_there m) s.last) same ∙ last_row m (chat_mails m key) (all_there m c.keeps_rules.ensures key) in
    let made = row_is m key s same contact (λ addr is. c.contact_of.ensures addr is ∙ last_name_is c.args.self.now.contacts (present_cards m) addr c.requires.kept.cards.contacts) (option_copied c.as_ref.result) last in
    IfOk-weaker c.chat_row.result (λ row. row ≡ list_row_by s.key (name_by s.key s.roster (unwrap_or contact)) s.fresh (option_copied c.as_ref.result)) (λ row. row ≡ list_row m key) (λ row is. is ∙ made) c.chat_row.ensures

pub returns-clause-cost : goal.returns-clause-cost
returns-clause-cost g c =
    let m = c.args.mailbox.now.mailbox in
    let key = c.args.key.now in
    let same = kept_state m c.args.self.now.chats c.requires.kept.chats key c.get.result c.unwrap-state.result c.get.ensures c.unwrap-state.ensures in
    omega (arith, c.last_row.ensures.cost, subst (λ s. option_map_or (λ spot. 1 + times_named m spot.id) s.last 0 ≤ chat_cost m key) (sym same) (last_cost m (chat_mails m key)))
