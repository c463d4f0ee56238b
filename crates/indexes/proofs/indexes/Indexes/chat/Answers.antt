use Rattle.std.proofs.Common.{◌≡◌, sym, ap, ◌∙◌, subst, Some, arith}
use Rattle.std.specs.Prelude.{filter_map}
use Rattle.std.specs.FinMap as map_of
use Rattle.std.specs.List.{AllByRecursion}
use Rattle.std.specs.Option.{option_copied, option_map}
use Rattle.contacts.proofs.Standing.{last_name_is}
use Rattle.mailbox_model.specs.Chats.{chat_mails}
use Rattle.mailbox_model.specs.Pages.{page_of}
use Rattle.mailbox_model.specs.Present.{present_cards}
use Rattle.indexes.specs.Kept.{spot_at}
use Rattle.indexes.proofs.ListedRow.{page_made}
use Rattle.indexes.proofs.Paged.{all_there, page_from, row_there, rows_there, spots_there, spots_cost, spots_of, kept_state}
use Rattle.indexes.proofs.indexes.Indexes.chat.Goals as goal

pub rows_at-requires-clause-there : goal.rows_at-requires-clause-there
rows_at-requires-clause-there g c =
    let m = c.args.mailbox.now.mailbox in
    let key = c.args.key.now in
    let same = kept_state m c.args.self.now.chats c.requires.kept.chats key c.get.result c.in-Some.state c.get.ensures c.in-Some.is in
    subst (AllByRecursion (λ s. spot_at m s.uid ≡ Some s)) (sym (spots_of m key c.in-Some.state.now same)) (spots_there m (chat_mails m key) (all_there m c.keeps_rules.ensures key))

pub returns-in_err-rows-in-Some-clause-cost : goal.returns-in_err-rows-in-Some-clause-cost
returns-in_err-rows-in-Some-clause-cost g c =
    let m = c.args.mailbox.now.mailbox in
    let key = c.args.key.now in
    let same = kept_state m c.args.self.now.chats c.requires.kept.chats key c.get.result c.in-Some.state c.get.ensures c.in-Some.is in
    omega (arith, c.rows_at.ensures.cost, spots_cost m key c.in-Some.state.now.spots (spots_of m key c.in-Some.state.now same))

pub returns-in_err-chat_page-in-Some-clause-cost :
    goal.returns-in_err-chat_page-in-Some-clause-cost
returns-in_err-chat_page-in-Some-clause-cost g c =
    let m = c.args.mailbox.now.mailbox in
    let key = c.args.key.now in
    let same = kept_state m c.args.self.now.chats c.requires.kept.chats key c.get.result c.in-Some.state c.get.ensures c.in-Some.is in
    omega (arith, c.rows_at.ensures.cost, spots_cost m key c.in-Some.state.now.spots (spots_of m key c.in-Some.state.now same))

pub returns-in-None-clause-page : goal.returns-in-None-clause-page
returns-in-None-clause-page g c =
    let m = c.args.mailbox.now.mailbox in
    let key = c.args.key.now in
    ap (option_map (λ s. page_of m key)) (sym (ap option_copied c.in-None.is) ∙ c.get.ensures)
    ∙ page_from m key (map_of.get c.args.self.now.chats key) (c.requires.kept.chats key)

pub returns-in_ok-chat_page-in-Some-clause-page : goal.returns-in_ok-chat_page-in-Some-clause-page
returns-in_ok-chat_page-in-Some-clause-page g c =
    let m = c.args.mailbox.now.mailbox in
    let key = c.args.key.now in
    let s = c.in-Some.state.now in
    let same = kept_state m c.args.self.now.chats c.requires.kept.chats key c.get.result c.in-Some.state c.get.ensures c.in-Some.is in
    let contact = option_copied c.contact_of-contact.result in
    let rows = c.in_ok-rows-in-Some.ensures.rows ∙ ap (filter_map (row_there m)) (spots_of m key s same) ∙ rows_there m (chat_mails m key) (all_there m c.keeps_rules.ensures key) in
    let made = page_made m key s same contact (λ addr is. c.contact_of-contact.ensures addr is ∙ last_name_is c.args.self.now.contacts (present_cards m) addr c.requires.kept.cards.contacts) c.in_ok-rows-in-Some.rows rows in
    ap Some (c.in_ok-chat_page-in-Some.ensures ∙ made) ∙ ap (option_map (λ s. page_of m key)) (sym (ap option_copied c.in-Some.is) ∙ c.get.ensures)
    ∙ page_from m key (map_of.get c.args.self.now.chats key) (c.requires.kept.chats key)

pub returns-in_ok-chat_page-in-Some-clause-cost : goal.returns-in_ok-chat_page-in-Some-clause-cost
returns-in_ok-chat_page-in-Some-clause-cost g c =
    let m = c.args.mailbox.now.mailbox in
    let key = c.args.key.now in
    let same = kept_state m c.args.self.now.chats c.requires.kept.chats key c.get.result c.in-Some.state c.get.ensures c.in-Some.is in
    omega (arith, c.rows_at.ensures.cost, spots_cost m key c.in-Some.state.now.spots (spots_of m key c.in-Some.state.now same))
