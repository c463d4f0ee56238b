-- The row of a chat in the list and its page, from what is kept of it.
use Rattle.std.proofs.Common.{◌≡◌, sym, ap, ◌∙◌, Option, List}
use Rattle.std.specs.Prelude.{unwrap_or}
use Rattle.card_type.specs.declared.key.ChatKey.{ChatKey}
use Rattle.card_type.specs.declared.key.ChatKey.TheVariants.{Single}
use Rattle.mailbox_model.specs.declared.row.Row.{Row}
use Rattle.mailbox_model.specs.ChatList.{list_row, list_row_by}
use Rattle.mailbox_model.specs.Contacts.{all_cards, given_name}
use Rattle.mailbox_model.specs.Lists.{Bytes, last_of}
use Rattle.mailbox_model.specs.Mailbox.{Mailbox}
use Rattle.mailbox_model.specs.Names.{name_by}
use Rattle.mailbox_model.specs.Pages.{page_by, page_of, shown_rows}
use Rattle.chat_view.specs.declared.state.ChatState.{ChatState}
use Rattle.chat_view.specs.Parts.{state}
use Rattle.chat_view.proofs.Parts.{list_is, name_of_contact, page_is}

module _ (m : Mailbox) (key : ChatKey) (s : ChatState) (same : s ≡ state m key) (contact : Option Bytes)
    (named : (addr : Bytes) → key ≡ Single addr → contact ≡ given_name (all_cards m) addr) where
  pub row_is : (last : Option Row) → last ≡ last_of (shown_rows m key)
      → list_row_by s.key (name_by s.key s.roster (unwrap_or contact)) s.fresh last ≡ list_row m key
  row_is last is =
      (λ i. list_row_by (same i).key (name_by (same i).key (same i).roster (unwrap_or contact)) (same i).fresh (is i))
      ∙ ap (λ name. list_row_by key name (state m key).fresh (last_of (shown_rows m key))) (name_of_contact m key (state m key).roster contact named)
      ∙ sym (list_is m key)

  pub page_made : (rows : List Row) → rows ≡ shown_rows m key
      → page_by key (name_by key s.roster (unwrap_or contact)) s.roster rows ≡ page_of m key
  page_made rows are =
      (λ i. page_by key (name_by key (same i).roster (unwrap_or contact)) (same i).roster (are i))
      ∙ ap (λ name. page_by key name (state m key).roster (shown_rows m key)) (name_of_contact m key (state m key).roster contact named)
      ∙ sym (page_is m key)
