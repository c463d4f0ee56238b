-- Every answer, over what it follows from: the own address, the moment, the present mails and the faults.
use Rattle.std.proofs.Common.{◌≡◌, refl, ◌∙◌, sym, ℕ, Bool, Option, Some, None, List, map, length}
use Rattle.std.specs.Prelude.{if◌then◌else◌, filter, filter_map, find, option_map, count_by}
use Rattle.std.specs.List.{list_any}
use Rattle.lists.specs.Distinct.{firsts}
use Rattle.lists.specs.Sorted.{sorted_by}
use Rattle.kit.specs.Options.{◌>>=◌}
use Rattle.card_type.specs.declared.card.Card.{Card}
use Rattle.card_type.specs.declared.key.ChatKey.{ChatKey}
use Rattle.card_type.specs.Keys.{key_eq}
use Rattle.card_type.specs.Kinds.{kind_of, is_content}
use Rattle.mailbox_model.specs.declared.list.ListRow.{ListRow}
use Rattle.mailbox_model.specs.declared.list.FaultRow.{FaultRow}
use Rattle.mailbox_model.specs.declared.page.ChatPage.{ChatPage}
use Rattle.mailbox_model.specs.declared.roster.Roster.{Roster}
use Rattle.mailbox_model.specs.declared.row.Row.{Row}
use Rattle.mailbox_model.specs.declared.row.UpdateRow.{UpdateRow}
use Rattle.mailbox_model.specs.Lists.{Bytes, last_of}
use Rattle.mailbox_model.specs.Mailbox.{Mailbox}
use Rattle.mailbox_model.specs.Present.{Mail, spot, has_id, present}
use Rattle.mailbox_model.specs.Chats.{Known, known_chat, cites_by, chats_of, is_chat}
use Rattle.mailbox_model.specs.Rows.{acts_on, row_by, is_fresh}
use Rattle.mailbox_model.specs.Rosters.{roster_of}
use Rattle.mailbox_model.specs.Contacts.{name_among, contacts_by}
use Rattle.mailbox_model.specs.Names.{name_by}
use Rattle.mailbox_model.specs.Pages.{page_by, app_updates}
use Rattle.mailbox_model.specs.ChatList.{list_row_by, list_cmp, list_page}
use Rattle.mailbox_model.specs.Printed.{list_text, chat_text, contacts_text, updates_text}
use Rattle.mailbox_model.specs.Answers.{Question, has_info, answer}
use Rattle.mailbox_model.specs.Answers.Question.{AllChats, OneChat, AllContacts, AllUpdates, InfoUpdates}

abbrev pub is_shown_kind : Mail → Bool
is_shown_kind t = is_content (kind_of t.placed.card)

module _ (me : Bytes) (now : ℕ) (ps : List Mail) where
  abbrev pub contents_in : List Mail
  contents_in = filter is_shown_kind ps

  abbrev pub chats_in : Known
  chats_in = chats_of (map (λ t. cites_by me (spot t.placed) t.placed.card) contents_in)

  abbrev pub mails_in : ChatKey → List Mail
  mails_in key = filter (λ t. is_chat key (known_chat chats_in t.placed.card.id)) contents_in

  abbrev pub row_in : Mail → Option Row
  row_in t = row_by me now t (acts_on me t.placed.card (map (λ u. u.placed) ps))

  abbrev pub roster_in : ChatKey → Roster
  roster_in key = roster_of me key (map (λ t. t.placed.card) (mails_in key))

  abbrev pub cards_in : List Card
  cards_in = map (λ p. p.card) (map (λ t. t.placed) ps)

  abbrev pub name_in : ChatKey → Bytes
  name_in key = name_by key (roster_in key) (name_among cards_in)

  abbrev pub rows_in : ChatKey → List Row
  rows_in key = filter_map row_in (mails_in key)

  abbrev pub keys_in : List ChatKey
  keys_in = firsts key_eq (map (λ k. k.1) chats_in)

  abbrev pub page_in : ChatKey → Option ChatPage
  page_in key = if list_any (key_eq key) keys_in then Some (page_by key (name_in key) (roster_in key) (rows_in key)) else None

  abbrev pub list_row_in : ChatKey → ListRow
  list_row_in key = list_row_by key (name_in key) (count_by is_fresh (rows_in key)) (last_of (rows_in key))

  abbrev pub list_rows_in : List ListRow
  list_rows_in = sorted_by list_cmp (map list_row_in keys_in)

  abbrev pub updates_in : Bytes → Option (List UpdateRow)
  updates_in id = find (has_id id) contents_in >>= row_in >>= app_updates

  abbrev pub answer_in : List FaultRow → Question → Option Bytes
  answer_in faults AllChats = Some (list_text (record { rows = list_rows_in; faults = faults }))
  answer_in faults (OneChat key) = option_map chat_text (page_in key)
  answer_in faults AllContacts = Some (contacts_text (contacts_by me cards_in))
  answer_in faults (AllUpdates id) = option_map (λ rows. updates_text (length rows) rows) (updates_in id)
  answer_in faults (InfoUpdates id) = option_map (λ rows. updates_text (length rows) (filter has_info rows)) (updates_in id)

pub answer_is : (m : Mailbox) (question : Question)
    → answer m question ≡ answer_in m.me m.now (present m) (list_page m).faults question
answer_is m AllChats = refl
answer_is m (OneChat key) = refl
answer_is m AllContacts = refl
answer_is m (AllUpdates id) = refl
answer_is m (InfoUpdates id) = refl

pub same_parts : (m n : Mailbox) → m.me ≡ n.me → m.now ≡ n.now → present m ≡ present n
    → (list_page m).faults ≡ (list_page n).faults → (question : Question) → answer m question ≡ answer n question
same_parts m n me now mails faults question =
    answer_is m question ∙ (λ i. answer_in (me i) (now i) (mails i) (faults i) question) ∙ sym (answer_is n question)
