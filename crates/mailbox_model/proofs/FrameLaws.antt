-- A chat of which nothing differs keeps its page, and its row in the list.
use Rattle.std.proofs.Common.{◌≡◌, refl, sym, ap, ◌∙◌, ◌||◌, Bool, true, false, Some, None, List, [], ◌∷◌, map}
use Rattle.std.specs.Prelude.{if◌then◌else◌, filter_map, count_by}
use Rattle.std.specs.List.{list_any, AllByRecursion, cons_option}
use Rattle.card_type.specs.declared.key.ChatKey.{ChatKey}
use Rattle.card_type.specs.declared.key.ChatKey.TheVariants.{SelfChat, Single, Group, Thread}
use Rattle.card_type.specs.Kinds.{has_some}
use Rattle.card_type.specs.Keys.{key_eq}
use Rattle.card_type.specs.KeyTexts.{key_text}
use Rattle.mailbox_model.specs.Lists.{last_of}
use Rattle.mailbox_model.specs.Mailbox.{Mailbox}
use Rattle.mailbox_model.specs.Present.{Mail}
use Rattle.mailbox_model.specs.Chats.{chat_mails}
use Rattle.mailbox_model.specs.Rows.{acting, is_withdrawn, is_expired, is_fresh, row, shown_by}
use Rattle.mailbox_model.specs.Rosters.{roster_of, roster}
use Rattle.mailbox_model.specs.Contacts.{contact_name}
use Rattle.mailbox_model.specs.Names.{name_or_empty, name}
use Rattle.mailbox_model.specs.Pages.{keys, page_by, page, shown_rows}
use Rattle.mailbox_model.specs.ChatList.{list_row, list_row_by}
use Rattle.mailbox_model.specs.Frames.{IsCardAlike, IsChatAlike, NameStays, Stays}
use Rattle.mailbox_model.proofs.ListLaws.{keys_are}

-- ---- a card with the same around it has the same row

pub row_alike : (m n : Mailbox) → m.me ≡ n.me → (t : Mail) → IsCardAlike m n t → row m t ≡ row n t
row_alike m n me t s = by (is_withdrawn (acting m t.placed.card)) refl
  where
    rows : shown_by m.me t (acting m t.placed.card) ≡ shown_by n.me t (acting n t.placed.card)
    rows = λ i. shown_by (me i) t (s.acts i)

    by : (b : Bool) → is_withdrawn (acting m t.placed.card) ≡ b → row m t ≡ row n t
    by true e =
        ap (λ b. if b || is_expired m.me m.now t then None else Some (shown_by m.me t (acting m t.placed.card))) e
        ∙ sym (ap (λ b. if b || is_expired n.me n.now t then None else Some (shown_by n.me t (acting n t.placed.card))) (ap is_withdrawn (sym s.acts) ∙ e))
    by false e = λ i. if is_withdrawn (s.acts i) || s.expired e i then None else Some (rows i)

-- ---- a chat that stays has the same page

pub rows_stay : (m n : Mailbox) (ts : List Mail) → AllByRecursion (λ t. row m t ≡ row n t) ts
    → filter_map (row m) ts ≡ filter_map (row n) ts
rows_stay m n [] a = refl
rows_stay m n (t ∷ ts) a = λ i. cons_option (a.0 i) (rows_stay m n ts a.1 i)

module _ (m n : Mailbox) (key : ChatKey) (stays : Stays m n key) where
  pub roster_stays : roster m key ≡ roster n key
  roster_stays = λ i. roster_of (stays.me i) key (map (λ t. t.placed.card) (stays.mails i))

  pub shown_stays : shown_rows m key ≡ shown_rows n key
  shown_stays = rows_stay m n (chat_mails m key) stays.rows ∙ ap (filter_map (row n)) stays.mails

  module _ (called : NameStays m n key) where
    pub name_stays : name m key ≡ name n key
    name_stays = ap (λ text. if has_some text then text else key_text key) (by key refl)
      where
        by : (k : ChatKey) → key ≡ k
            → name_or_empty k (roster m key) (contact_name m) ≡ name_or_empty k (roster n key) (contact_name n)
        by SelfChat e = refl
        by (Single a) e = called a e
        by (Group g) e = ap (λ r. r.name) roster_stays
        by (Thread i) e = ap (λ r. r.name) roster_stays

    pub page_stays : page m key ≡ page n key
    page_stays = λ i. if there i then Some (page_by key (name_stays i) (roster_stays i) (shown_stays i)) else None
      where
        there : list_any (key_eq key) (keys m) ≡ list_any (key_eq key) (keys n)
        there = keys_are m key ∙ ap has_some stays.mails ∙ sym (keys_are n key)

    -- and the same row in the list
    pub list_row_stays : list_row m key ≡ list_row n key
    list_row_stays =
        λ i. list_row_by key (name_stays i) (count_by is_fresh (shown_stays i)) (last_of (shown_stays i))

-- ---- a chat of which nothing differs stays

alike_stays : (m n : Mailbox) → m.me ≡ n.me → (ts : List Mail) → AllByRecursion (IsCardAlike m n) ts
    → AllByRecursion (λ t. row m t ≡ row n t) ts
alike_stays m n me [] a = tt
alike_stays m n me (t ∷ ts) a = (row_alike m n me t a.0, alike_stays m n me ts a.1)

pub chat_alike : (m n : Mailbox) (key : ChatKey) → IsChatAlike m n key → Stays m n key
chat_alike m n key alike =
    record { me = alike.me; mails = alike.mails; rows = alike_stays m n alike.me (chat_mails m key) alike.each }

pub page_alike : (m n : Mailbox) (key : ChatKey) → IsChatAlike m n key → page m key ≡ page n key
page_alike m n key alike = page_stays m n key (chat_alike m n key alike) alike.name
