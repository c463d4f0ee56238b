-- The parts of the page of a chat.
use Rattle.std.proofs.Common.{◌≡◌, refl, ap, true, false, cond, Option, Some, None, is_some, List, [], ◌∷◌, map}
use Rattle.std.specs.Prelude.{if◌then◌else◌, ◌||◌, filter, filter_map, unwrap_or}
use Rattle.std.specs.List.{cons_option}
use Rattle.std.specs.Option.{option_map, option_or}
use Rattle.card_type.specs.declared.key.ChatKey.{ChatKey}
use Rattle.card_type.specs.declared.key.ChatKey.TheVariants.{SelfChat, Single, Group, Thread}
use Rattle.card_type.specs.declared.spot.Spot.{Spot}
use Rattle.card_type.specs.Kinds.{has_some}
use Rattle.card_type.specs.KeyTexts.{key_text}
use Rattle.mailbox_model.specs.declared.roster.Roster.{Roster}
use Rattle.mailbox_model.specs.declared.row.Row.{Row}
use Rattle.mailbox_model.specs.ChatList.{list_row, list_row_by}
use Rattle.mailbox_model.specs.Chats.{chat_mails}
use Rattle.mailbox_model.specs.Contacts.{all_cards, contact_name, given_name}
use Rattle.mailbox_model.specs.Lists.{Bytes, last_of}
use Rattle.mailbox_model.specs.Mailbox.{Mailbox}
use Rattle.mailbox_model.specs.Names.{name_by}
use Rattle.mailbox_model.specs.Pages.{page_by, page_of, shown_rows}
use Rattle.mailbox_model.specs.Present.{Mail, spot}
use Rattle.mailbox_model.specs.Rosters.{roster, roster_of}
use Rattle.mailbox_model.specs.Rows.{acting, is_expired, is_withdrawn, row, shown_by}
use Rattle.mailbox_model.specs.States.{Shown, shown_as}
use Rattle.mailbox_model.proofs.StateLaws.{fresh_is}
use Rattle.chat_view.specs.Parts.{row_spot, state}

module _ (m : Mailbox) where
  pub name_of_contact : (key : ChatKey) (r : Roster) (contact : Option Bytes)
      → ((addr : Bytes) → key ≡ Single addr → contact ≡ given_name (all_cards m) addr)
      → name_by key r (unwrap_or contact) ≡ name_by key r (contact_name m)
  name_of_contact SelfChat r contact is = refl
  name_of_contact (Single a) r contact is = ap (λ o. let text = unwrap_or o a in if has_some text then text else key_text (Single a)) (is a refl)
  name_of_contact (Group g) r contact is = refl
  name_of_contact (Thread i) r contact is = refl

  cards_of : (ts : List Mail) → map (λ t. t.placed.card) ts ≡ map (λ (c : Shown). c.card) (map (shown_as m) ts)
  cards_of [] = refl
  cards_of (t ∷ ts) = ap (λ cs. t.placed.card ∷ cs) (cards_of ts)

  roster_is : (key : ChatKey) → roster m key ≡ (state m key).roster
  roster_is key = ap (roster_of m.me key) (cards_of (chat_mails m key))

  pub page_is : (key : ChatKey)
      → page_of m key ≡ page_by key (name_by key (state m key).roster (contact_name m)) (state m key).roster (shown_rows m key)
  page_is key = ap (λ r. page_by key (name_by key r (contact_name m)) r (shown_rows m key)) (roster_is key)

  pub list_is : (key : ChatKey)
      → list_row m key ≡ list_row_by key (name_by key (state m key).roster (contact_name m)) (state m key).fresh (last_of (shown_rows m key))
  list_is key = λ i. list_row_by key (name_by key (roster_is key i) (contact_name m)) (fresh_is m key i) (last_of (shown_rows m key))

  abbrev with_mark : Mail → Option Row → Shown
  with_mark t r = record { spot = spot t.placed; card = t.placed.card; mark = option_map (λ r. r.mark) r }

  abbrev spot_of : Option Row → Option Spot
  spot_of o = option_map row_spot o

  abbrev place_of : Option Shown → Option Spot
  place_of o = option_map (λ c. c.spot) o

  placed : (t : Mail) → spot_of (row m t) ≡ (if is_some (row m t) then Some (spot t.placed) else None)
  placed t = elim (is_withdrawn (acting m t.placed.card) || is_expired m.me m.now t) as (λ b. spot_of (if b then None else Some (shown_by m.me t (acting m t.placed.card))) ≡ (if is_some (if b then None else Some (shown_by m.me t (acting m t.placed.card))) then Some (spot t.placed) else None)) [ true ↦ refl | false ↦ refl ]

  last_rows : (ts : List Mail) → spot_of (last_of (filter_map (row m) ts)) ≡ place_of (last_of (filter (λ c. is_some c.mark) (map (shown_as m) ts)))
  last_rows [] = refl
  last_rows (t ∷ ts) = by (row m t) (placed t) (last_rows ts)
    where
      kept : List Shown
      kept = filter (λ c. is_some c.mark) (map (shown_as m) ts)

      either : (a : Option Row) (b : Option Shown) → spot_of a ≡ place_of b → (r : Row) → row_spot r ≡ spot t.placed
          → spot_of (option_or a (Some r)) ≡ place_of (option_or b (Some (with_mark t (Some r))))
      either None None h r e = ap Some e
      either None (Some c) h r e = cc
      either (Some x) None h r e = cc
      either (Some x) (Some c) h r e = h

      by : (o : Option Row) → spot_of o ≡ (if is_some o then Some (spot t.placed) else None)
          → spot_of (last_of (filter_map (row m) ts)) ≡ place_of (last_of kept)
          → spot_of (last_of (cons_option o (filter_map (row m) ts))) ≡ place_of (last_of (cond (is_some (with_mark t o).mark) (with_mark t o ∷ kept) kept))
      by None d h = h
      by (Some r) d h = either (last_of (filter_map (row m) ts)) (last_of kept) h r (some_same d)
        where
          some_same : {x y : Spot} → Some x ≡ Some y → x ≡ y
          some_same e = cc

  pub last_is : (key : ChatKey) → option_map row_spot (last_of (shown_rows m key)) ≡ (state m key).last
  last_is key = last_rows (chat_mails m key)
