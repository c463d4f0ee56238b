-- The row of the list follows from the places and the marks of the cards of the chat.
use Rattle.std.proofs.Common.{◌≡◌, refl, sym, ap, ◌∙◌, ℕ, ◌+◌, Bool, true, false, cond, Option, Some, None, is_some, List, [], ◌∷◌, map, arith}
use Rattle.std.specs.Prelude.{if◌then◌else◌, ◌||◌, filter, filter_map, count_by}
use Rattle.std.specs.List.{cons_option}
use Rattle.std.specs.Option.{option_map, option_map_or, option_or}
use Rattle.std.proofs.lemmas.List.Sums.{sum_by-cons}
use Rattle.card_type.specs.declared.key.ChatKey.{ChatKey}
use Rattle.mailbox_model.specs.declared.row.Row.{Row}
use Rattle.mailbox_model.specs.Lists.{last_of}
use Rattle.mailbox_model.specs.Mailbox.{Mailbox}
use Rattle.mailbox_model.specs.Present.{Mail, spot}
use Rattle.mailbox_model.specs.Chats.{chat_mails}
use Rattle.mailbox_model.specs.Rows.{acting, is_expired, is_fresh, is_new, is_withdrawn, row, shown_by}
use Rattle.mailbox_model.specs.ChatList.{list_row}
use Rattle.mailbox_model.specs.States.{Shown, last_spot, fresh_among, shown_as, chat_cards}

module _ (m : Mailbox) where
  abbrev new : Shown → Bool
  new c = option_map_or is_new c.mark false

  abbrev with_mark : Mail → Option Row → Shown
  with_mark t r = record { spot = spot t.placed; card = t.placed.card; mark = option_map (λ r. r.mark) r }

  fresh_rows : (ts : List Mail) → count_by is_fresh (filter_map (row m) ts) ≡ count_by new (map (shown_as m) ts)
  fresh_rows [] = refl
  fresh_rows (t ∷ ts) = by (row m t) (fresh_rows ts)
    where
      by : (o : Option Row) → count_by is_fresh (filter_map (row m) ts) ≡ count_by new (map (shown_as m) ts)
          → count_by is_fresh (cons_option o (filter_map (row m) ts)) ≡ count_by new (with_mark t o ∷ map (shown_as m) ts)
      by None h = omega (arith, h, sum_by-cons (λ c. cond (new c) 1 0) (with_mark t None) (map (shown_as m) ts))
      by (Some r) h =
          sum_by-cons (λ r. cond (is_fresh r) 1 0) r (filter_map (row m) ts)
          ∙ ap (λ n. (if is_fresh r then 1 else 0) + n) h
          ∙ sym (sum_by-cons (λ c. cond (new c) 1 0) (with_mark t (Some r)) (map (shown_as m) ts))

  pub fresh_is : (key : ChatKey) → (list_row m key).fresh ≡ fresh_among (chat_cards m key)
  fresh_is key = fresh_rows (chat_mails m key)

  abbrev date_of : Option Row → Option ℕ
  date_of o = option_map (λ r. r.date) o

  abbrev place_of : Option Shown → Option ℕ
  place_of o = option_map (λ c. c.spot.date) o

  dated : (t : Mail) → date_of (row m t) ≡ (if is_some (row m t) then Some t.placed.date else None)
  dated t = elim (is_withdrawn (acting m t.placed.card) || is_expired m.me m.now t) as (λ b. date_of (if b then None else Some (shown_by m.me t (acting m t.placed.card))) ≡ (if is_some (if b then None else Some (shown_by m.me t (acting m t.placed.card))) then Some t.placed.date else None)) [ true ↦ refl | false ↦ refl ]

  last_rows : (ts : List Mail) → date_of (last_of (filter_map (row m) ts)) ≡ place_of (last_of (filter (λ c. is_some c.mark) (map (shown_as m) ts)))
  last_rows [] = refl
  last_rows (t ∷ ts) = by (row m t) (dated t) (last_rows ts)
    where
      kept : List Shown
      kept = filter (λ c. is_some c.mark) (map (shown_as m) ts)

      either : (a : Option Row) (b : Option Shown) → date_of a ≡ place_of b → (r : Row) → r.date ≡ t.placed.date
          → date_of (option_or a (Some r)) ≡ place_of (option_or b (Some (with_mark t (Some r))))
      either None None h r e = ap Some e
      either None (Some c) h r e = cc
      either (Some x) None h r e = cc
      either (Some x) (Some c) h r e = h

      by : (o : Option Row) → date_of o ≡ (if is_some o then Some t.placed.date else None)
          → date_of (last_of (filter_map (row m) ts)) ≡ place_of (last_of kept)
          → date_of (last_of (cons_option o (filter_map (row m) ts))) ≡ place_of (last_of (cond (is_some (with_mark t o).mark) (with_mark t o ∷ kept) kept))
      by None d h = h
      by (Some r) d h = either (last_of (filter_map (row m) ts)) (last_of kept) h r cc

  spots : (o : Option Shown) → place_of o ≡ option_map (λ s. s.date) (option_map (λ c. c.spot) o)
  spots None = refl
  spots (Some c) = refl

  pub time_is : (key : ChatKey) → (list_row m key).time ≡ option_map (λ s. s.date) (last_spot (chat_cards m key))
  time_is key = last_rows (chat_mails m key) ∙ spots (last_of (filter (λ c. is_some c.mark) (map (shown_as m) (chat_mails m key))))
