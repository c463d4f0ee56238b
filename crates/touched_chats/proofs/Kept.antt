-- What is kept of a chat that stays, stays.
use Rattle.std.proofs.Common.{◌≡◌, ap, ◌∙◌, refl, Option, None, is_some, List, [], ◌∷◌, map}
use Rattle.std.specs.Prelude.{if◌then◌else◌}
use Rattle.std.specs.List.{AllByRecursion}
use Rattle.std.specs.Option.{option_map}
use Rattle.card_type.specs.declared.key.ChatKey.{ChatKey}
use Rattle.mailbox_model.specs.declared.row.Row.{Row}
use Rattle.mailbox_model.specs.Mailbox.{Mailbox}
use Rattle.mailbox_model.specs.Present.{Mail, spot}
use Rattle.mailbox_model.specs.Chats.{chat_mails}
use Rattle.mailbox_model.specs.Rows.{expiry, row}
use Rattle.mailbox_model.specs.Frames.{Stays}
use Rattle.mailbox_model.specs.States.{Shown, shown_as, chat_cards}

marked_alike : (m n : Mailbox) (ts : List Mail) → AllByRecursion (λ t. row m t ≡ row n t) ts → map (shown_as m) ts ≡ map (shown_as n) ts
marked_alike m n [] a = refl
marked_alike m n (t ∷ ts) a = λ i. shown (a.0 i) ∷ marked_alike m n ts a.1 i
  where
    shown : Option Row → Shown
    shown o = record { spot = spot t.placed; card = t.placed.card; mark = option_map (λ r. r.mark) o }

pub cards_stay : (m n : Mailbox) (key : ChatKey) → Stays m n key → chat_cards m key ≡ chat_cards n key
cards_stay m n key stays = marked_alike m n (chat_mails m key) stays.rows ∙ ap (map (shown_as n)) stays.mails

pub deadlines_stay : (m n : Mailbox) (key : ChatKey) → Stays m n key
    → AllByRecursion (λ t. (if is_some (row m t) then expiry m.me t else None) ≡ (if is_some (row n t) then expiry n.me t else None)) (chat_mails m key)
deadlines_stay m n key stays = each (chat_mails m key) stays.rows
  where
    each : (ts : List Mail) → AllByRecursion (λ t. row m t ≡ row n t) ts
        → AllByRecursion (λ t. (if is_some (row m t) then expiry m.me t else None) ≡ (if is_some (row n t) then expiry n.me t else None)) ts
    each [] a = tt
    each (t ∷ ts) a = (λ i. if is_some (a.0 i) then expiry (stays.me i) t else None, each ts a.1)
