-- As time goes on, a chat of which no shown row expires stays.
use Rattle.std.proofs.Common.{◌≡◌, refl, sym, ◌∙◌, ℕ, ◌≤◌, Bool, true, false, ◌||◌, ◌&&◌, Option, Some, None, is_some, List, [], ◌∷◌, map, arith}
use Rattle.std.specs.Prelude.{if◌then◌else◌, filter, nat_le}
use Rattle.std.specs.List.{AllByRecursion}
use Rattle.std.specs.Option.{option_map_or}
use Rattle.std.proofs.lemmas.Bool.Decides.{nat_tests}
use Rattle.card_type.specs.declared.key.ChatKey.{ChatKey}
use Rattle.mailbox_model.specs.declared.row.Row.{Row}
use Rattle.mailbox_model.specs.Mailbox.{Mailbox}
use Rattle.mailbox_model.specs.Present.{Mail, spot, present}
use Rattle.mailbox_model.specs.Chats.{cites_by, chats_of, known_chat, is_chat, chat_mails}
use Rattle.mailbox_model.specs.Rows.{acting, acts_on, expiry, is_withdrawn, is_expired, row, shown_by}
use Rattle.mailbox_model.specs.Frames.{Stays}
use Rattle.mailbox_model.proofs.FrameLaws.{row_alike}
use Rattle.touched_chats.specs.Suspects.{is_due, has_due}
use Rattle.touched_chats.proofs.Lists.{each_not}
use Rattle.touched_chats.proofs.Near.{is_content_mail}

pub still_late : (end : Option ℕ) (now later : ℕ) → now ≤ later → option_map_or (λ e. nat_le e now) end false ≡ true
    → option_map_or (λ e. nat_le e later) end false ≡ true
still_late None now later h late = late
still_late (Some e) now later h late = grind (arith, nat_tests, late)

-- one that is shown and not due won't have expired
not_due : (withdrawn expired later : Bool) (r : Row) → withdrawn ≡ false → expired ≡ false
    → (is_some (if withdrawn || expired then None else Some r) && later) ≡ false → later ≡ false
not_due withdrawn expired later r w e h = sym (rw (w, e) refl) ∙ h

module _ (m n : Mailbox) (me : m.me ≡ n.me) (same : present m ≡ present n) (clock : m.now ≤ n.now) where
  pub moved_row : (t : Mail) → is_due m n.now t ≡ false → row m t ≡ row n t
  moved_row t h = row_alike m n me t (record { acts = λ i. acts_on (me i) t.placed.card (map (λ u. u.placed) (same i)); expired = λ shown. by shown (is_expired m.me m.now t) refl ∙ (λ i. is_expired (me i) n.now t) })
    where
      by : is_withdrawn (acting m t.placed.card) ≡ false → (b : Bool) → is_expired m.me m.now t ≡ b → is_expired m.me m.now t ≡ is_expired m.me n.now t
      by shown true e = e ∙ sym (still_late (expiry m.me t) m.now n.now clock e)
      by shown false e = e ∙ sym (not_due (is_withdrawn (acting m t.placed.card)) (is_expired m.me m.now t) (is_expired m.me n.now t) (shown_by m.me t (acting m t.placed.card)) shown e h)

  moved_rows : (ts : List Mail) → AllByRecursion (λ t. is_due m n.now t ≡ false) ts → AllByRecursion (λ t. row m t ≡ row n t) ts
  moved_rows [] a = tt
  moved_rows (t ∷ ts) a = (moved_row t a.0, moved_rows ts a.1)

  pub moved_mails : (key : ChatKey) → chat_mails m key ≡ chat_mails n key
  moved_mails key = λ i. filter (λ t. is_chat key (known_chat (chats_of (map (λ u. cites_by (me i) (spot u.placed) u.placed.card) (filter is_content_mail (same i)))) t.placed.card.id)) (filter is_content_mail (same i))

  pub clock_stays : (key : ChatKey) → has_due m n.now key ≡ false → Stays m n key
  clock_stays key h = record {
    me = me;
    mails = moved_mails key;
    rows = moved_rows (chat_mails m key) (each_not (is_due m n.now) (chat_mails m key) h);
  }
