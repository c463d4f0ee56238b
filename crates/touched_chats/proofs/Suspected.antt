-- A suspect chat that has a card, before or after, is touched.
use Rattle.std.proofs.Common.{◌≡◌, ◌↔◌, false, ◌∙◌, true, ◌||◌, ◌++◌, inl, inr, ⊎_elim}
use Rattle.std.specs.List.{list_any}
use Rattle.std.proofs.lemmas.Bool.{or_right, or_cases}
use Rattle.std.proofs.lemmas.List.Folds.{list_any-append}
use Rattle.card_type.specs.declared.key.ChatKey.{ChatKey}
use Rattle.mailbox_model.specs.declared.change.Change.{Change}
use Rattle.mailbox_model.specs.declared.turn.Turn.{Turn}
use Rattle.mailbox_model.specs.Mailbox.{Mailbox, after, full, IsMailbox, IsValidChange}
use Rattle.mailbox_model.specs.Turns.{turn, IsTurn}
use Rattle.mailbox_model.specs.Chats.{chat_mails, cites}
use Rattle.mailbox_model.proofs.RuleLaws.{change_keeps}
use Rattle.mailbox_model.proofs.TurnLaws.{turn_law}
use Rattle.touched_chats.specs.Touched.{is_concerned, has_chat, IsTouched}
use Rattle.touched_chats.specs.Suspects.{is_moved, is_turned, is_renamed, has_due, is_suspect}
use Rattle.touched_chats.proofs.Staying.{same_me}
use Rattle.touched_chats.proofs.Covered.{touched_suspect}
use Rattle.touched_chats.proofs.Exact.{moved_touched, turned_concerned}
use Rattle.touched_chats.proofs.Renamed.{renamed_touched}
use Rattle.touched_chats.proofs.Due.{due_touched}

pub suspect_touched : (m n : Mailbox) (turn : Turn) (key : ChatKey) → m.me ≡ n.me → IsMailbox m → IsMailbox n → IsTurn m n turn
    → is_suspect m n turn key ≡ true → (has_chat m key || has_chat n key) ≡ true → IsTouched m n key
suspect_touched m n turn key me k l is h there =
    ⊎_elim (λ moved. record { there = there; why = inr (inl (moved_touched m n key moved)) })
    (λ more. ⊎_elim (λ turned. record { there = there; why = inl (concerned turned) })
    (λ rest. ⊎_elim (λ renamed. record { there = there; why = inr (inr (renamed_touched m n turn key k l renamed there)) })
    (λ due. record { there = there; why = inr (inr (due_touched m n turn key me is due)) })
    (or_cases (is_renamed m n turn key) (has_due m n.now key) rest))
    (or_cases (is_turned m n turn key) (is_renamed m n turn key || has_due m n.now key) more))
    (or_cases (is_moved (cites m) (cites n) key) (is_turned m n turn key || (is_renamed m n turn key || has_due m n.now key)) h)
  where
    concerned : is_turned m n turn key ≡ true → list_any (is_concerned m n) (chat_mails m key ++ chat_mails n key) ≡ true
    concerned turned =
        list_any-append (is_concerned m n) (chat_mails m key) (chat_mails n key)
        ∙ or_right (list_any (is_concerned m n) (chat_mails m key)) (list_any (is_concerned m n) (chat_mails n key)) (turned_concerned m n turn key k l is turned)

pub exactly_touched : (m : Mailbox) (change : Change) (key : ChatKey) → IsMailbox m → IsValidChange change → full m change ≡ false
    → IsTouched m (after m change) key
    ↔ ((is_suspect m (after m change) (turn m change) key ≡ true) × ((has_chat m key || has_chat (after m change) key) ≡ true))
exactly_touched m change key k valid room =
    let is = turn_law m change k.uids in (
      λ touched. (touched_suspect m (after m change) (turn m change) key (same_me m change) is touched, touched.there),
      λ both. suspect_touched m (after m change) (turn m change) key (same_me m change) k (change_keeps m change k valid room) is both.0 both.1,
    )
