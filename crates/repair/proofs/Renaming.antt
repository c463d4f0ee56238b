-- The chats of those who are shown under another name are those that a turn renames.
use Rattle.std.proofs.Common.{◌≡◌, sym, ap, ◌∙◌, not, ◌&&◌, List}
use Rattle.std.specs.Prelude.{unwrap_or}
use Rattle.std.specs.List.{list_any}
use Rattle.std.specs.Str.{bytes_eq}
use Rattle.card_type.specs.declared.key.ChatKey.{ChatKey}
use Rattle.card_type.specs.declared.key.ChatKey.TheVariants.{Single}
use Rattle.card_type.specs.Keys.{key_eq}
use Rattle.mailbox_model.specs.declared.turn.Turn.{Turn}
use Rattle.mailbox_model.specs.Contacts.{contact_name}
use Rattle.mailbox_model.specs.Lists.{Bytes}
use Rattle.mailbox_model.specs.Mailbox.{Mailbox}
use Rattle.mailbox_model.specs.Present.{present_cards}
use Rattle.touched_chats.specs.Suspects.{is_renamed}
use Rattle.contacts.specs.Kept.{Kept, shown_name, StandsFor as AreContacts}
use Rattle.contacts.proofs.Standing.{last_name_is}
use Rattle.indexes.proofs.PresentAt.{list_any-map}
use Rattle.repair.specs.declared.names.Named.{Named}
use Rattle.repair.specs.declared.turned.TurnedCards.{TurnedCards}
use Rattle.repair.specs.Turned.{cards_of, AreTurned}
use Rattle.repair.specs.Named.{named_by, has_other_name, AreNamed}

name_is : (kept : Kept) (m : Mailbox) → AreContacts kept (present_cards m) → (addr : Bytes) → contact_name m addr ≡ shown_name kept addr
name_is kept m are addr = ap (λ o. unwrap_or o addr) (sym (last_name_is kept (present_cards m) addr are))

pub renamed_is : (m n : Mailbox) (turn : Turn) (before after : Kept) (cards : TurnedCards) (named : List Named)
    → AreContacts before (present_cards m) → AreContacts after (present_cards n) → AreTurned m n turn cards → AreNamed before cards named
    → (key : ChatKey) → is_renamed m n turn key ≡ list_any (has_other_name after key) named
renamed_is m n turn before after cards named were are turned is key =
    turned (λ card. not (bytes_eq (contact_name m card.from) (contact_name n card.from)) && key_eq key (Single card.from))
    ∙ (λ i. list_any (λ card. not (bytes_eq (before_is card.from i) (after_is card.from i)) && key_eq key (Single card.from)) (cards_of cards))
    ∙ sym (list_any-map (named_by before) (has_other_name after key) (cards_of cards)) ∙ ap (list_any (has_other_name after key)) (sym is)
  where
    before_is : (addr : Bytes) → contact_name m addr ≡ shown_name before addr
    before_is = name_is before m were

    after_is : (addr : Bytes) → contact_name n addr ≡ shown_name after addr
    after_is = name_is after n are
