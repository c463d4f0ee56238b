-- How a chat is called.
use Rattle.std.specs.Prelude.{if◌then◌else◌, codes}
use Rattle.card_type.specs.declared.key.ChatKey.{ChatKey}
use Rattle.card_type.specs.declared.key.ChatKey.TheVariants.{SelfChat, Single, Group, Thread}
use Rattle.card_type.specs.Kinds.{has_some}
use Rattle.card_type.specs.KeyTexts.{key_text}
use Rattle.mailbox_model.specs.declared.roster.Roster.{Roster}
use Rattle.mailbox_model.specs.Lists.{Bytes}
use Rattle.mailbox_model.specs.Mailbox.{Mailbox}
use Rattle.mailbox_model.specs.Contacts.{contact_name}
use Rattle.mailbox_model.specs.Rosters.{roster}

-- empty where a group or thread has none
abbrev pub name_or_empty : ChatKey → Roster → (Bytes → Bytes) → Bytes
name_or_empty SelfChat r contact = codes "self"
name_or_empty (Single a) r contact = contact a
name_or_empty (Group g) r contact = r.name
name_or_empty (Thread i) r contact = r.name

-- an empty name gives way to the text of the key
abbrev pub name_by : ChatKey → Roster → (Bytes → Bytes) → Bytes
name_by key r contact = let text = name_or_empty key r contact in if has_some text then text else key_text key

abbrev pub name : Mailbox → ChatKey → Bytes
name m key = name_by key (roster m key) (contact_name m)
