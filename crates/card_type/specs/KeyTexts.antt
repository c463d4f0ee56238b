-- The texts of keys.
use Rattle.std.specs.Prelude.{ℕ, Bool, true, List, ◌++◌, codes}
use Rattle.kit.specs.Addresses.{is_addr}
use Rattle.kit.specs.Ids.{is_id}
use Rattle.card_type.specs.Groups.{is_group}
use Rattle.card_type.specs.Keys.{key_bytes}
use Rattle.card_type.specs.declared.key.ChatKey.{ChatKey}
use Rattle.card_type.specs.declared.key.ChatKey.TheVariants.{SelfChat, Single, Group, Thread}

abbrev pub key_prefix : ChatKey → List ℕ
key_prefix SelfChat = codes "self"
key_prefix (Single a) = codes "single:"
key_prefix (Group g) = codes "group:"
key_prefix (Thread i) = codes "thread:"

-- the text of a key: what it is, and then its bytes
abbrev pub key_text : ChatKey → List ℕ
key_text k = key_prefix k ++ key_bytes k

-- whether the bytes of a key are what its variant holds, as those of each value of `ChatKey` are
abbrev pub is_key : ChatKey → Bool
is_key SelfChat = true
is_key (Single a) = is_addr a
is_key (Group g) = is_group g
is_key (Thread i) = is_id i
