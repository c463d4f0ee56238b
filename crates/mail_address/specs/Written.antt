-- Lists of addresses as mails write them (RFC 5322, section 3.4).
use Rattle.std.specs.Prelude.{ℕ, Bool, true, not, ◌&&◌, ◌||◌, ◌==◌, nat_le, if◌then◌else◌, List, [], ◌∷◌, ◌++◌, length, codes, map, flat_map}
use Rattle.std.specs.Char.{is_ascii_graphic}
use Rattle.std.specs.List.{list_all, list_any, join_by, join_with_byte}
use Rattle.kit.specs.Letters.{lowered}
use Rattle.encoded_words.specs.Runs.{decode_words}
use Rattle.mail_address.specs.declared.person.Person.{Person}

-- A byte of an atom: a visible one that is none of the specials (section 3.2.3).
abbrev pub is_atext : ℕ → Bool
is_atext b = is_ascii_graphic b && not (list_any (λ c. c == b) (codes "()<>[]:;@\\,.\""))

-- one or more bytes of atoms and dots (46)
abbrev pub is_dotted : List ℕ → Bool
is_dotted bytes = nat_le 1 (length bytes) && list_all (λ b. is_atext b || b == 46) bytes

-- A word of a phrase: an atom, or a string to be quoted (section 3.2.5).
pub data Word : Type 0 where
  Bare : (text : List ℕ) → Word
  InQuotes : (text : List ℕ) → Word

-- a phrase may have the dots of abbreviated names (section 4.1); any bytes may be quoted
abbrev pub is_word : Word → Bool
is_word (Bare text) = is_dotted text
is_word (InQuotes text) = true

abbrev pub word_text : Word → List ℕ
word_text (Bare text) = text
word_text (InQuotes text) = text

-- text in quotes, where a `"` (34) and a backslash (92) follow a backslash (section 3.2.4)
abbrev pub with_backslashes : List ℕ → List ℕ
with_backslashes [] = []
with_backslashes (b ∷ bs) = let more = with_backslashes bs in if b == 34 || b == 92 then 92 ∷ b ∷ more else b ∷ more

abbrev pub written_word : Word → List ℕ
written_word (Bare text) = text
written_word (InQuotes text) = 34 ∷ (with_backslashes text ++ (34 ∷ []))

-- a local part and a domain (section 3.4.1), each of atoms and dots
pub record AddrSpec : Type 0 where
  pub local : List ℕ
  pub domain : List ℕ

abbrev pub written_addr : AddrSpec → List ℕ
written_addr a = a.local ++ (64 ∷ a.domain)

-- no longer than a path may be (RFC 5321, section 4.5.3.1.3)
abbrev pub is_addr_spec : AddrSpec → Bool
is_addr_spec a = is_dotted a.local && is_dotted a.domain && nat_le (length (written_addr a)) 254

-- an address alone, or after a phrase, which may be empty, and in angles
pub data Mailbox : Type 0 where
  Alone : (addr : AddrSpec) → Mailbox
  Named : (phrase : List Word) (addr : AddrSpec) → Mailbox

abbrev pub is_mailbox : Mailbox → Bool
is_mailbox (Alone addr) = is_addr_spec addr
is_mailbox (Named phrase addr) = list_all is_word phrase && is_addr_spec addr

abbrev pub written_phrase : List Word → List ℕ
written_phrase words = flat_map (λ w. written_word w ++ (32 ∷ [])) words

abbrev pub written_box : Mailbox → List ℕ
written_box (Alone addr) = written_addr addr
written_box (Named phrase addr) = written_phrase phrase ++ (60 ∷ (written_addr addr ++ (62 ∷ [])))

-- with a comma and a space between each two
abbrev pub written_boxes : List Mailbox → List ℕ
written_boxes boxes = join_by written_box (codes ", ") boxes

-- whom a mailbox names: its address in small letters, and the words of its phrase, of which some may be encoded
abbrev pub named_person : Mailbox → Person
named_person (Alone addr) = record { addr = lowered (written_addr addr); name = [] }
named_person (Named phrase addr) =
    record { addr = lowered (written_addr addr); name = decode_words (join_with_byte 32 (map word_text phrase)) }

-- an address of a list: a mailbox, or a group of them, with a name
pub data Address : Type 0 where
  Single : (mailbox : Mailbox) → Address
  Group : (name : List Word) (members : List Mailbox) → Address

abbrev pub is_address : Address → Bool
is_address (Single mailbox) = is_mailbox mailbox
is_address (Group name members) = list_all is_word name && list_all is_mailbox members

-- a colon (58) follows the name of a group, and a semicolon (59) its members
abbrev pub written_address : Address → List ℕ
written_address (Single mailbox) = written_box mailbox
written_address (Group name members) = written_phrase name ++ (58 ∷ (written_boxes members ++ (59 ∷ [])))

abbrev pub written : List Address → List ℕ
written addresses = join_by written_address (codes ", ") addresses

-- whom an address names: of a group its members
abbrev pub named_people : Address → List Person
named_people (Single mailbox) = named_person mailbox ∷ []
named_people (Group name members) = map named_person members
