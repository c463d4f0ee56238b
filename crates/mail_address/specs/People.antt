-- The people in the body of a field: a grammar over the list of its tokens (RFC 5322, sections 3.4 and 4.4).
use Rattle.std.specs.Prelude.{ℕ, ◌-◌, Bool, true, false, ◌&&◌, ◌||◌, ◌==◌, if◌then◌else◌, List, [], ◌∷◌, ◌++◌, length, map, flat_map, filter_map, Option, Some, None, option_map, slice_index}
use Rattle.std.specs.List.{after_last, slice_split, join_with_byte}
use Rattle.kit.specs.Addresses.{is_addr}
use Rattle.kit.specs.Letters.{lowered}
use Rattle.kit.specs.Reading.{read_as}
use Rattle.encoded_words.specs.Runs.{decode_words}
use Rattle.mail_address.specs.declared.person.Person.{Person}
use Rattle.mail_address.specs.Tokens.{Token, Atom, Quoted, Open, Close, Colon, End, tokens}

-- a token outside angles, or an angle with the tokens in it
pub data Item : Type 0 where
  Plain : (token : Token) → Item
  Angle : (inside : List Token) → Item

abbrev pub is_close : Token → Bool
is_close Close = true
is_close _ = false

abbrev pub is_colon : Token → Bool
is_colon Colon = true
is_colon _ = false

-- The items from the left. The first argument is what an angle that is open has so far: it has the tokens up to the
-- next `>`, or all. A `>` that closes none is dropped.
abbrev pub items_from : Option (List Token) → List Token → List Item
items_from None [] = []
items_from (Some inside) [] = Angle inside ∷ []
items_from None (Open ∷ ts) = items_from (Some []) ts
items_from None (Close ∷ ts) = items_from None ts
items_from None (t ∷ ts) = Plain t ∷ items_from None ts
items_from (Some inside) (t ∷ ts) = if is_close t then Angle inside ∷ items_from None ts else items_from (Some (inside ++ t ∷ [])) ts

abbrev pub items : List Token → List Item
items ts = items_from None ts

abbrev pub ends : Item → Bool
ends (Plain End) = true
ends _ = false

abbrev pub drops : Item → Bool
drops (Plain Colon) = true
drops _ = false

-- The elements of a list: what is between ends. A colon drops what its element had so far, as the name of a group.
abbrev pub elements : List Item → List (List Item)
elements is = map (after_last drops) (slice_split ends is)

-- the tokens of an element before its first angle: all, if it has none
abbrev pub before_angle : List Item → List Token
before_angle [] = []
before_angle (Angle ts ∷ is) = []
before_angle (Plain t ∷ is) = t ∷ before_angle is

abbrev pub first_angle : List Item → Option (List Token)
first_angle [] = None
first_angle (Angle ts ∷ is) = Some ts
first_angle (Plain t ∷ is) = first_angle is

abbrev pub is_atom : Token → Bool
is_atom (Atom bytes) = true
is_atom _ = false

-- the text of a word
abbrev pub token_text : Token → List ℕ
token_text (Atom bytes) = bytes
token_text (Quoted bytes) = bytes
token_text _ = []

-- whether a word begins, and whether it ends, with `.` (46) or `@` (64)
abbrev pub is_joint : ℕ → Bool
is_joint b = b == 46 || b == 64

abbrev pub begins_joint : List ℕ → Bool
begins_joint [] = false
begins_joint (b ∷ bs) = is_joint b

abbrev pub ends_joint : List ℕ → Bool
ends_joint bytes = is_joint (slice_index bytes (length bytes - 1))

-- Whether tokens are one address: they are atoms, and of two neighbours the first ends or the second begins with `.` or
-- `@`. The flag says whether any atom may follow what precedes them.
abbrev pub are_joined : Bool → List Token → Bool
are_joined free [] = true
are_joined free (t ∷ ts) = is_atom t && (free || begins_joint (token_text t)) && are_joined (ends_joint (token_text t)) ts

-- the address that tokens are, in small letters, if they are one
abbrev pub address : List Token → Option (List ℕ)
address ts = if are_joined true ts then read_as is_addr (lowered (flat_map token_text ts)) else None

-- the name that words are, which may be encoded words
abbrev pub name : List Token → List ℕ
name ts = decode_words (join_with_byte 32 (map token_text ts))

-- a person by the tokens of its address and of its name
abbrev pub person_by : List Token → List Token → Option Person
person_by address_tokens name_tokens =
    option_map (λ a. record { addr = a; name = name name_tokens }) (address address_tokens)

-- Of an element with an angle, the address is in its first one, after a route that ends in a colon, and the name is
-- before it. An element without one is an address alone.
abbrev pub person_of : List Token → Option (List Token) → Option Person
person_of before None = person_by before []
person_of before (Some inside) = person_by (after_last is_colon inside) before

abbrev pub person : List Item → Option Person
person element = person_of (before_angle element) (first_angle element)

-- the people of a list, in their order; an element without an address is nobody
abbrev pub people : List ℕ → List Person
people body = filter_map person (elements (items (tokens body)))
