-- What the reader keeps of an element between two tokens. Contracts of private functions speak of it, and none of a
-- public one.
use Rattle.std.specs.Prelude.{ℕ, Bool, true, false, ◌&&◌, ◌||◌, if◌then◌else◌, List, [], ◌∷◌, ◌++◌, flat_map, Option, None, option_map}
use Rattle.kit.specs.Addresses.{is_addr}
use Rattle.kit.specs.Letters.{lowered}
use Rattle.kit.specs.Reading.{read_as}
use Rattle.encoded_words.specs.Runs.{decode_words}
use Rattle.mail_address.specs.declared.element.Position.{Position}
use Rattle.mail_address.specs.declared.element.Position.TheVariants.{BeforeAngle, InAngle, AfterAngle, InLaterAngle}
use Rattle.mail_address.specs.declared.person.Person.{Person}
use Rattle.mail_address.specs.Tokens.{Token, Atom, Open, Close, Colon, End}
use Rattle.mail_address.specs.People.{token_text, begins_joint, ends_joint, are_joined}

-- Tokens of an address that were put together: their bytes, whether they are atoms that join, and whether any atom
-- joins the last of them.
pub record Atoms : Type 0 where
  pub bytes : List ℕ
  pub whole : Bool
  pub free : Bool

abbrev pub nothing : Atoms
nothing = record { bytes = []; whole = true; free = true }

abbrev pub put : Atoms → Token → Atoms
put a (Atom bytes) = record { bytes = a.bytes ++ bytes; whole = a.whole && (a.free || begins_joint bytes); free = ends_joint bytes }
put a _ = record { bytes = a.bytes; whole = false; free = a.free }

-- the address that these and further tokens are
abbrev pub address_with : Atoms → List Token → Option (List ℕ)
address_with a ts =
    if a.whole && are_joined a.free ts then read_as is_addr (lowered (a.bytes ++ flat_map token_text ts)) else None

-- What is known of an element: the reader's position in it, the address so far, and the name so far, each word with a
-- space before it.
pub record State : Type 0 where
  pub position : Position
  pub address : Atoms
  pub name : List ℕ

abbrev pub start : State
start = record { position = BeforeAngle; address = nothing; name = [] }

-- the bytes without their first
abbrev pub without_first : List ℕ → List ℕ
without_first [] = []
without_first (b ∷ bs) = bs

-- the name of which this was kept, if an angle follows it: its first word has a space before it
abbrev pub name_at : Position → List ℕ → List ℕ
name_at BeforeAngle kept = []
name_at _ kept = without_first kept

abbrev pub person_at : State → Option Person
person_at s = option_map (λ a. record { addr = a; name = decode_words (name_at s.position s.name) }) (address_with s.address [])

-- what is known after a token, by its position
abbrev pub after_word : State → Token → State
after_word s t = record { position = BeforeAngle; address = put s.address t; name = s.name ++ 32 ∷ token_text t }

abbrev pub next_before : State → Token → State
next_before s End = start
next_before s Colon = start
next_before s Open = record { position = InAngle; address = nothing; name = s.name }
next_before s Close = s
next_before s t = after_word s t

abbrev pub next_inside : State → Token → State
next_inside s Close = record { position = AfterAngle; address = s.address; name = s.name }
next_inside s Colon = record { position = InAngle; address = nothing; name = s.name }
next_inside s t = record { position = InAngle; address = put s.address t; name = s.name }

abbrev pub next_after : State → Token → State
next_after s End = start
next_after s Colon = start
next_after s Open = record { position = InLaterAngle; address = s.address; name = s.name }
next_after s _ = s

abbrev pub next_later : State → Token → State
next_later s Close = record { position = AfterAngle; address = s.address; name = s.name }
next_later s _ = s

abbrev pub next_at : Position → State → Token → State
next_at BeforeAngle s t = next_before s t
next_at InAngle s t = next_inside s t
next_at AfterAngle s t = next_after s t
next_at InLaterAngle s t = next_later s t

abbrev pub next : State → Token → State
next s t = next_at s.position s t

abbrev pub is_end : Token → Bool
is_end End = true
is_end _ = false

abbrev pub is_outside : Position → Bool
is_outside BeforeAngle = true
is_outside AfterAngle = true
is_outside _ = false

-- the person that a token ends
abbrev pub ended : State → Token → Option Person
ended s t = if is_outside s.position && is_end t then person_at s else None
