-- How the fields of a header lie in a buffer: of each its name and then its body, one after the other.
use Rattle.std.specs.Prelude.{◌≡◌, ℕ, ◌+◌, List, [], ◌∷◌, length, take, drop}
use Rattle.mail_headers.specs.declared.fields.Fields.{Fields}
use Rattle.mail_headers.specs.declared.fields.Lengths.{Lengths}
use Rattle.mail_headers.specs.Fields.{Field}

-- how many bytes fields of these lengths have
abbrev pub total : List Lengths → ℕ
total [] = 0
total (l ∷ ls) = l.name + (l.body + total ls)

-- the fields of these lengths
abbrev pub fields_in : List Lengths → List ℕ → List Field
fields_in [] bytes = []
fields_in (l ∷ ls) bytes =
    record { name = take l.name bytes; body = take l.body (drop l.name bytes) } ∷ fields_in ls (drop l.body (drop l.name bytes))

-- the fields of a buffer
abbrev pub all_fields : Fields → List Field
all_fields fields = fields_in fields.lengths.items fields.bytes.items

-- a buffer has the bytes of its fields, and no more
abbrev pub IsFull : Fields → Type 0
IsFull fields = total fields.lengths.items ≡ length fields.bytes.items
