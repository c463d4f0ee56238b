-- The record of a card: its fields one after the other, in one spelling for each value. Numbers are big-endian, the
-- highest byte first.
use Rattle.std.specs.Prelude.{ℕ, ◌-◌, ◌^◌, min, Bool, true, false, List, [], ◌∷◌, ◌++◌, length, Option, Some, None, is_some}
use Rattle.std.specs.Int.{w32, w64, to_be_bytes}
use Rattle.std.specs.List.{concat, flat_map}
use Rattle.card_type.specs.declared.card.Attachment.{Attachment}
use Rattle.card_type.specs.declared.card.Payload.{Payload}
use Rattle.card_type.specs.declared.card.Payload.TheVariants.{Absent, Json, Hidden}
use Rattle.card_type.specs.declared.card.Update.{Update}
use Rattle.card_type.specs.declared.card.Card.{Card}

-- numbers of 1, 4 and 8 bytes
abbrev pub b8 : ℕ → List ℕ
b8 n = n ∷ []

abbrev pub b32 : ℕ → List ℕ
b32 n = to_be_bytes w32 n

abbrev pub b64 : ℕ → List ℕ
b64 n = to_be_bytes w64 n

abbrev pub flag : Bool → List ℕ
flag false = b8 0
flag true = b8 1

-- bytes, after their number
abbrev pub block : List ℕ → List ℕ
block bytes = b32 (length bytes) ++ bytes

-- a value that may be missing, after a byte that says whether it is present
abbrev pub opt : {T : Type 0} → (T → List ℕ) → Option T → List ℕ
opt spell None = b8 0
opt spell (Some x) = b8 1 ++ spell x

-- values, after their number
abbrev pub list : {T : Type 0} → (T → List ℕ) → List T → List ℕ
list spell xs = b32 (length xs) ++ flat_map spell xs

abbrev pub attachment : Attachment → List ℕ
attachment a = block a.kind ++ block a.name ++ b64 a.size

abbrev pub payload : Payload → List ℕ
payload Absent = b8 0
payload (Json text) = b8 1 ++ block text
payload Hidden = b8 2

abbrev pub update : Update → List ℕ
update u = payload u.payload ++ opt block u.info ++ opt block u.document ++ opt block u.summary

-- whether there is an app, and 2 more where a reaction stands at the end
abbrev pub app_code : Bool → Bool → ℕ
app_code false false = 0
app_code true false = 1
app_code false true = 2
app_code true true = 3

-- nothing where there is none: the code before it says whether it stands
abbrev pub reaction : Option (List ℕ) → List ℕ
reaction None = []
reaction (Some text) = block text

-- the fields of a card: who wrote to whom, what a chat mail requests, and what is shown or said to other programs
abbrev pub envelope : Card → List (List ℕ)
envelope c =
    block c.id ∷ block c.from ∷ block c.from_name ∷ list block c.to ∷ list block c.cc ∷ opt b64 c.date
    ∷ list block c.replies ∷ list block c.references ∷ []

abbrev pub requests : Card → List (List ℕ)
requests c =
    flag c.chat ∷ opt block c.group ∷ block c.group_name ∷ opt block c.added ∷ opt block c.removed ∷ flag c.renamed
    ∷ opt block c.edit ∷ list block c.deletes ∷ b32 c.timer ∷ []

abbrev pub shown : Card → List (List ℕ)
shown c =
    block c.subject ∷ block c.text ∷ flag c.cut ∷ list attachment c.attachments ∷ opt block c.receipt
    ∷ b8 (app_code c.app (is_some c.reaction)) ∷ list update c.updates ∷ reaction c.reaction ∷ []

-- the record of a card, and the number of its bytes
abbrev pub record_of : Card → List ℕ
record_of c = concat (envelope c ++ requests c ++ shown c)

abbrev pub weight : Card → ℕ
weight c = length (record_of c)

-- the same record of a card that has no reaction: a flag says whether there is an app, and the updates are last
abbrev pub shown_plainly : Card → List (List ℕ)
shown_plainly c =
    block c.subject ∷ block c.text ∷ flag c.cut ∷ list attachment c.attachments ∷ opt block c.receipt ∷ flag c.app
    ∷ list update c.updates ∷ []

abbrev pub plain_record : Card → List ℕ
plain_record c = concat (envelope c ++ requests c ++ shown_plainly c)

-- a number in 64 bits: the greatest that they hold is taken for all above it
abbrev pub capped : ℕ → ℕ
capped n = min n (2 ^ 64 - 1)
