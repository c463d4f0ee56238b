-- The header of a mail: the lines before the first empty one (RFC 5322, sections 2.1 and 2.2).
use Rattle.std.specs.Prelude.{ℕ, ◌+◌, Bool, not, ◌==◌, List, [], length, take, take_while, map, find, Option, option_map, unwrap_or}
use Rattle.std.specs.List.{concat}
use Rattle.kit.specs.Letters.{same_name}
use Rattle.kit.specs.Lines.{raw_lines, content}
use Rattle.mail_headers.specs.Fields.{Field, fields_of}

-- what contracts see of a `Header`: its fields in their order, and the offset in the mail where the body begins
pub record Head : Type 0 where
  pub fields : List Field
  pub body_at : ℕ

abbrev pub is_empty : List ℕ → Bool
is_empty line = length line == 0

-- the contents of the header's lines, of raw lines that begin with them
abbrev pub header_lines : List (List ℕ) → List (List ℕ)
header_lines raws = take_while (λ line. not (is_empty line)) (map content raws)

-- how many bytes the header's lines have, and the empty line after them
abbrev pub header_len : List (List ℕ) → ℕ
header_len raws = length (concat (take (length (header_lines raws) + 1) raws))

-- the header of a mail
abbrev pub header_of : List ℕ → Head
header_of mail =
    let raws = raw_lines mail in
    record { fields = fields_of (header_lines raws); body_at = header_len raws }

-- the body of the first field of a name
abbrev pub first_of : Head → List ℕ → Option (List ℕ)
first_of head name = option_map (λ field. field.body) (find (λ field. same_name field.name name) head.fields)

-- the body of the first field of a name; a field that is missing is as an empty one
abbrev pub field : Head → List ℕ → List ℕ
field head name = unwrap_or (first_of head name) []
