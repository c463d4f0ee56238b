-- A parameter as it is written: `name=value` (RFC 2045, section 5.1).
use Rattle.std.specs.Prelude.{ℕ, Bool, false, not, ◌&&◌, ◌==◌, if◌then◌else◌, List, [], ◌∷◌, filter_map, find, bytes_eq, Option, Some, None, option_map, unwrap_or}
use Rattle.std.specs.List.{before_first}
use Rattle.kit.specs.declared.charset.Charset.TheVariants.{Utf8}
use Rattle.kit.specs.Charsets.{to_text}
use Rattle.kit.specs.Comments.{begins_quoted_pair}
use Rattle.kit.specs.Cuts.{split_once}
use Rattle.kit.specs.Letters.{lowered}
use Rattle.kit.specs.Options.{◌>>=◌}
use Rattle.kit.specs.White.{is_blank, trim}
use Rattle.mime_fields.specs.Segments.{further_segments}

-- its full name in small letters, as `title*1*`, and what the value has inside its quotes, or all of it
pub record RawParam : Type 0 where
  pub name : List ℕ
  pub value : List ℕ

-- What a quoted string has inside, of the bytes after its `"` (34), up to the next one: a backslash (92) gives the byte
-- after it (RFC 5322, section 3.2.4). The flag says whether a backslash precedes the bytes.
abbrev pub inside_from : (escaped : Bool) → List ℕ → List ℕ
inside_from escaped [] = []
inside_from escaped (b ∷ bs) =
    let escapes = begins_quoted_pair escaped b in
    let more = inside_from escapes bs in
    if b == 34 && not escaped then [] else if escapes then more else b ∷ more

abbrev pub inside : List ℕ → List ℕ
inside bytes = inside_from false bytes

-- what follows the `"` of a quoted string, where nothing but white space precedes it
abbrev pub after_quote : List ℕ → Option (List ℕ)
after_quote text = split_once text 34 >>= λ parts. if is_blank parts.0 then Some parts.1 else None

-- a value that is no quoted string ends before the `(` (40) of a comment
abbrev pub bare : List ℕ → List ℕ
bare text = trim (before_first (λ b. b == 40) text)

-- the value after a `=`
abbrev pub value_of : List ℕ → List ℕ
value_of text = unwrap_or (option_map inside (after_quote text)) (bare text)

-- the name before a `=`, whose case does not count
abbrev pub name_of : List ℕ → List ℕ
name_of text = to_text Utf8 (lowered (trim text))

-- the parameter that a segment is, where it has a `=` (61)
abbrev pub raw_param_of : List ℕ → Option RawParam
raw_param_of segment =
    option_map (λ sides. record { name = name_of sides.0; value = value_of sides.1 }) (split_once segment 61)

-- the parameters that the segments after the first one are
abbrev pub raw_params : List ℕ → List RawParam
raw_params body = filter_map raw_param_of (further_segments body)

-- the first value of a name
abbrev pub first_value : List RawParam → List ℕ → Option (List ℕ)
first_value params name = option_map (λ param. param.value) (find (λ param. bytes_eq name param.name) params)
