-- A parameter in sections and in a charset of its own (RFC 2231, sections 3 and 4).
use Rattle.std.specs.Prelude.{ℕ, ◌==◌, if◌then◌else◌, List, [], ◌∷◌, ◌++◌, length, map, flat_map, codes, decimal, Option, Some, None, option_map, unwrap_or}
use Rattle.std.specs.List.{range_with_len}
use Rattle.std.specs.Option.{option_or}
use Rattle.percent_encoding.specs.Percent.{percent_decode}
use Rattle.kit.specs.declared.charset.Charset.{Charset}
use Rattle.kit.specs.declared.charset.Charset.TheVariants.{Utf8}
use Rattle.kit.specs.Charsets.{charset_of, to_text}
use Rattle.kit.specs.Cuts.{split_once}
use Rattle.kit.specs.Options.{◌>>=◌}
use Rattle.encoded_words.specs.Runs.{decode_words}

-- a section of a value, or all of it: as it is, or percent-encoded, where its name ends in `*`
pub data Section : Type 0 where
  Plain : (bytes : List ℕ) → Section
  Encoded : (bytes : List ℕ) → Section

-- Below, `values` gives the first value of each full name, as `title*1*`.

-- the section of a number: `name*1`, or else `name*1*`
abbrev pub numbered_section : (values : List ℕ → Option (List ℕ)) (name : List ℕ) (number : ℕ) → Option Section
numbered_section values name number =
    let key = name ++ (codes "*" ++ decimal number) in
    option_or (option_map Plain (values key)) (option_map Encoded (values (key ++ codes "*")))

-- those before the first that is missing
abbrev pub before_gap : List (Option Section) → List Section
before_gap [] = []
before_gap (None ∷ more) = []
before_gap (Some s ∷ more) = s ∷ before_gap more

-- the sections from 0 on, up to the first that is missing: a field has no more than it has parameters, which is `count`
abbrev pub numbered_sections : (values : List ℕ → Option (List ℕ)) (count : ℕ) (name : List ℕ) → List Section
numbered_sections values count name = before_gap (map (numbered_section values name) (range_with_len 0 count))

-- `name*`, or else the numbered sections
abbrev pub sections : (values : List ℕ → Option (List ℕ)) (count : ℕ) (name : List ℕ) → List Section
sections values count name =
    unwrap_or (option_map (λ value. Encoded value ∷ []) (values (name ++ codes "*"))) (numbered_sections values count name)

-- the charset of a name; where none is given, UTF-8
abbrev pub named_charset : List ℕ → Charset
named_charset name = if length name == 0 then Utf8 else charset_of name

-- the charset and the bytes of charset`'`language`'`bytes, where both `'` (39) are present
abbrev pub charset_and_bytes : List ℕ → Option (Charset × List ℕ)
charset_and_bytes value =
    split_once value 39 >>= λ charset. split_once charset.1 39 >>= λ language. Some (named_charset charset.0, language.1)

-- the charset that the first section names, if it is encoded, and that section without it
abbrev pub opening : Section → Charset × Section
opening (Plain bytes) = (Utf8, Plain bytes)
opening (Encoded value) = unwrap_or (option_map (λ p. (p.0, Encoded p.1)) (charset_and_bytes value)) (Utf8, Encoded value)

abbrev pub section_bytes : Section → List ℕ
section_bytes (Plain bytes) = bytes
section_bytes (Encoded bytes) = percent_decode bytes

-- the text of sections, if there are any
abbrev pub sections_text : List Section → Option (List ℕ)
sections_text [] = None
sections_text (first ∷ more) =
    let start = opening first in
    Some (to_text start.0 (flat_map section_bytes (start.1 ∷ more)))

-- the value of the parameter of a name: of its sections, or else of the name alone, with encoded words
abbrev pub param_value : (values : List ℕ → Option (List ℕ)) (count : ℕ) (name : List ℕ) → Option (List ℕ)
param_value values count name =
    option_or (sections_text (sections values count name)) (option_map decode_words (values name))
