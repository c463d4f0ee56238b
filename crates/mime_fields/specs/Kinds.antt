-- Content types (RFC 2045, section 5) and dispositions (RFC 2183; RFC 9078).
use Rattle.std.specs.Prelude.{ℕ, Bool, false, not, ◌&&◌, ◌==◌, if◌then◌else◌, List, [], codes, find, Option, Some, None, option_map, unwrap_or}
use Rattle.std.specs.List.{list_any}
use Rattle.kit.specs.Cuts.{split_once}
use Rattle.kit.specs.Letters.{lowered, same_name}
use Rattle.kit.specs.Options.{◌>>=◌}
use Rattle.kit.specs.Printing.{is_visible}
use Rattle.mime_fields.specs.declared.param.Param.{Param}
use Rattle.mime_fields.specs.declared.disposition.Disposition.{Disposition}
use Rattle.mime_fields.specs.Segments.{main_word}
use Rattle.mime_fields.specs.RawParams.{raw_params}
use Rattle.mime_fields.specs.Params.{params, value_in}

-- what contracts see of a `ContentType`
pub record Kind : Type 0 where
  pub top : List ℕ
  pub sub : List ℕ
  pub params : List Param

-- the two sides of the one `/` (47) of a word, where both are of one or more visible characters
abbrev pub type_of : List ℕ → Option (List ℕ × List ℕ)
type_of word =
    split_once word 47 >>= λ sides.
    if is_visible sides.0 && is_visible sides.1 && not (list_any (λ b. b == 47) sides.1) then Some sides else None

-- what a part is that names no type (RFC 2045, section 5.2), in a digest (RFC 2046, section 5.1.5) or elsewhere
abbrev pub default_type : Bool → List ℕ × List ℕ
default_type digest = if digest then (codes "message", codes "rfc822") else (codes "text", codes "plain")

-- the type that a body names
abbrev pub type_in : Bool → List ℕ → List ℕ × List ℕ
type_in digest body = unwrap_or (type_of (main_word body)) (default_type digest)

-- the content type in the body of a field, in a part of a digest or elsewhere
abbrev pub content_type_in : Bool → List ℕ → Kind
content_type_in digest body =
    let sides = type_in digest body in
    record { top = lowered sides.0; sub = lowered sides.1; params = params (raw_params body) }

abbrev pub content_type : List ℕ → Kind
content_type body = content_type_in false body

-- the value of the parameter of a name, whose case does not count
abbrev pub param_of : Kind → List ℕ → Option (List ℕ)
param_of kind name = option_map (λ param. param.value) (find (λ param. same_name param.name name) kind.params)

-- the disposition in a body, that of an attachment (RFC 2183, section 2.2), of a reaction (RFC 9078, section 2) or
-- another, with its file name (RFC 2183, section 2.3), or an empty one
abbrev pub disposition : List ℕ → Disposition
disposition body = record {
  attach = same_name (main_word body) (codes "attachment");
  reaction = same_name (main_word body) (codes "reaction");
  name = unwrap_or (value_in (raw_params body) (codes "filename")) [];
}
