-- The fields that begin in lines, one line after the other.
use Rattle.std.proofs.Common.{◌≡◌, ℕ, List, [], ◌∷◌, ◌++◌, map, Option, Some, None, refl, ap, ◌∙◌}
use Rattle.std.specs.Prelude.{option_map}
use Rattle.std.specs.List.{cons_option}
use Rattle.kit.specs.Lines.{content}
use Rattle.kit.specs.White.{trim}
use Rattle.mail_headers.specs.Fields.{Field, name_and_rest, field_of, fields_of}
use Rattle.mail_headers.specs.Headers.{header_lines}
use Rattle.mail_headers.proofs.Continuations.{continuation_in_header}

-- the field that begins in a line, of which lines are continued by these bytes
abbrev continued : List ℕ → List ℕ → Option Field
continued line more = option_map (λ p. record { name = p.0; body = trim (p.1 ++ more) }) (name_and_rest line)

cons_seam : (found : Option Field) (fields : List Field) → cons_option found fields ≡ cons_option found [] ++ fields
cons_seam None fields = refl
cons_seam (Some field) fields = refl

-- a field that begins in a line goes on in the lines after it as they are in the mail
pub fields_of-next : (line : List ℕ) (raws : List (List ℕ))
    → fields_of (line ∷ header_lines raws) ≡ cons_option (field_of line (map content raws)) [] ++ fields_of (header_lines raws)
fields_of-next line raws =
    ap (λ more. cons_option (continued line more) (fields_of (header_lines raws))) (continuation_in_header raws)
    ∙ cons_seam (field_of line (map content raws)) (fields_of (header_lines raws))
