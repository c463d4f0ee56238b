-- The parameters of names, one after the other.
use Rattle.std.proofs.Common.{◌≡◌, ℕ, true, List, [], ◌∷◌, ◌++◌, map, Option, Some, None, refl, sym, ap, ◌∙◌, append_assoc, arith}
use Rattle.std.specs.List.{filter_map, range_with_len, starts_with}
use Rattle.std.specs.Option.{option_or}
use Rattle.std.specs.Prelude.{codes, decimal, nat_eq, option_map, unwrap_or}
use Rattle.std.proofs.lemmas.List.{append-nil}
use Rattle.std.proofs.lemmas.List.Elements.{filter_map-append}
use Rattle.mime_fields.specs.RawParams.{RawParam, first_value}
use Rattle.mime_fields.specs.Params.{param_in, value_in}
use Rattle.mime_fields.specs.Sections.{Plain, Encoded, Section, before_gap, numbered_section, numbered_sections, param_value, sections, sections_text}
use Rattle.mime_fields.specs.Views.{first_value_under}
use Rattle.encoded_words.specs.Runs.{decode_words}
use Rattle.std.proofs.lemmas.Bool.Decides.{nat_tests}

pub param_some : (raw_params : List RawParam) (names : List (List ℕ)) (name value : List ℕ) → value_in raw_params name ≡ Some value
    → filter_map (param_in raw_params) names ++ record { name = name; value = value } ∷ [] ≡ filter_map (param_in raw_params) (names ++ name ∷ [])
param_some raw_params names name value is = sym (filter_map-append (param_in raw_params) names (name ∷ []) ∙ rw is refl)

pub param_none : (raw_params : List RawParam) (names : List (List ℕ)) (name : List ℕ) → value_in raw_params name ≡ None
    → filter_map (param_in raw_params) names ≡ filter_map (param_in raw_params) (names ++ name ∷ [])
param_none raw_params names name is = sym (filter_map-append (param_in raw_params) names (name ∷ []) ∙ rw is (append-nil (filter_map (param_in raw_params) names)))

-- ---- the value of a parameter rests on the names that begin with its own

module _ (v w : List ℕ → Option (List ℕ)) (name : List ℕ) (same : (more : List ℕ) → v (name ++ more) ≡ w (name ++ more)) where
  same_section : (number : ℕ) → numbered_section v name number ≡ numbered_section w name number
  same_section number =
      let more = codes "*" ++ decimal number in
      let star = codes "*" in
      let encoded : v ((name ++ more) ++ star) ≡ w ((name ++ more) ++ star) =
      ap v (append_assoc name more star) ∙ same (more ++ star) ∙ ap w (sym (append_assoc name more star)) in
      ap (λ (o : Option (List ℕ)). option_or (option_map Plain o) (option_map Encoded (v ((name ++ more) ++ star)))) (same more)
      ∙ ap (λ (o : Option (List ℕ)). option_or (option_map Plain (w (name ++ more))) (option_map Encoded o)) encoded

  same_sections : (count : ℕ) → sections v count name ≡ sections w count name
  same_sections count =
      ap (λ (o : Option (List ℕ)). unwrap_or (option_map (λ value. Encoded value ∷ []) o) (numbered_sections v count name)) (same (codes "*"))
      ∙ ap (λ (f : ℕ → Option Section). unwrap_or (option_map (λ value. Encoded value ∷ []) (w (name ++ codes "*"))) (before_gap (map f (range_with_len 0 count)))) (λ i n. same_section n i)

  same_value : (count : ℕ) → param_value v count name ≡ param_value w count name
  same_value count =
      let alone : v name ≡ w name = ap v (sym (append-nil name)) ∙ same [] ∙ ap w (append-nil name) in
      ap (λ (ss : List Section). option_or (sections_text ss) (option_map decode_words (v name))) (same_sections count)
      ∙ ap (λ (o : Option (List ℕ)). option_or (sections_text (sections w count name)) (option_map decode_words o)) alone

begins_itself : (name more : List ℕ) → starts_with nat_eq (name ++ more) name ≡ true
begins_itself [] more = refl
begins_itself (b ∷ name) more = grind (arith, nat_tests, begins_itself name more)

pub value_under_name : (params : List RawParam) (count : ℕ) (name : List ℕ)
    → param_value (first_value_under name params) count name ≡ param_value (first_value params) count name
value_under_name params count name =
    same_value (first_value_under name params) (first_value params) name (λ more. rw (begins_itself name more) refl) count
