-- Sections, one after the other.
use Rattle.std.proofs.Common.{◌≡◌, ℕ, suc, ◌+◌, ◌-◌, ◌<◌, ◌≤◌, List, [], ◌∷◌, map, Option, Some, None, ap, ◌∙◌, arith}
use Rattle.std.specs.List.{range_with_len}
use Rattle.mime_fields.specs.Sections.{Section, before_gap, numbered_section, numbered_sections}
use Rattle.mime_fields.specs.Views.{sections_from}

module _ (values : List ℕ → Option (List ℕ)) (name : List ℕ) where
  -- the section of a number, if there is one, and those after it
  sections-step : (number count : ℕ) → number < count
      → sections_from values name number count ≡ before_gap (numbered_section values name number ∷ map (numbered_section values name) (range_with_len (number + 1) (count - (number + 1))))
  sections-step number count lt =
      let more : count - number ≡ suc (count - (number + 1)) = omega arith in
      ap (λ n. before_gap (map (numbered_section values name) (range_with_len number n))) more

  pub sections-some : (number count : ℕ) (s : Section) → number < count → numbered_section values name number ≡ Some s
      → sections_from values name number count ≡ s ∷ sections_from values name (number + 1) count
  sections-some number count s lt is =
      let rest = map (numbered_section values name) (range_with_len (number + 1) (count - (number + 1))) in
      sections-step number count lt ∙ ap (λ (o : Option Section). before_gap (o ∷ rest)) is

  pub sections-none : (number count : ℕ) → number < count → numbered_section values name number ≡ None
      → sections_from values name number count ≡ []
  sections-none number count lt is =
      let rest = map (numbered_section values name) (range_with_len (number + 1) (count - (number + 1))) in
      sections-step number count lt ∙ ap (λ (o : Option Section). before_gap (o ∷ rest)) is

  pub sections-end : (number count : ℕ) → count ≤ number → sections_from values name number count ≡ []
  sections-end number count end =
      let zero : count - number ≡ 0 = omega arith in
      ap (λ n. before_gap (map (numbered_section values name) (range_with_len number n))) zero

  -- all of them
  pub sections-all : (count : ℕ) → numbered_sections values count name ≡ sections_from values name 0 count
  sections-all count =
      let same : count ≡ count - 0 = omega arith in
      ap (λ n. before_gap (map (numbered_section values name) (range_with_len 0 n))) same
