-- The groups of lines.
use Rattle.std.proofs.Common.{◌≡◌, inl, inr, ◌&&◌, ℕ, Bool, List, [], ◌∷◌, ◌++◌, refl, sym, ap, ◌∙◌}
use Rattle.std.specs.List.{onto_first}
use Rattle.std.proofs.lemmas.Bool.{cases_Bool}
use Rattle.mboxrd.specs.Mails.{is_empty_line, begins_with_from, groups}

abbrev pub Lines : Type 0
Lines = List (List ℕ)

abbrev pub head : List Lines → Lines
head [] = []
head (g ∷ gs) = g

abbrev pub tail : List Lines → List Lines
tail [] = []
tail (g ∷ gs) = gs

pub onto : (l : List ℕ) (gs : List Lines) → onto_first l gs ≡ (l ∷ head gs) ∷ tail gs
onto l [] = refl
onto l (g ∷ gs) = refl

-- the lines of groups
abbrev pub flat : List Lines → Lines
flat [] = []
flat (g ∷ gs) = g ++ flat gs

-- there is a first group
pub some_groups : (may : Bool) (ls : Lines) → groups may ls ≡ head (groups may ls) ∷ tail (groups may ls)
some_groups may [] = refl
some_groups may (l ∷ ls) = elim (cases_Bool (may && begins_with_from l)) [
  | inl h ↦ rw h refl
  | inr h ↦ rw (h, onto l (groups (is_empty_line l) ls)) refl
]

-- the groups together are the lines
pub all_lines : (may : Bool) (ls : Lines) → flat (groups may ls) ≡ ls
all_lines may [] = refl
all_lines may (l ∷ ls) =
    let whole = ap flat (sym (some_groups (is_empty_line l) ls)) ∙ all_lines (is_empty_line l) ls in
    elim (cases_Bool (may && begins_with_from l)) [
      | inl h ↦ rw (h, onto l (groups (is_empty_line l) ls)) (ap (λ (z : Lines). l ∷ z) whole)
      | inr h ↦ rw (h, onto l (groups (is_empty_line l) ls)) (ap (λ (z : Lines). l ∷ z) whole)
    ]
