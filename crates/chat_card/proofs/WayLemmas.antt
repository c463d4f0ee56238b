-- What is kept by the way of each part is what the rule keeps.
use Rattle.std.proofs.Common.{◌≡◌, Bool, true, false, List, ◌++◌, Option, refl}
use Rattle.std.specs.Prelude.{◌||◌, if◌then◌else◌}
use Rattle.std.specs.List.{cons_option}
use Rattle.chat_card.specs.Parts.{Part}
use Rattle.chat_card.specs.declared.way.Way.TheVariants.{Together, Choice, Beside}
use Rattle.chat_card.specs.Shown.{Forest, Nothing, Then, Kept, beside, chosen, is_choice, is_text, kept, leaf_beside, leaf_of, shows_text}
use Rattle.chat_card.specs.Walks.{kept_by, own, way_after, way_within}

-- what is kept of a part and of those that follow it
both : (o : Option Kept) (a b x y : List Kept) → a ≡ b → x ≡ y → cons_option o (a ++ x) ≡ cons_option o (b ++ y)
both o a b x y first second = rw (first, second) refl

kept-beside : (f : Forest) → kept_by Beside f ≡ beside f
kept-beside Nothing = refl
kept-beside (Then p within more) =
    both (leaf_beside p) (kept_by Beside within) (beside within) (kept_by Beside more) (beside more) (kept-beside within) (kept-beside more)

-- what is kept of the parts in a part that is kept whole
within-choice : (choice : Bool) (f : Forest) → kept_by Together f ≡ kept f → kept_by Choice f ≡ chosen f
    → kept_by (if choice then Choice else Together) f ≡ (if choice then chosen f else kept f)
within-choice true f together choice = choice
within-choice false f together choice = together

-- the first of alternatives, with a text to show or none
first-chosen : (has_text : Bool) (p : Part) (within more : Forest)
    → kept_by (way_within true p.node.kind (shows_text within)) within ≡ (if is_choice p within then chosen within else kept within)
    → kept_by Choice more ≡ chosen more
    → cons_option (own has_text p) (kept_by (way_within has_text p.node.kind (shows_text within)) within ++ kept_by (way_after Choice has_text) more)
    ≡ (if has_text then cons_option (leaf_of p) ((if is_choice p within then chosen within else kept within) ++ beside more) else cons_option (leaf_beside p) (beside within ++ chosen more))
first-chosen true p within more inner next =
    let inside = if is_choice p within then chosen within else kept within in
    both (leaf_of p) _ inside (kept_by Beside more) (beside more) inner (kept-beside more)
first-chosen false p within more inner next =
    both (leaf_beside p) (kept_by Beside within) (beside within) (kept_by Choice more) (chosen more) (kept-beside within) next

mutual
  pub kept-together : (f : Forest) → kept_by Together f ≡ kept f
  kept-together Nothing = refl
  kept-together (Then p within more) =
      let inside = if is_choice p within then chosen within else kept within in
      both (leaf_of p) _ inside (kept_by Together more) (kept more)
      (within-choice (is_choice p within) within (kept-together within) (kept-choice within)) (kept-together more)

  kept-choice : (f : Forest) → kept_by Choice f ≡ chosen f
  kept-choice Nothing = refl
  kept-choice (Then p within more) =
      first-chosen (is_text p.node || shows_text within) p within more
      (within-choice (is_choice p within) within (kept-together within) (kept-choice within)) (kept-choice more)
