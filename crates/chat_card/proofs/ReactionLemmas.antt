-- The reaction that is taken out of the parts of a mail.
use Rattle.std.proofs.Common.{◌≡◌, add-one, ℕ, zero, suc, ◌+◌, ◌<◌, Bool, true, false, List, [], ◌∷◌, ◌++◌, Option, Some, None, length, take, drop, refl, sym, ap, ◌∙◌, arith}
use Rattle.std.specs.Prelude.{◌&&◌, find, if◌then◌else◌, not, position, slice_get}
use Rattle.std.specs.List.{after_first, before_first, insert, remove, slice_index_or}
use Rattle.std.proofs.lemmas.List.Folds.{find_at}
use Rattle.std.proofs.lemmas.Option.{slice_get-get_or}
use Rattle.card_type.specs.Kinds.{has_some}
use Rattle.chat_card.specs.Parts.{Part}
use Rattle.chat_card.specs.Reactions.{is_reaction, other_parts, reaction_part}
use Rattle.chat_card.specs.Shown.{shown}
use Rattle.chat_card.specs.Texts.{card_text}
use Rattle.chat_card.proofs.FileLemmas.{found-index, found-none}

-- ---- the first value that passes is taken out of a list, and put back

module _ {A : Type 0} (test : A → Bool) (xs : List A) (at : ℕ) (is : position test xs ≡ Some at) where
  pub taken : before_first test xs ++ after_first test xs ≡ remove xs at
  taken = ap (λ n. take n xs ++ drop (n + 1) xs) (found-index test xs at is) ∙ ap (λ n. take at xs ++ drop n xs) (add-one at)

  pub found_there : (x : A) → at < length xs → x ≡ slice_index_or xs at x → find test xs ≡ Some x
  found_there x within there = find_at test xs ∙ ap (slice_get xs) (found-index test xs at is) ∙ slice_get-get_or xs at x within ∙ ap Some (sym there)

pub put_back : {A : Type 0} (xs : List A) (at : ℕ) (x : A) → at < length xs → x ≡ slice_index_or xs at x → insert (remove xs at) at x ≡ xs
put_back [] at x within there = absurd (let none : ⊥ = omega (arith, within) in none)
put_back (y ∷ xs) zero x within there = ap (λ z. z ∷ xs) there
put_back (y ∷ xs) (suc at) x within there = ap (λ ys. y ∷ ys) (put_back xs at x (omega (arith, within)) there)

-- ---- whether a mail has one

module _ (edit : Option (List ℕ)) (parts : List Part) where
  abbrev has_text : Bool
  has_text = has_some (card_text edit (shown (other_parts parts))).text

  pub not_found : (is_reply : Bool) → position is_reaction parts ≡ None → reaction_part is_reply edit parts ≡ None
  not_found is_reply none = by (is_reply && not has_text)
    where
      by : (b : Bool) → (if b then find is_reaction parts else None) ≡ None
      by true = found-none is_reaction parts none
      by false = refl

  pub has_more : has_text ≡ true → reaction_part true edit parts ≡ None
  has_more more = rw more refl

  pub is_found : has_text ≡ false → reaction_part true edit parts ≡ find is_reaction parts
  is_found alone = rw alone refl
