-- The words of bytes, by their first byte.
use Rattle.std.proofs.Common.{◌≡◌, ℕ, suc, ◌<◌, inl, inr, Bool, true, false, get_or, not, cond, eqb, nat_lt, List, [], ◌∷◌, length, take, drop, refl, sym, subst, ap, ◌∙◌, arith}
use Rattle.std.specs.List.{filter, position, position_or_len, slice_split, onto_first}
use Rattle.std.proofs.lemmas.List.Splits.{slice_split-cons_yes, slice_split-cons_no}
use Rattle.std.proofs.lemmas.Bool.{cases_Bool, ltb-false}
use Rattle.std.proofs.lemmas.List.Sums.{prefix_len-le-length}
use Rattle.std.specs.Option.{unwrap_or}
use Rattle.kit.specs.Comments.{depth_after}
use Rattle.mail_date.specs.Words.{without_comments, escaped_after, ends_word, is_separator, words}

abbrev is_nonempty : List ℕ → Bool
is_nonempty part = nat_lt 0 (length part)

-- what replaces a byte that is in no comment
abbrev uncommented : ℕ → ℕ
uncommented b = cond (not (eqb b 40)) b 32

-- the same of the bytes after that byte
abbrev uncommented_after : ℕ → List ℕ → List ℕ
uncommented_after b bs = without_comments (depth_after 0 false b) (escaped_after 0 false b) bs

uncommented_separates : (b : ℕ) → ends_word b ≡ true → is_separator (uncommented b) ≡ true
uncommented_separates b ends = grind arith

split_at_gap : (b : ℕ) (bs : List ℕ) → ends_word b ≡ true → slice_split is_separator (without_comments 0 false (b ∷ bs)) ≡ [] ∷ slice_split is_separator (uncommented_after b bs)
split_at_gap b bs ends = slice_split-cons_yes is_separator (uncommented b) (uncommented_after b bs) (uncommented_separates b ends)

in_word : (b : ℕ) → ends_word b ≡ false → (eqb b 40 ≡ false) × (is_separator b ≡ false)
in_word b h = (grind arith, grind arith)

either : (v : Bool) (n : ℕ) → cond v n n ≡ n
either true n = refl
either false n = refl

without_comments-word : (b : ℕ) (bs : List ℕ) → ends_word b ≡ false → without_comments 0 false (b ∷ bs) ≡ b ∷ without_comments 0 false bs
without_comments-word b bs h = rw ((in_word b h).0, either (eqb b 41) 0) refl

-- the first part of bytes, and what it leaves
record StartsWith (bytes word rest : List ℕ) : Type 0 where
  pub parts : List (List ℕ)
  pub split : slice_split is_separator (without_comments 0 false bytes) ≡ word ∷ parts
  pub others : filter is_nonempty parts ≡ words rest

abbrev word_len : List ℕ → ℕ
word_len bytes = position_or_len ends_word bytes

word_len-cons : (b : ℕ) (bs : List ℕ) → ends_word b ≡ false → word_len (b ∷ bs) ≡ suc (word_len bs)
word_len-cons b bs in_it = rw in_it (omega arith)

one_more : (b : ℕ) (bs word rest : List ℕ) → ends_word b ≡ false → StartsWith bs word rest → StartsWith (b ∷ bs) (b ∷ word) rest
one_more b bs word rest in_it more = record {
  parts = more.parts;
  split = ap (slice_split is_separator) (without_comments-word b bs in_it) ∙ slice_split-cons_no is_separator b (without_comments 0 false bs) (in_word b in_it).1 ∙ ap (onto_first b) more.split;
  others = more.others;
}

starts_with_word : (bytes : List ℕ) → StartsWith bytes (take (word_len bytes) bytes) (drop (word_len bytes) bytes)
starts_with_word [] = record { parts = []; split = refl; others = refl }
starts_with_word (b ∷ bs) =
    elim (cases_Bool (ends_word b)) [
      | inl ends ↦ rw ends (record {
        parts = slice_split is_separator (uncommented_after b bs);
        split = split_at_gap b bs ends;
        others = sym (ap (filter is_nonempty) (split_at_gap b bs ends));
      })
      | inr in_it ↦
          let P : ℕ → Type 0 = λ n. StartsWith (b ∷ bs) (take n (b ∷ bs)) (drop n (b ∷ bs)) in
          subst P (sym (word_len-cons b bs in_it)) (one_more b bs _ _ in_it (starts_with_word bs))
    ]

is_nonempty-cons : (b : ℕ) (bs : List ℕ) → is_nonempty (b ∷ bs) ≡ true
is_nonempty-cons b bs = grind arith

-- the word that comes first
pub words-first : (bytes : List ℕ) → 0 < length bytes → ends_word (get_or bytes 0 0) ≡ false → words bytes ≡ take (word_len bytes) bytes ∷ words (drop (word_len bytes) bytes)
words-first [] some in_it = absurd (omega arith)
words-first (b ∷ bs) some in_it =
    let P : ℕ → Type 0 = λ n. words (b ∷ bs) ≡ take n (b ∷ bs) ∷ words (drop n (b ∷ bs)) in
    let first = one_more b bs _ _ in_it (starts_with_word bs) in
    subst P (sym (word_len-cons b bs in_it)) (ap (filter is_nonempty) first.split ∙ rw (is_nonempty-cons b (take (word_len bs) bs)) (ap (λ (ws : List (List ℕ)). (b ∷ take (word_len bs) bs) ∷ ws) first.others))

-- where the word ends, or the bytes
pub word_end_or_length : (bytes : List ℕ) → unwrap_or (position ends_word bytes) (length bytes) ≡ word_len bytes
word_end_or_length bytes =
    elim (cases_Bool (nat_lt (word_len bytes) (length bytes))) [
      | inl before ↦ rw before refl
      | inr at_end ↦ rw at_end (omega (arith, prefix_len-le-length (λ b. not (ends_word b)) bytes, ltb-false _ _ at_end))
    ]
