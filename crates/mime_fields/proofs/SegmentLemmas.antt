-- Where the first segment of bytes ends, and the word that a segment begins with.
use Rattle.std.proofs.Common.{◌≡◌, ℕ, ◌+◌, ◌<◌, ◌≤◌, Bool, true, false, not, cond, List, [], ◌∷◌, ◌++◌, length, get_or, take, drop, Some, None, refl, sym, ap, ◌∙◌, inl, inr}
use Rattle.std.specs.Prelude.{◌&&◌, ◌==◌, nat_lt, position}
use Rattle.std.specs.List.{before_first, onto_first, position_or_len}
use Rattle.std.proofs.lemmas.Bool.{cases_Bool, ltb-false}
use Rattle.std.proofs.lemmas.List.{take_all, take_more, drop_all, drop_more}
use Rattle.mime_fields.specs.Segments.{escaped_after, segments, segments_from, quoted_after}

-- bytes put before the first segment
abbrev pub put_before : List ℕ → List (List ℕ) → List (List ℕ)
put_before [] ss = ss
put_before (b ∷ bs) ss = onto_first b (put_before bs ss)

put_before-push : (s : List ℕ) (b : ℕ) (ss : List (List ℕ)) → put_before (s ++ b ∷ []) ss ≡ put_before s (onto_first b ss)
put_before-push [] b ss = refl
put_before-push (c ∷ s) b ss = ap (onto_first c) (put_before-push s b ss)

put_before-nil : (s : List ℕ) (ss : List (List ℕ)) → put_before s ([] ∷ ss) ≡ s ∷ ss
put_before-nil [] ss = refl
put_before-nil (b ∷ s) ss = ap (onto_first b) (put_before-nil s ss)

-- a byte that ends no segment is of the first one
pub one_more : (bytes : List ℕ) (at : ℕ) (quoted escaped : Bool) (all : List (List ℕ)) → at < length bytes
    → (get_or bytes at 0 == 59 && not quoted) ≡ false
    → put_before (take at bytes) (segments_from quoted escaped (drop at bytes)) ≡ all
    → put_before (take (at + 1) bytes) (segments_from (quoted_after quoted escaped (get_or bytes at 0)) (escaped_after quoted escaped (get_or bytes at 0)) (drop (at + 1) bytes)) ≡ all
one_more bytes at quoted escaped all lt goes so_far =
    let b = get_or bytes at 0 in
    let rest = segments_from (quoted_after quoted escaped b) (escaped_after quoted escaped b) (drop (at + 1) bytes) in
    let here : segments_from quoted escaped (drop at bytes) ≡ onto_first b rest = ap (segments_from quoted escaped) (drop_more bytes at 0 lt) ∙ rw goes refl in
    ap (λ (s : List ℕ). put_before s rest) (take_more bytes at 0 lt)
    ∙ put_before-push (take at bytes) b rest
    ∙ ap (put_before (take at bytes)) (sym here)
    ∙ so_far

-- a `;` outside quoted strings ends it
pub segment_ends : (bytes : List ℕ) (at : ℕ) (quoted escaped : Bool) → at < length bytes → get_or bytes at 0 ≡ 59 → quoted ≡ false
    → put_before (take at bytes) (segments_from quoted escaped (drop at bytes)) ≡ segments bytes
    → segments bytes ≡ take at bytes ∷ segments (drop (at + 1) bytes)
segment_ends bytes at quoted escaped lt is outside so_far =
    let here : segments_from quoted escaped (drop at bytes) ≡ [] ∷ segments (drop (at + 1) bytes) =
    ap (segments_from quoted escaped) (drop_more bytes at 0 lt) ∙ rw (is, outside) refl in
    sym so_far ∙ ap (put_before (take at bytes)) here ∙ put_before-nil (take at bytes) (segments (drop (at + 1) bytes))

-- where none does, the bytes are one segment
pub only_segment : (bytes : List ℕ) (at : ℕ) (quoted escaped : Bool) → length bytes ≤ at
    → put_before (take at bytes) (segments_from quoted escaped (drop at bytes)) ≡ segments bytes → segments bytes ≡ bytes ∷ []
only_segment bytes at quoted escaped end so_far =
    sym so_far
    ∙ ap (λ (s : List ℕ). put_before s (segments_from quoted escaped (drop at bytes))) (take_all at bytes end)
    ∙ ap (λ (s : List ℕ). put_before bytes (segments_from quoted escaped s)) (drop_all at bytes end)
    ∙ put_before-nil bytes []

-- what precedes the first that passes, by its index
pub before_found : (test : ℕ → Bool) (bytes : List ℕ) (end : ℕ) → position test bytes ≡ Some end → take end bytes ≡ before_first test bytes
before_found test bytes end = go (nat_lt (position_or_len test bytes) (length bytes))
  where
    go : (found : Bool) → cond found (Some (position_or_len test bytes)) None ≡ Some end → take end bytes ≡ before_first test bytes
    go true is = let same : position_or_len test bytes ≡ end = cc in rw (← same) refl
    go false is = absurd cc

pub none_found : (test : ℕ → Bool) (bytes : List ℕ) → position test bytes ≡ None → bytes ≡ before_first test bytes
none_found test bytes is = elim (cases_Bool (nat_lt (position_or_len test bytes) (length bytes))) [
  | inl before ↦ absurd (let some : Some (position_or_len test bytes) ≡ None = rw before at is in cc)
  | inr at_end ↦ sym (take_all (position_or_len test bytes) bytes (ltb-false _ _ at_end))
]
