-- How a search meets the first word.
use Rattle.std.proofs.Common.{◌≡◌, ℕ, zero, suc, ◌+◌, ◌-◌, ◌<◌, List, [], ◌∷◌, ◌++◌, length, get_or, take, drop, Some, None, refl, sym, ap, ◌∙◌, append_assoc}
use Rattle.std.proofs.lemmas.List.{append-nil, take_more, drop_more}
use Rattle.encoded_words.specs.Words.{Found, word_at}
use Rattle.encoded_words.specs.Runs.{Runs, Last, Next, put_before, begun, taken_by, runs_after, runs}
use Rattle.encoded_words.proofs.WordLemmas.{rest_of_word}

-- a plain run put before runs
abbrev pub put_plain : List ℕ → Runs → Runs
put_plain s (Last t) = Last (s ++ t)
put_plain s (Next t w ps) = Next (s ++ t) w ps

-- what a word takes is passed over
passed : (k : ℕ) (bs : List ℕ) → runs_after k bs ≡ runs (drop k bs)
passed zero bs = refl
passed (suc k) [] = refl
passed (suc k) (b ∷ bs) = passed k bs

pub runs-word : (bytes : List ℕ) (w : Found) → word_at bytes ≡ Some w → runs bytes ≡ Next [] w (runs w.rest)
runs-word [] w e = absurd cc
runs-word (b ∷ bs) w e =
    ap (λ o. begun o b (runs_after (taken_by o bs) bs)) e
    ∙ ap (Next [] w) (passed (length bs - length w.rest) bs ∙ ap runs (rest_of_word b bs w e))

pub runs-other : (b : ℕ) (bs : List ℕ) → word_at (b ∷ bs) ≡ None → runs (b ∷ bs) ≡ put_before b (runs bs)
runs-other b bs e = ap (λ o. begun o b (runs_after (taken_by o bs) bs)) e

put_plain-put_before : (s : List ℕ) (b : ℕ) (ps : Runs) → put_plain s (put_before b ps) ≡ put_plain (s ++ b ∷ []) ps
put_plain-put_before s b (Last t) = ap Last (sym (append_assoc s (b ∷ []) t))
put_plain-put_before s b (Next t w ps) = ap (λ r. Next r w ps) (sym (append_assoc s (b ∷ []) t))

-- no word begins at an index, so its byte is of the plain run
pub search_on : (bytes : List ℕ) (at : ℕ) (all : Runs) → at < length bytes → word_at (drop at bytes) ≡ None
    → put_plain (take at bytes) (runs (drop at bytes)) ≡ all → put_plain (take (at + 1) bytes) (runs (drop (at + 1) bytes)) ≡ all
search_on bytes at all lt none so_far =
    let b = get_or bytes at 0 in
    let more = drop_more bytes at 0 lt in
    let here : runs (drop at bytes) ≡ put_before b (runs (drop (at + 1) bytes)) =
    ap runs more ∙ runs-other b (drop (at + 1) bytes) (ap word_at (sym more) ∙ none) in
    ap (λ s. put_plain s (runs (drop (at + 1) bytes))) (take_more bytes at 0 lt)
    ∙ sym (put_plain-put_before (take at bytes) b (runs (drop (at + 1) bytes)))
    ∙ ap (put_plain (take at bytes)) (sym here)
    ∙ so_far

pub search_ends : (bytes : List ℕ) (at : ℕ) (w : Found) → word_at (drop at bytes) ≡ Some w
    → put_plain (take at bytes) (runs (drop at bytes)) ≡ runs bytes → runs bytes ≡ Next (take at bytes) w (runs w.rest)
search_ends bytes at w e so_far =
    sym so_far
    ∙ ap (put_plain (take at bytes)) (runs-word (drop at bytes) w e)
    ∙ ap (λ s. Next s w (runs w.rest)) (append-nil (take at bytes))
