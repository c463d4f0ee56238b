-- Texts that end in white space, and those that do not.
use Rattle.std.proofs.Common.{◌≡◌, ℕ, ◌-◌, false, List, [], ◌∷◌, length, get_or, take, Some, refl, sym, ap, ◌∙◌, arith}
use Rattle.std.specs.Prelude.{slice_get}
use Rattle.std.specs.List.{suffix_len}
use Rattle.std.proofs.lemmas.List.{take_all}
use Rattle.std.proofs.lemmas.List.Sums.{suffix_len_is}
use Rattle.std.proofs.lemmas.Option.{get_or_from_slice_get}
use Rattle.chat_card.specs.Texts.{is_space, trimmed}
use Rattle.compose.specs.Refusals.{ends_in_space}
use Rattle.compose.proofs.Trims.{last_at, last_or}

ends-last : (b : ℕ) (bs : List ℕ) → ends_in_space (b ∷ bs) ≡ is_space (last_or b bs)
ends-last b [] = refl
ends-last b (c ∷ cs) = ends-last c cs

pub trimmed-same : (t : List ℕ) → ends_in_space t ≡ false → trimmed t ≡ t
trimmed-same [] end = refl
trimmed-same (b ∷ bs) end =
    let t : List ℕ = b ∷ bs in
    let at : length t - 1 ≡ length bs = omega arith in
    let none : suffix_len is_space t ≡ length t - length t = suffix_len_is is_space t (length t) 0 (omega arith) (λ k le lt. absurd (omega arith)) (λ some. rw at (ap is_space (last_at b bs) ∙ (sym (ends-last b bs) ∙ end))) in
    let whole : length t - suffix_len is_space t ≡ length t = omega (arith, none) in
    ap (λ n. take n t) whole ∙ take_all (length t) t (omega arith)

pub last_space : (text : List ℕ) (last : ℕ) → slice_get text (length text - 1) ≡ Some last → is_space last ≡ ends_in_space text
last_space [] last is = absurd cc
last_space (b ∷ bs) last is =
    let at : length (b ∷ bs) - 1 ≡ length bs = omega arith in
    sym (ap is_space (ap (λ n. get_or (b ∷ bs) n 0) (sym at) ∙ get_or_from_slice_get (b ∷ bs) (length (b ∷ bs) - 1) last 0 is)) ∙ ap is_space (last_at b bs) ∙ sym (ends-last b bs)
