-- Where the bytes after a word begin.
use Rattle.std.proofs.Common.{◌≡◌, ℕ, suc, ◌+◌, ◌-◌, ◌≤◌, true, false, Bool, List, [], ◌∷◌, length, take, drop, codes, Option, Some, None, refl, sym, ap, ◌∙◌, arith, inl, inr}
use Rattle.std.specs.Prelude.{position, nat_eq, option_map, IfSome, ◌&&◌, ◌==◌, if◌then◌else◌}
use Rattle.std.specs.List.{starts_with}
use Rattle.std.proofs.lemmas.Bool.{cases_lt}
use Rattle.std.proofs.lemmas.List.{drop-drop, drop_all, length-drop}
use Rattle.encoded_words.specs.declared.word.Coding.{Coding}
use Rattle.kit.specs.Charsets.{charset_of}
use Rattle.kit.specs.Cuts.{strip_prefix}
use Rattle.kit.specs.Options.{◌>>=◌}
use Rattle.kit.specs.Printing.{is_printing, is_visible}
use Rattle.encoded_words.specs.Words.{Found, cut, word_of, word_at, coding_of, without_language}

-- the bytes are what is left after so many others
abbrev IsRest : List ℕ → List ℕ → Type 0
IsRest all rest = (k : ℕ) × (rest ≡ drop k all)

abbrev IsCut : List ℕ → List ℕ × List ℕ → Type 0
IsCut all p = IsRest all p.1

abbrev IsFound : List ℕ → Found → Type 0
IsFound all w = IsRest all w.rest

rest_of_rest : (n : ℕ) (all bytes rest : List ℕ) → IsRest all bytes → rest ≡ drop n bytes → IsRest all rest
rest_of_rest n all bytes rest h e = (h.0 + n, e ∙ ap (drop n) h.1 ∙ drop-drop n h.0 all)

bind : {A B : Type 0} (P : A → Type 0) (Q : B → Type 0) (o : Option A) (f : A → Option B) → IfSome o P
    → ((x : A) → P x → IfSome (f x) Q) → IfSome (o >>= f) Q
bind P Q None f h g = tt
bind P Q (Some x) f h g = g x h

cut-rest : (all bytes : List ℕ) → IsRest all bytes → IfSome (cut bytes) (IsCut all)
cut-rest all bytes h = go (position (λ b. b == 63) bytes)
  where
    go : (o : Option ℕ) → IfSome (option_map (λ at. (take at bytes, drop (at + 1) bytes)) o) (IsCut all)
    go None = tt
    go (Some at) = rest_of_rest (at + 1) all bytes (drop (at + 1) bytes) h refl

strip_prefix-rest : (prefix all bytes : List ℕ) → IsRest all (drop (length prefix) bytes) → IfSome (strip_prefix bytes prefix) (IsRest all)
strip_prefix-rest prefix all bytes h = go (starts_with nat_eq bytes prefix)
  where
    go : (b : Bool) → IfSome (if b then Some (drop (length prefix) bytes) else None) (IsRest all)
    go true = h
    go false = tt

word_of-rest : (charset coding text rest all : List ℕ) → IsRest all rest → IfSome (word_of charset coding text rest) (IsFound all)
word_of-rest charset coding text rest all h = go (is_visible charset && is_printing text) (coding_of coding)
  where
    go : (b : Bool) (o : Option Coding)
        → IfSome (if b then option_map (λ c. record { charset = charset_of (without_language charset); coding = c; text = text; rest = rest }) o else None) (IsFound all)
    go false o = tt
    go true None = tt
    go true (Some c) = h

-- after the first two bytes, which are its `=?`
word_at-rest : (bytes : List ℕ) → IfSome (word_at bytes) (IsFound (drop 2 bytes))
word_at-rest bytes =
    let all = drop 2 bytes in
    let first = bind (IsRest all) (IsCut all) (strip_prefix bytes (codes "=?")) cut (strip_prefix-rest (codes "=?") all bytes (0, refl)) (cut-rest all) in
    bind (IsCut all) (IsFound all) (strip_prefix bytes (codes "=?") >>= cut) _ first
    (λ charset h. bind (IsCut all) (IsFound all) (cut charset.1) _ (cut-rest all charset.1 h)
    (λ coding i. bind (IsCut all) (IsFound all) (cut coding.1) _ (cut-rest all coding.1 i)
    (λ text j. bind (IsRest all) (IsFound all) (strip_prefix text.1 (codes "=")) _ (strip_prefix-rest (codes "=") all text.1 (rest_of_rest 1 all text.1 (drop 1 text.1) j refl))
    (λ rest k. word_of-rest charset.0 coding.0 text.0 rest all k))))

drop_again : (k : ℕ) (xs : List ℕ) → drop (length xs - length (drop k xs)) xs ≡ drop k xs
drop_again k xs = elim (cases_lt k (length xs)) [
  | inl lt ↦ (let same : length xs - length (drop k xs) ≡ k = omega (arith, length-drop k xs) in ap (λ n. drop n xs) same)
  | inr le ↦ drop_all (length xs - length (drop k xs)) xs (omega (arith, length-drop k xs)) ∙ sym (drop_all k xs le)
]

-- the bytes after a word, of those after its first byte
pub rest_of_word : (b : ℕ) (bs : List ℕ) (w : Found) → word_at (b ∷ bs) ≡ Some w → drop (length bs - length w.rest) bs ≡ w.rest
rest_of_word b bs w e =
    let rest : IsRest (drop 1 bs) w.rest = go (word_at (b ∷ bs)) e (word_at-rest (b ∷ bs)) in
    let at : w.rest ≡ drop (1 + rest.0) bs = rest.1 ∙ drop-drop rest.0 1 bs in
    rw at (drop_again (1 + rest.0) bs)
  where
    go : (o : Option Found) → o ≡ Some w → IfSome o (IsFound (drop 1 bs)) → IsRest (drop 1 bs) w.rest
    go None i h = absurd cc
    go (Some v) i h = let same : v ≡ w = cc in rw (← same) h

-- a word has bytes of its own
pub word_at-shorter : (bytes : List ℕ) (w : Found) → word_at bytes ≡ Some w → suc (length w.rest) ≤ length bytes
word_at-shorter [] w e = absurd cc
word_at-shorter (b ∷ bs) w e = omega (arith, ap length (rest_of_word b bs w e), length-drop (length bs - length w.rest) bs)
