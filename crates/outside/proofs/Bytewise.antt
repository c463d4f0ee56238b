-- Torn writes and partly done cuts, byte by byte.
use Rattle.std.proofs.Common.{◌≡◌, ◌⊎◌, inl, inr, ℕ, zero, suc, ◌+◌, ◌-◌, ◌<◌, ◌≤◌, List, [], ◌∷◌, length, take, drop, slice_get, refl, sym, ◌∙◌, ap, arith}
use Rattle.std.proofs.lemmas.Bool.{cases_lt}
use Rattle.std.proofs.lemmas.Option.{slice_get-get_or, slice_get_past, none-some}
use Rattle.std.specs.Prelude.{get_or}
use Rattle.outside.specs.Crash.{Torn, PartlyCut}

pub get_take : (n : ℕ) (xs : List ℕ) (i : ℕ) → i < n → slice_get (take n xs) i ≡ slice_get xs i
get_take zero xs i lt = absurd (omega (arith, lt))
get_take (suc n) [] i lt = refl
get_take (suc n) (x ∷ xs) zero lt = refl
get_take (suc n) (x ∷ xs) (suc i) lt = get_take n xs i (omega (arith, lt))

pub get_drop : (n : ℕ) (xs : List ℕ) (i j : ℕ) → n + i ≡ j → slice_get (drop n xs) i ≡ slice_get xs j
get_drop zero xs i j is = ap (slice_get xs) (omega (arith, is))
get_drop (suc n) [] i j is = refl
get_drop (suc n) (x ∷ xs) i zero is = absurd (omega (arith, is))
get_drop (suc n) (x ∷ xs) i (suc j) is = get_drop n xs i j (omega (arith, is))

-- a torn write changes nothing outside its range
pub torn_get : (at n : ℕ) (old new : List ℕ) (i : ℕ) → Torn at n old new → (i < at) ⊎ (at + n ≤ i) → slice_get new i ≡ slice_get old i
torn_get at n old new i torn (inl lt) = sym (get_take at new i lt) ∙ ap (λ (l : List ℕ). slice_get l i) torn.before ∙ get_take at old i lt
torn_get at n old new i torn (inr le) =
    let k = i - (at + n) in
    let there : (at + n) + k ≡ i = omega (arith, le) in
    sym (get_drop (at + n) new k i there) ∙ ap (λ (l : List ℕ). slice_get l k) torn.after ∙ get_drop (at + n) old k i there

pub front_get : (n : ℕ) (old new : List ℕ) (i : ℕ) → PartlyCut n old new → i < length new → slice_get new i ≡ slice_get old i
front_get n old new i cut lt = ap (λ (l : List ℕ). slice_get l i) (sym cut.front) ∙ get_take (length new) old i lt

-- a byte before the end that a cut makes stays
pub uncut_get : (n : ℕ) (old new : List ℕ) (i : ℕ) → PartlyCut n old new → i < n → slice_get new i ≡ slice_get old i
uncut_get n old new i cut lt = elim (cases_lt i (length new)) [
  | inl within ↦ front_get n old new i cut within
  | inr past ↦ slice_get_past new i past ∙ sym (slice_get_past old i (omega (arith, cut.no_shorter, past, lt)))
]

-- a list has a byte where another has the same one
pub same_within : (xs ys : List ℕ) (i : ℕ) → slice_get xs i ≡ slice_get ys i → i < length xs → i < length ys
same_within xs ys i same lt = elim (cases_lt i (length ys)) [
  | inl within ↦ within
  | inr past ↦ absurd (none-some (get_or xs i 0) (sym (slice_get_past ys i past) ∙ sym same ∙ slice_get-get_or xs i 0 lt))
]
