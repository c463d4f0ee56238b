-- Sextets regrouped by eight bits, and the groups of four symbols that the crate base64 decodes.
use Rattle.std.proofs.Common.{◌≡◌, ℕ, zero, suc, ◌+◌, ◌-◌, ◌*◌, ◌/◌, ◌%◌, ◌<◌, ◌≤◌, Bool, true, false, not, eqb, List, [], ◌∷◌, ◌++◌, length, get_or, take, map, filter, Option, Some, None, refl, sym, ap, ◌∙◌, arith, inl, inr}
use Rattle.std.specs.Prelude.{position, filter_map, flat_map, slice_index, is_some}
use Rattle.std.specs.List.{AllByRecursion, count_by, position_or_len, list_any}
use Rattle.std.proofs.lemmas.List.{append-nil, length-map}
use Rattle.std.proofs.lemmas.Bool.{cases_lt, cases_eq, lt-ltb, le-ltb, ne_eqb, eqb-true, not-true}
use Rattle.std.proofs.lemmas.List.Sums.{length-filter, passes_at_first, prefix_len_passes}
use Rattle.std.proofs.lemmas.List.Folds.{list_any_at, list_any_none}
use Rattle.base64.specs.Engines.{standard_no_pad}
use Rattle.base64.specs.GeneralPurpose.{encode_of, IsBytes}
use Rattle.base64.specs.Rfc4648.{encode_symbols}
use Rattle.base64.specs.Decode.{decode_group}
use Rattle.transfer_code.specs.Base64.{alphabet, sextet_of, sextets, six_bits, octets, decode_base64, is_symbol, completed, before_padding}

abbrev pub AreSextets : List ℕ → Type 0
AreSextets m = AllByRecursion (λ i. i < 64) m

-- ---- the octets of sextets

first_octet : (a b : ℕ) → a < 64 → b < 64 → 128 * (a / 32) + 64 * (a / 16 % 2) + 32 * (a / 8 % 2) + 16 * (a / 4 % 2) + 8 * (a / 2 % 2) + 4 * (a % 2) + 2 * (b / 32) + b / 16 % 2 ≡ a * 4 + b / 16
first_octet a b h k = omega arith

second_octet : (b c : ℕ) → b < 64 → c < 64 → 128 * (b / 8 % 2) + 64 * (b / 4 % 2) + 32 * (b / 2 % 2) + 16 * (b % 2) + 8 * (c / 32) + 4 * (c / 16 % 2) + 2 * (c / 8 % 2) + c / 4 % 2 ≡ b % 16 * 16 + c / 4
second_octet b c h k = omega arith

third_octet : (c d : ℕ) → c < 64 → d < 64 → 128 * (c / 2 % 2) + 64 * (c % 2) + 32 * (d / 32) + 16 * (d / 16 % 2) + 8 * (d / 8 % 2) + 4 * (d / 4 % 2) + 2 * (d / 2 % 2) + d % 2 ≡ c % 4 * 64 + d
third_octet c d h k = omega arith

-- the octets of whole groups of four sextets
abbrev pub groups : List ℕ → List ℕ
groups (a ∷ b ∷ c ∷ d ∷ m) = decode_group a b c d ++ groups m
groups _ = []

-- whole groups: one sextet left over is dropped, and two or three are filled up with zeros
abbrev pub filled : List ℕ → List ℕ
filled [] = []
filled (a ∷ []) = []
filled (a ∷ b ∷ []) = a ∷ b ∷ 0 ∷ 0 ∷ []
filled (a ∷ b ∷ c ∷ []) = a ∷ b ∷ c ∷ 0 ∷ []
filled (a ∷ b ∷ c ∷ d ∷ m) = a ∷ b ∷ c ∷ d ∷ filled m

-- how many octets so many sextets give
abbrev pub whole : ℕ → ℕ
whole n = 6 * n / 8

-- by eight bits the sextets give the first of the octets of the filled groups
pub octets-six_bits : (m : List ℕ) → AreSextets m → octets (flat_map six_bits m) ≡ take (whole (length m)) (groups (filled m))
octets-six_bits [] h = refl
octets-six_bits (a ∷ []) h = refl
octets-six_bits (a ∷ b ∷ []) h = rw (first_octet a b h.0 h.1.0) refl
octets-six_bits (a ∷ b ∷ c ∷ []) h = rw (first_octet a b h.0 h.1.0, second_octet b c h.1.0 h.1.1.0) refl
octets-six_bits (a ∷ b ∷ c ∷ d ∷ m) h =
    let more : whole (length (a ∷ b ∷ c ∷ d ∷ m)) ≡ suc (suc (suc (whole (length m)))) = omega arith in
    rw (more, first_octet a b h.0 h.1.0, second_octet b c h.1.0 h.1.1.0, third_octet c d h.1.1.0 h.1.1.1.0, octets-six_bits m h.1.1.1.1) refl

length-octets : (m : List ℕ) → length (octets (flat_map six_bits m)) ≡ whole (length m)
length-octets [] = refl
length-octets (a ∷ []) = refl
length-octets (a ∷ b ∷ []) = refl
length-octets (a ∷ b ∷ c ∷ []) = refl
length-octets (a ∷ b ∷ c ∷ d ∷ m) = omega (arith, length-octets m)

-- ---- symbols

abbrev pub symbol : ℕ → ℕ
symbol i = slice_index alphabet i

found_at : (p : ℕ → Bool) (xs : List ℕ) (i : ℕ) → position p xs ≡ Some i → (i < length xs) × (p (get_or xs i 0) ≡ true)
found_at p xs i e = elim (cases_lt (position_or_len p xs) (length xs)) [
  | inl lt ↦ (
      let same : Some (position_or_len p xs) ≡ Some i = rw (lt-ltb _ _ lt) at e in
      let is : position_or_len p xs ≡ i = cc in
      (omega arith, rw (← is) (passes_at_first p xs 0 lt)))
  | inr le ↦ (let other : None ≡ Some i = rw (le-ltb _ _ le) at e in absurd cc)
]

symbol-sextet_of : (b i : ℕ) → sextet_of b ≡ Some i → (i < 64) × (symbol i ≡ b)
symbol-sextet_of b i e = let f = found_at (λ c. eqb c b) alphabet i e in (f.0, eqb-true _ _ f.1)

list_any-position : (p : ℕ → Bool) (xs : List ℕ) (o : Option ℕ) → position p xs ≡ o → list_any p xs ≡ is_some o
list_any-position p xs (Some i) e = let f = found_at p xs i e in list_any_at p xs i 0 f.0 f.1
list_any-position p xs None e = list_any_none p xs (λ k d lt. before_first k d lt)
  where
    none : length xs ≤ position_or_len p xs
    none = elim (cases_lt (position_or_len p xs) (length xs)) [
      | inl lt ↦ (let other : Some (position_or_len p xs) ≡ None = rw (lt-ltb _ _ lt) at e in absurd cc)
      | inr le ↦ le
    ]

    before_first : (k d : ℕ) → k < length xs → p (get_or xs k d) ≡ false
    before_first k d lt = not-true _ (prefix_len_passes (λ x. not (p x)) xs k d (omega (arith, none)))

filter_yes : (p : ℕ → Bool) (x : ℕ) (xs : List ℕ) → p x ≡ true → filter p (x ∷ xs) ≡ x ∷ filter p xs
filter_yes p x xs passes = rw passes refl

filter_no : (p : ℕ → Bool) (x : ℕ) (xs : List ℕ) → p x ≡ false → filter p (x ∷ xs) ≡ filter p xs
filter_no p x xs fails = rw fails refl

-- the symbols that are kept are those of the sextets
pub filter-is_symbol : (bs : List ℕ) → (filter is_symbol bs ≡ map symbol (filter_map sextet_of bs)) × AreSextets (filter_map sextet_of bs)
filter-is_symbol [] = (refl, tt)
filter-is_symbol (b ∷ bs) = go (sextet_of b) refl (filter-is_symbol bs)
  where
    go : (o : Option ℕ) → sextet_of b ≡ o → (filter is_symbol bs ≡ map symbol (filter_map sextet_of bs)) × AreSextets (filter_map sextet_of bs)
        → (filter is_symbol (b ∷ bs) ≡ map symbol (filter_map sextet_of (b ∷ bs))) × AreSextets (filter_map sextet_of (b ∷ bs))
    go None e rest = rw e (filter_no is_symbol b bs (list_any-position (λ c. eqb c b) alphabet None e) ∙ rest.0, rest.1)
    go (Some i) e rest =
        let s = symbol-sextet_of b i e in
        rw e (
          filter_yes is_symbol b bs (list_any-position (λ c. eqb c b) alphabet (Some i) e)
              ∙ ap (λ (x : ℕ). x ∷ filter is_symbol bs) (sym s.1) ∙ ap (λ (xs : List ℕ). symbol i ∷ xs) rest.0,
          (s.0, rest.1),
        )

-- ---- whole groups

abbrev pub AreGroups : List ℕ → Type 0
AreGroups [] = Unit {0}
AreGroups (a ∷ b ∷ c ∷ d ∷ m) = (a < 64) × (b < 64) × (c < 64) × (d < 64) × AreGroups m
AreGroups _ = ⊥

pub AreGroups-filled : (m : List ℕ) → AreSextets m → AreGroups (filled m)
AreGroups-filled [] h = tt
AreGroups-filled (a ∷ []) h = tt
AreGroups-filled (a ∷ b ∷ []) h = (h.0, h.1.0, omega arith, omega arith, tt)
AreGroups-filled (a ∷ b ∷ c ∷ []) h = (h.0, h.1.0, h.1.1.0, omega arith, tt)
AreGroups-filled (a ∷ b ∷ c ∷ d ∷ m) h = (h.0, h.1.0, h.1.1.0, h.1.1.1.0, AreGroups-filled m h.1.1.1.1)

first_symbol : (a b : ℕ) → b < 64 → (a * 4 + b / 16) / 4 ≡ a
first_symbol a b h = omega arith

second_symbol : (a b c : ℕ) → b < 64 → c < 64 → (a * 4 + b / 16) % 4 * 16 + (b % 16 * 16 + c / 4) / 16 ≡ b
second_symbol a b c h k = omega arith

third_symbol : (b c d : ℕ) → c < 64 → d < 64 → (b % 16 * 16 + c / 4) % 16 * 4 + (c % 4 * 64 + d) / 64 ≡ c
third_symbol b c d h k = omega arith

fourth_symbol : (c d : ℕ) → d < 64 → (c % 4 * 64 + d) % 64 ≡ d
fourth_symbol c d h = omega arith

-- the octets of whole groups are encoded by their symbols
pub encode_symbols-groups : (m : List ℕ) → AreGroups m → encode_symbols alphabet (groups m) ≡ map symbol m
unfolding encode_symbols
encode_symbols-groups [] h = refl
encode_symbols-groups (a ∷ []) h = absurd h
encode_symbols-groups (a ∷ b ∷ []) h = absurd h
encode_symbols-groups (a ∷ b ∷ c ∷ []) h = absurd h
encode_symbols-groups (a ∷ b ∷ c ∷ d ∷ m) h =
    rw (first_symbol a b h.1, second_symbol a b c h.1 h.2, third_symbol b c d h.2 h.3, fourth_symbol c d h.3, encode_symbols-groups m h.4) refl

bytes_cons : (x : ℕ) (xs : List ℕ) → x < 256 → ((i : ℕ) → slice_index xs i < 256) → (i : ℕ) → slice_index (x ∷ xs) i < 256
bytes_cons x xs lt h zero = lt
bytes_cons x xs lt h (suc i) = h i

pub groups_below : (m : List ℕ) → AreGroups m → (i : ℕ) → slice_index (groups m) i < 256
groups_below [] h i = omega arith
groups_below (a ∷ []) h i = absurd h
groups_below (a ∷ b ∷ []) h i = absurd h
groups_below (a ∷ b ∷ c ∷ []) h i = absurd h
groups_below (a ∷ b ∷ c ∷ d ∷ m) h i =
    let a_lt = h.0 in
    let b_lt = h.1 in
    let c_lt = h.2 in
    let d_lt = h.3 in
    let x : a * 4 + b / 16 < 256 = omega arith in
    let y : b % 16 * 16 + c / 4 < 256 = omega arith in
    let z : c % 4 * 64 + d < 256 = omega arith in
    bytes_cons _ ((b % 16 * 16 + c / 4) ∷ (c % 4 * 64 + d) ∷ groups m) x
    (bytes_cons _ ((c % 4 * 64 + d) ∷ groups m) y (bytes_cons _ (groups m) z (groups_below m h.4))) i

-- ---- completed symbols are those of the filled groups

completed_group : (w x y z : ℕ) (s : List ℕ) → completed (w ∷ x ∷ y ∷ z ∷ s) ≡ w ∷ x ∷ y ∷ z ∷ completed s
completed_group w x y z s =
    let over : length (w ∷ x ∷ y ∷ z ∷ s) % 4 ≡ length s % 4 = omega arith in
    rw over (elim (cases_eq (length s % 4) 1) [
      | inl is ↦ (let less : length (w ∷ x ∷ y ∷ z ∷ s) - 1 ≡ suc (suc (suc (suc (length s - 1)))) = omega arith in rw (is, less) refl)
      | inr other ↦ rw (ne_eqb _ _ other) (elim (cases_eq (length s % 4) 2) [
        | inl is ↦ rw is refl
        | inr others ↦ rw (ne_eqb _ _ others) (elim (cases_eq (length s % 4) 3) [ inl is ↦ rw is refl | inr rest ↦ rw (ne_eqb _ _ rest) refl ])
      ])
    ])

pub completed-map : (m : List ℕ) → completed (map symbol m) ≡ map symbol (filled m)
completed-map [] = refl
completed-map (a ∷ []) = refl
completed-map (a ∷ b ∷ []) = refl
completed-map (a ∷ b ∷ c ∷ []) = refl
completed-map (a ∷ b ∷ c ∷ d ∷ m) =
    completed_group (symbol a) (symbol b) (symbol c) (symbol d) (map symbol m)
    ∙ ap (λ (s : List ℕ). symbol a ∷ symbol b ∷ symbol c ∷ symbol d ∷ s) (completed-map m)

-- ---- the symbols that are kept, completed, are those of the octets of the filled groups

abbrev pub octets_of : List ℕ → List ℕ
octets_of bs = groups (filled (filter_map sextet_of bs))

pub octets_below : (bs : List ℕ) → IsBytes (octets_of bs)
octets_below bs = groups_below (filled (filter_map sextet_of bs)) (AreGroups-filled (filter_map sextet_of bs) (filter-is_symbol bs).1)

pub completed-filter : (bs : List ℕ) → completed (filter is_symbol bs) ≡ encode_of standard_no_pad (octets_of bs)
completed-filter bs =
    let m = filter_map sextet_of bs in
    let kept = filter-is_symbol bs in
    ap completed kept.0
    ∙ completed-map m
    ∙ sym (append-nil (encode_symbols alphabet (octets_of bs)) ∙ encode_symbols-groups (filled m) (AreGroups-filled m kept.1))

-- so the first of those octets are what the text decodes to
pub octets_of_text : (bytes : List ℕ) → take (whole (length (filter is_symbol (before_padding bytes)))) (octets_of (before_padding bytes)) ≡ decode_base64 bytes
octets_of_text bytes =
    let m = sextets bytes in
    let kept = filter-is_symbol (before_padding bytes) in
    ap (λ n. take (whole n) (groups (filled m))) (ap length kept.0 ∙ length-map m symbol) ∙ sym (octets-six_bits m kept.1)

-- and this is how many
pub length-decode_base64 : (bytes : List ℕ) → length (decode_base64 bytes) ≡ whole (count_by is_symbol (before_padding bytes))
length-decode_base64 bytes =
    let m = sextets bytes in
    let kept = filter-is_symbol (before_padding bytes) in
    length-octets m ∙ ap whole (sym (length-map m symbol) ∙ ap length (sym kept.0) ∙ length-filter is_symbol (before_padding bytes))
