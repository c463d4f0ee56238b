-- What the disk model allows is left by the calls since the last sync.
use Rattle.std.proofs.Common.{◌≡◌, ◌⊎◌, inl, inr, ℕ, zero, suc, ◌+◌, ◌-◌, ◌<◌, ◌≤◌, List, [], ◌∷◌, ◌++◌, length, take, drop, slice_get, min, max, refl, sym, ◌∙◌, ap, arith, length-append, length-take, length-drop}
use Rattle.std.proofs.lemmas.Bool.{cases_lt}
use Rattle.std.proofs.lemmas.List.{take_at}
use Rattle.std.proofs.lemmas.Option.{same_Some}
use Rattle.outside.specs.Crash.{Torn, PartlyCut}
use Rattle.outside.specs.Unsynced.{Unsynced, Write, Cut, Leaves, IsUnwritten, AreMet, size_now, least_size, greatest_size, KeepsModel}
use Rattle.outside.proofs.Bytewise.{get_take, get_drop}

-- lists with the same bytes are the same
same_bytes : (xs ys : List ℕ) → length xs ≡ length ys → ((i : ℕ) → i < length xs → slice_get xs i ≡ slice_get ys i) → xs ≡ ys
same_bytes [] [] len same = refl
same_bytes [] (y ∷ ys) len same = absurd (omega (arith, len))
same_bytes (x ∷ xs) [] len same = absurd (omega (arith, len))
same_bytes (x ∷ xs) (y ∷ ys) len same =
    let first : x ≡ y = same_Some x y (same 0 (omega arith)) in
    let rest : xs ≡ ys = same_bytes xs ys (omega (arith, len)) (λ i lt. same (suc i) (omega (arith, lt))) in
    λ j. first j ∷ rest j

-- the bytes in a range as they were synced, where they were, and the others as they are
abbrev restore : ℕ → ℕ → List ℕ → List ℕ → List ℕ
restore at n synced [] = []
restore at n [] (x ∷ xs) = x ∷ xs
restore (suc at) n (s ∷ synced) (x ∷ xs) = x ∷ restore at n synced xs
restore zero (suc n) (s ∷ synced) (x ∷ xs) = s ∷ restore zero n synced xs
restore zero zero (s ∷ synced) (x ∷ xs) = x ∷ xs

length-restore : (at n : ℕ) (synced xs : List ℕ) → length (restore at n synced xs) ≡ length xs
length-restore at n synced [] = refl
length-restore at n [] (x ∷ xs) = refl
length-restore (suc at) n (s ∷ synced) (x ∷ xs) = omega (arith, length-restore at n synced xs)
length-restore zero (suc n) (s ∷ synced) (x ∷ xs) = omega (arith, length-restore zero n synced xs)
length-restore zero zero (s ∷ synced) (x ∷ xs) = refl

restore_outside : (at n : ℕ) (synced xs : List ℕ) (i : ℕ) → (i < at) ⊎ (at + n ≤ i) → slice_get (restore at n synced xs) i ≡ slice_get xs i
restore_outside at n synced [] i out = refl
restore_outside at n [] (x ∷ xs) i out = refl
restore_outside (suc at) n (s ∷ synced) (x ∷ xs) zero out = refl
restore_outside (suc at) n (s ∷ synced) (x ∷ xs) (suc i) (inl lt) = restore_outside at n synced xs i (inl (omega (arith, lt)))
restore_outside (suc at) n (s ∷ synced) (x ∷ xs) (suc i) (inr le) = restore_outside at n synced xs i (inr (omega (arith, le)))
restore_outside zero (suc n) (s ∷ synced) (x ∷ xs) i (inl lt) = absurd (omega (arith, lt))
restore_outside zero (suc n) (s ∷ synced) (x ∷ xs) zero (inr le) = absurd (omega (arith, le))
restore_outside zero (suc n) (s ∷ synced) (x ∷ xs) (suc i) (inr le) = restore_outside zero n synced xs i (inr (omega (arith, le)))
restore_outside zero zero (s ∷ synced) (x ∷ xs) i out = refl

restore_within : (at n : ℕ) (synced xs : List ℕ) (i : ℕ) → at ≤ i → i < at + n → i < length xs → i < length synced → slice_get (restore at n synced xs) i ≡ slice_get synced i
restore_within at n synced [] i le lt in_xs in_synced = absurd (omega (arith, in_xs))
restore_within at n [] (x ∷ xs) i le lt in_xs in_synced = absurd (omega (arith, in_synced))
restore_within (suc at) n (s ∷ synced) (x ∷ xs) zero le lt in_xs in_synced = absurd (omega (arith, le))
restore_within (suc at) n (s ∷ synced) (x ∷ xs) (suc i) le lt in_xs in_synced = restore_within at n synced xs i (omega (arith, le)) (omega (arith, lt)) (omega (arith, in_xs)) (omega (arith, in_synced))
restore_within zero (suc n) (s ∷ synced) (x ∷ xs) zero le lt in_xs in_synced = refl
restore_within zero (suc n) (s ∷ synced) (x ∷ xs) (suc i) le lt in_xs in_synced = restore_within zero n synced xs i (omega arith) (omega (arith, lt)) (omega (arith, in_xs)) (omega (arith, in_synced))
restore_within zero zero (s ∷ synced) (x ∷ xs) i le lt in_xs in_synced = absurd (omega (arith, lt))

least_now : (size : ℕ) (calls : List Unsynced) → least_size size calls ≤ size_now size calls
least_now size [] = omega arith
least_now size (call ∷ calls) = omega arith

greatest_now : (size : ℕ) (calls : List Unsynced) → size_now size calls ≤ greatest_size size calls
greatest_now size [] = omega arith
greatest_now size (call ∷ calls) = omega arith

least_first : (size : ℕ) (calls : List Unsynced) → least_size size calls ≤ size
least_first size [] = omega arith
least_first size (call ∷ calls) = omega (arith, least_first size calls)

-- a byte past the synced size that no write has in its range is past every size since then
unwritten_past : (size : ℕ) (calls : List Unsynced) (i : ℕ) → AreMet size calls → IsUnwritten i calls → size ≤ i → (size_now size calls ≤ i) × (greatest_size size calls ≤ i)
unwritten_past size [] i met unwritten past = (past, past)
unwritten_past size (Write at n ∷ calls) i (start, met) (inl before, unwritten) past =
    let so_far = unwritten_past size calls i met unwritten past in
    absurd (omega (arith, start, before, so_far.0))
unwritten_past size (Write at n ∷ calls) i (start, met) (inr behind, unwritten) past =
    let so_far = unwritten_past size calls i met unwritten past in
    (omega (arith, behind, so_far.0), omega (arith, behind, so_far.0, so_far.1))
unwritten_past size (Cut n ∷ calls) i (less, met) unwritten past =
    let so_far = unwritten_past size calls i met unwritten past in
    (omega (arith, less, so_far.0), omega (arith, less, so_far.0, so_far.1))

get_front : (xs ys : List ℕ) (i : ℕ) → i < length xs → slice_get (xs ++ ys) i ≡ slice_get xs i
get_front [] ys i lt = absurd (omega (arith, lt))
get_front (x ∷ xs) ys zero lt = refl
get_front (x ∷ xs) ys (suc i) lt = get_front xs ys i (omega (arith, lt))

get_back : (xs ys : List ℕ) (i j : ℕ) → length xs + i ≡ j → slice_get (xs ++ ys) j ≡ slice_get ys i
get_back [] ys i j is = ap (slice_get ys) (omega (arith, is))
get_back (x ∷ xs) ys i zero is = absurd (omega (arith, is))
get_back (x ∷ xs) ys i (suc j) is = get_back xs ys i j (omega (arith, is))

-- what there was before a write of which c is left: no longer than the greatest size before, and with the synced bytes
abbrev before_write : ℕ → ℕ → List ℕ → ℕ → List ℕ → List ℕ
before_write at n synced most c = restore at n synced (take (min (length c) most) c)

length-before_write : (at n : ℕ) (synced : List ℕ) (most : ℕ) (c : List ℕ) → length (before_write at n synced most c) ≡ min (length c) most
length-before_write at n synced most c = omega (arith, length-restore at n synced (take (min (length c) most) c), length-take (min (length c) most) c)

before_outside : (at n : ℕ) (synced : List ℕ) (most : ℕ) (c : List ℕ) (i : ℕ) → i < min (length c) most → (i < at) ⊎ (at + n ≤ i) → slice_get (before_write at n synced most c) i ≡ slice_get c i
before_outside at n synced most c i lt out = restore_outside at n synced (take (min (length c) most) c) i out ∙ get_take (min (length c) most) c i lt

before_torn : (at n : ℕ) (synced : List ℕ) (most : ℕ) (c : List ℕ) → at ≤ most → length c ≤ max most (at + n) → Torn at n (before_write at n synced most c) c
before_torn at n synced most c start len =
    let d = before_write at n synced most c in
    let size : length d ≡ min (length c) most = length-before_write at n synced most c in
    record {
      before = same_bytes (take at c) (take at d) (omega (arith, length-take at c, length-take at d, size, start))
          (λ i lt.
          let at_most : i < at = omega (arith, lt, length-take at c) in
          let inside : i < min (length c) most = omega (arith, lt, length-take at c, start) in
          get_take at c i at_most ∙ sym (before_outside at n synced most c i inside (inl at_most)) ∙ sym (get_take at d i at_most));
      after = same_bytes (drop (at + n) c) (drop (at + n) d) (omega (arith, length-drop (at + n) c, length-drop (at + n) d, size, len))
          (λ i lt.
          let inside : (at + n) + i < min (length c) most = omega (arith, lt, length-drop (at + n) c, len) in
          get_drop (at + n) c i ((at + n) + i) refl ∙ sym (before_outside at n synced most c ((at + n) + i) inside (inr (omega arith))) ∙ sym (get_drop (at + n) d i ((at + n) + i) refl));
      no_shorter = omega (arith, size);
      no_longer = omega (arith, size, len);
    }

before_keeps : (synced : List ℕ) (calls : List Unsynced) (at n : ℕ) (c : List ℕ) → AreMet (length synced) (Write at n ∷ calls) → KeepsModel synced (Write at n ∷ calls) c
    → KeepsModel synced calls (before_write at n synced (greatest_size (length synced) calls) c)
before_keeps synced calls at n c met k =
    let most = greatest_size (length synced) calls in
    let size : length (before_write at n synced most c) ≡ min (length c) most = length-before_write at n synced most c in
    let low = least_now (length synced) calls in
    let high = greatest_now (length synced) calls in
    record {
      others_stay = λ i lt unwritten.
          let inside : i < min (length c) most = omega (arith, lt, size) in
          elim (cases_lt i at) [
            | inl before ↦ before_outside at n synced most c i inside (inl before) ∙ k.others_stay i (omega (arith, inside)) (inl before, unwritten)
            | inr behind ↦ elim (cases_lt i (at + n)) [
              | inr past ↦ before_outside at n synced most c i inside (inr past) ∙ k.others_stay i (omega (arith, inside)) (inr past, unwritten)
              | inl within ↦ elim (cases_lt i (length synced)) [
                | inl there ↦ restore_within at n synced (take (min (length c) most) c) i behind within (omega (arith, inside, length-take (min (length c) most) c)) there
                | inr none ↦ absurd (omega (arith, inside, (unwritten_past (length synced) calls i met.1 unwritten none).1))
              ]
            ]
          ];
      no_shorter = omega (arith, k.no_shorter, size, low, high);
      no_longer = omega (arith, size);
    }

-- what there was before a cut of which c is left: no shorter than the least size before, and with the synced bytes
abbrev before_cut : List ℕ → ℕ → List ℕ → List ℕ
before_cut synced least c = c ++ drop (length c) (take least synced)

length-before_cut : (synced : List ℕ) (least : ℕ) (c : List ℕ) → least ≤ length synced → length (before_cut synced least c) ≡ max (length c) least
length-before_cut synced least c le = omega (arith, length-append c (drop (length c) (take least synced)), length-drop (length c) (take least synced), length-take least synced, le)

cut_keeps : (synced : List ℕ) (calls : List Unsynced) (n : ℕ) (c : List ℕ) → AreMet (length synced) (Cut n ∷ calls) → KeepsModel synced (Cut n ∷ calls) c
    → KeepsModel synced calls (before_cut synced (least_size (length synced) calls) c)
cut_keeps synced calls n c met k =
    let least = least_size (length synced) calls in
    let size : length (before_cut synced least c) ≡ max (length c) least = length-before_cut synced least c (least_first (length synced) calls) in
    let low = least_now (length synced) calls in
    let high = greatest_now (length synced) calls in
    record {
      others_stay = λ i lt unwritten. elim (cases_lt i (length c)) [
        | inl there ↦ get_front c (drop (length c) (take least synced)) i there ∙ k.others_stay i there unwritten
        | inr past ↦
            let j = i - length c in
            let is : length c + j ≡ i = omega (arith, past) in
            get_back c (drop (length c) (take least synced)) j i is ∙ get_drop (length c) (take least synced) j i is ∙ get_take least synced i (omega (arith, lt, size, past))
      ];
      no_shorter = omega (arith, size);
      no_longer = omega (arith, size, k.no_longer, met.0, low, high);
    }

cut_left : (synced : List ℕ) (least n : ℕ) (c : List ℕ) → least ≤ length synced → min least n ≤ length c → PartlyCut n (before_cut synced least c) c
cut_left synced least n c le len =
    let size = length-before_cut synced least c le in
    record {
      no_longer = omega (arith, size);
      no_shorter = omega (arith, size, len);
      front = take_at c (drop (length c) (take least synced)) (length c) refl;
    }

pub all_left : (synced : List ℕ) (calls : List Unsynced) (c : List ℕ) → AreMet (length synced) calls → KeepsModel synced calls c → Leaves synced calls c
all_left synced [] c met k = same_bytes c synced (omega (arith, k.no_shorter, k.no_longer)) (λ i lt. k.others_stay i lt tt)
all_left synced (Write at n ∷ calls) c met k =
    let most = greatest_size (length synced) calls in
    let high = greatest_now (length synced) calls in (
      before_write at n synced most c,
      all_left synced calls (before_write at n synced most c) met.1 (before_keeps synced calls at n c met k),
      before_torn at n synced most c (omega (arith, met.0, high)) (omega (arith, k.no_longer, high)),
    )
all_left synced (Cut n ∷ calls) c met k =
    let least = least_size (length synced) calls in (
      before_cut synced least c,
      all_left synced calls (before_cut synced least c) met.1 (cut_keeps synced calls n c met k),
      cut_left synced least n c (least_first (length synced) calls) (omega (arith, k.no_shorter)),
    )
