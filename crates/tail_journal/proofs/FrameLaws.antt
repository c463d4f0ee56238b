-- Frames in bytes that are cut, and in bytes that others follow.
use Rattle.std.proofs.Common.{◌≡◌, ℕ, zero, suc, ◌+◌, ◌<◌, ◌≤◌, ◌^◌, List, [], ◌∷◌, ◌++◌, length, take, drop, Bool, true, false, ◌&&◌, ◌⊎◌, nat_le, nat_lt, eqb, cond, min, inl, inr, refl, sym, ◌∙◌, ap, subst, arith, length-append, length-drop, length-take}
use Rattle.std.proofs.lemmas.Bool.{cases_Bool}
use Rattle.std.proofs.lemmas.Bool.Decides.{nat_tests}
use Rattle.std.proofs.lemmas.List.{take_at, drop_at}
use Rattle.std.proofs.lemmas.Nat.{from_be_bytes-to_be_bytes_8, from_be_bytes-to_be_bytes_4}
use Rattle.std.proofs.Math.Seq.{drop-nil}
use Rattle.std.specs.Int.{w32, w64, from_be_bytes, to_be_bytes}
use Rattle.tail_journal.specs.Frames.{Frame, frame_size, total_size, body_size, is_whole, frame_of, frames_after, frames}
use Rattle.tail_journal.specs.Spelling.{open_group}

pub skip : (n : ℕ) (bytes : List ℕ) → frames_after n bytes ≡ frames_after 0 (drop n bytes)
unfolding frames_after
skip zero bytes = refl
skip (suc n) [] = refl
skip (suc n) (b ∷ bytes) = skip n bytes

pub and_left : (b c : Bool) → b && c ≡ true → b ≡ true
and_left true c e = refl
and_left false c e = e

pub and_right : (b c : Bool) → b && c ≡ true → c ≡ true
and_right true c e = e
and_right false c e = absurd (cc)

pub le_of : (m n : ℕ) → nat_le m n ≡ true → m ≤ n
le_of m n e = grind (arith, nat_tests)

pub le_is : (m n : ℕ) → m ≤ n → nat_le m n ≡ true
le_is m n le = grind (arith, nat_tests)

less_of : (m n : ℕ) → nat_lt m n ≡ true → m < n
less_of m n e = grind (arith, nat_tests)

not_less_of : (m n : ℕ) → nat_lt m n ≡ false → n ≤ m
not_less_of m n e = grind (arith, nat_tests)

take_cut : (j k : ℕ) (xs : List ℕ) → j ≤ length (take k xs) → take j (take k xs) ≡ take j xs
take_cut zero k xs le = refl
take_cut (suc j) zero xs le = absurd (omega arith)
take_cut (suc j) (suc k) [] le = refl
take_cut (suc j) (suc k) (x ∷ xs) le = ap (λ (l : List ℕ). x ∷ l) (take_cut j k xs (omega arith))

-- j bytes after the first i, of a cut list that has them
part_cut : (i j k : ℕ) (xs : List ℕ) → i ≤ length (take k xs) → j ≤ length (drop i (take k xs)) → take j (drop i (take k xs)) ≡ take j (drop i xs)
part_cut zero j k xs a b = take_cut j k xs b
part_cut (suc i) j zero xs a b = absurd (omega arith)
part_cut (suc i) j (suc k) [] a b = absurd (omega arith)
part_cut (suc i) j (suc k) (x ∷ xs) a b = part_cut i j k xs (omega arith) b

length_cut : (i k : ℕ) (xs : List ℕ) → length (drop i (take k xs)) ≤ length (drop i xs)
length_cut i k xs = omega (arith, length-drop i (take k xs), length-drop i xs, length-take k xs)

pub long_enough : (rest : List ℕ) → is_whole rest ≡ true → 12 ≤ length rest
long_enough rest whole = le_of 12 (length rest) (and_left (nat_le 12 (length rest)) (nat_le (body_size rest) (length (drop 12 rest))) whole)

pub body_fits : (rest : List ℕ) → is_whole rest ≡ true → body_size rest ≤ length (drop 12 rest)
body_fits rest whole = le_of (body_size rest) (length (drop 12 rest)) (and_right (nat_le 12 (length rest)) (nat_le (body_size rest) (length (drop 12 rest))) whole)

-- a whole frame in a cut list is the one of the list
pub record IsSame (rest more : List ℕ) : Type 0 where
  pub whole : is_whole more ≡ true
  pub frame : frame_of rest ≡ frame_of more
  pub size : body_size rest ≡ body_size more

pub whole_of : (k : ℕ) (rest : List ℕ) → is_whole (take k rest) ≡ true → IsSame (take k rest) rest
whole_of k rest whole =
    let cut = take k rest in
    let long = long_enough cut whole in
    let fits = body_fits cut whole in
    let size : body_size cut ≡ body_size rest = ap (from_be_bytes w32) (part_cut 8 4 k rest (omega arith) (omega (arith, length-drop 8 cut))) in
    let base : take 8 cut ≡ take 8 rest = take_cut 8 k rest (omega arith) in
    let body : take (body_size cut) (drop 12 cut) ≡ take (body_size rest) (drop 12 rest) = part_cut 12 (body_size cut) k rest long fits ∙ ap (λ (j : ℕ). take j (drop 12 rest)) size in
    let a : nat_le 12 (length rest) ≡ true = le_is 12 (length rest) (omega (arith, length-take k rest)) in
    let b : nat_le (body_size rest) (length (drop 12 rest)) ≡ true = le_is (body_size rest) (length (drop 12 rest)) (omega (arith, length_cut 12 k rest, size)) in
    record { whole = λ i. a i && b i; frame = λ i. record { base = from_be_bytes w64 (base i); body = body i }; size = size }

-- a whole frame is whole in a cut list, or the cut is within it
pub whole_cut : (k : ℕ) (rest : List ℕ) → is_whole rest ≡ true → (k < 12 + body_size rest) ⊎ (is_whole (take k rest) ≡ true)
whole_cut k rest whole = elim (cases_Bool (nat_lt k (12 + body_size rest))) [
  | inl less ↦ inl (less_of k (12 + body_size rest) less)
  | inr not_less ↦
      let cut = take k rest in
      let enough = not_less_of k (12 + body_size rest) not_less in
      let len : length cut ≡ min k (length rest) = length-take k rest in
      let long = long_enough rest whole in
      let fits = body_fits rest whole in
      let after = length-drop 12 rest in
      let size : body_size cut ≡ body_size rest = ap (from_be_bytes w32) (part_cut 8 4 k rest (omega (arith, len, long, enough)) (omega (arith, length-drop 8 cut, len, long, enough))) in
      let a : nat_le 12 (length cut) ≡ true = le_is 12 (length cut) (omega (arith, len, long, enough)) in
      let b : nat_le (body_size cut) (length (drop 12 cut)) ≡ true = le_is (body_size cut) (length (drop 12 cut)) (omega (arith, length-drop 12 cut, len, size, fits, after, enough, long)) in
      inr (λ i. a i && b i)
]

-- and so where bytes follow
pub whole_then : (rest more : List ℕ) → is_whole rest ≡ true → IsSame rest (rest ++ more)
whole_then rest more whole =
    let cut : take (length rest) (rest ++ more) ≡ rest = take_at rest more (length rest) refl in
    subst (λ (l : List ℕ). IsSame l (rest ++ more)) cut (whole_of (length rest) (rest ++ more) (subst (λ (l : List ℕ). is_whole l ≡ true) (sym cut) whole))

pub frame_length : (rest : List ℕ) → is_whole rest ≡ true → length (frame_of rest).body ≡ body_size rest
frame_length rest whole = omega (arith, length-take (body_size rest) (drop 12 rest), body_fits rest whole)

after_fits : (rest : List ℕ) → is_whole rest ≡ true → 12 + body_size rest ≤ length rest
after_fits rest whole = omega (arith, long_enough rest whole, body_fits rest whole, length-drop 12 rest)

-- the frames are within the bytes
pub total_fits : (n : ℕ) (bytes : List ℕ) → n ≤ length bytes → n + total_size (frames_after n bytes) ≤ length bytes
unfolding frames_after
total_fits zero [] le = omega arith
total_fits (suc n) [] le = absurd (omega arith)
total_fits (suc n) (b ∷ bytes) le = omega (arith, total_fits n bytes (omega arith))
total_fits zero (gate ∷ rest) le = elim (cases_Bool (eqb gate 1 && is_whole rest)) [
  | inl both ↦
      let whole = and_right (eqb gate 1) (is_whole rest) both in
      let more = total_fits (12 + body_size rest) rest (after_fits rest whole) in
      subst (λ (b : Bool). zero + total_size (cond b (frame_of rest ∷ frames_after (12 + body_size rest) rest) []) ≤ suc (length rest)) (sym both) (omega (arith, more, frame_length rest whole))
  | inr neither ↦ subst (λ (b : Bool). zero + total_size (cond b (frame_of rest ∷ frames_after (12 + body_size rest) rest) []) ≤ suc (length rest)) (sym neither) (omega arith)
]

-- where the frames are all of the bytes, what follows is read on from there
pub frames_then : (n : ℕ) (bytes more : List ℕ) → n ≤ length bytes → n + total_size (frames_after n bytes) ≡ length bytes → frames_after n (bytes ++ more) ≡ frames_after n bytes ++ frames more
unfolding frames_after
frames_then zero [] more le all = refl
frames_then (suc n) [] more le all = absurd (omega arith)
frames_then (suc n) (b ∷ bytes) more le all = frames_then n bytes more (omega arith) (omega (arith, all))
frames_then zero (gate ∷ rest) more le all = elim (cases_Bool (eqb gate 1 && is_whole rest)) [
  | inl both ↦
      let gate_open : eqb gate 1 ≡ true = and_left (eqb gate 1) (is_whole rest) both in
      let whole = and_right (eqb gate 1) (is_whole rest) both in
      let same = whole_then rest more whole in
      let tail = frames_after (12 + body_size rest) rest in
      let here : cond (eqb gate 1 && is_whole rest) (frame_of rest ∷ tail) [] ≡ frame_of rest ∷ tail = ap (λ (b : Bool). cond b (frame_of rest ∷ tail) []) both in
      let longer = frames_after (12 + body_size (rest ++ more)) (rest ++ more) in
      let there : cond (eqb gate 1 && is_whole (rest ++ more)) (frame_of (rest ++ more) ∷ longer) [] ≡ frame_of (rest ++ more) ∷ longer = ap (λ (b : Bool). cond b (frame_of (rest ++ more) ∷ longer) []) (λ i. gate_open i && same.whole i) in
      let both_sizes : total_size (cond (eqb gate 1 && is_whole rest) (frame_of rest ∷ tail) []) ≡ suc (length rest) = omega (arith, all) in
      let sum : frame_size (frame_of rest) + total_size tail ≡ suc (length rest) = sym (ap total_size here) ∙ both_sizes in
      let next = frames_then (12 + body_size rest) rest more (after_fits rest whole) (omega (arith, sum, frame_length rest whole)) in
      there ∙ (λ i. sym same.frame i ∷ frames_after (12 + sym same.size i) (rest ++ more)) ∙ ap (λ (fs : List Frame). frame_of rest ∷ fs) next ∙ ap (λ (fs : List Frame). fs ++ frames more) (sym here)
  | inr neither ↦
      let none : cond (eqb gate 1 && is_whole rest) (frame_of rest ∷ frames_after (12 + body_size rest) rest) [] ≡ [] = ap (λ (b : Bool). cond b (frame_of rest ∷ frames_after (12 + body_size rest) rest) []) neither in
      let size : total_size (cond (eqb gate 1 && is_whole rest) (frame_of rest ∷ frames_after (12 + body_size rest) rest) []) ≡ suc (length rest) = omega (arith, all) in
      absurd (let e : zero ≡ suc (length rest) = sym (ap total_size none) ∙ size in omega (arith, e))
]

pub drop_twice : (m n : ℕ) (xs : List ℕ) → drop n (drop m xs) ≡ drop (m + n) xs
drop_twice zero n xs = let e : n ≡ zero + n = omega arith in ap (λ (k : ℕ). drop k xs) e
drop_twice (suc m) n [] = drop-nil n ∙ sym (drop-nil (suc m + n))
drop_twice (suc m) n (x ∷ xs) = let e : suc (m + n) ≡ suc m + n = omega arith in drop_twice m n xs ∙ ap (λ (k : ℕ). drop k (x ∷ xs)) e

-- a group with an open gate is one frame
pub one_frame : (base : ℕ) (body more : List ℕ) → base < 2 ^ 64 → length body < 2 ^ 32 → frames (open_group base body ++ more) ≡ record { base = base; body = body } ∷ frames more
unfolding frames_after
one_frame base body more fits small =
    let rest = to_be_bytes w64 base ++ to_be_bytes w32 (length body) ++ body ++ more in
    let n = from_be_bytes-to_be_bytes_8 base fits in
    let size : body_size rest ≡ length body = from_be_bytes-to_be_bytes_4 (length body) small in
    let long : nat_le 12 (length rest) ≡ true = le_is 12 (length rest) (omega arith) in
    let enough : nat_le (body_size rest) (length (body ++ more)) ≡ true = le_is (body_size rest) (length (body ++ more)) (omega (arith, size, length-append body more)) in
    let held : take (body_size rest) (body ++ more) ≡ body = ap (λ (j : ℕ). take j (body ++ more)) size ∙ take_at body more (length body) refl in
    let next : frames_after (12 + body_size rest) rest ≡ frames more =
    skip (12 + body_size rest) rest ∙ ap (frames_after 0) (sym (drop_twice 12 (body_size rest) rest) ∙ ap (λ (j : ℕ). drop j (body ++ more)) size ∙ drop_at body more (length body) refl) in
    (λ i. cond (long i && enough i) (record { base = n i; body = held i } ∷ next i) (frames_after 0 []))
