-- A group at the end of T, in three writes.
use Rattle.std.proofs.Common.{◌≡◌, ◌≢◌, inl, inr, ℕ, suc, ◌+◌, ◌≤◌, Option, List, [], ◌∷◌, ◌++◌, length, take, drop, get_or, Bool, true, false, ◌&&◌, eqb, cond, refl, sym, ◌∙◌, ap, subst, arith, append_assoc, length-append, length-drop, take-append-drop}
use Rattle.std.proofs.lemmas.List.{take_at, drop_at, drop_more, append-nil, take_all, drop_all}
use Rattle.std.proofs.lemmas.Bool.{cases_eq}
use Rattle.std.proofs.lemmas.Bool.Decides.{nat_tests}
use Rattle.outside.specs.declared.shelf.Place.TheVariants.{T}
use Rattle.outside.specs.Places.{Places, Changes, OthersStay}
use Rattle.outside.specs.Crash.{Holds, Torn, OnlyAt}
use Rattle.outside.specs.Moments.{Reached, KnownThen}
use Rattle.outside.proofs.Known.{known_on}
use Rattle.tail_journal.specs.Frames.{body_size, frame_of, frames_after, frames}
use Rattle.tail_journal.specs.Tails.{MayGrow}

-- ---- bytes that hold no frame

pub none_in_nothing : frames [] ≡ []
unfolding frames_after
none_in_nothing = refl

pub none_after_a_closed_gate : (gate : ℕ) (rest : List ℕ) → gate ≢ 1 → frames (gate ∷ rest) ≡ []
unfolding frames_after
none_after_a_closed_gate gate rest ne = grind (arith, nat_tests)

cond_false : {X : Type 0} (b : Bool) (x y : X) → cond (b && false) x y ≡ y
cond_false true x y = refl
cond_false false x y = refl

none_in_one_byte : (bytes : List ℕ) → length bytes ≤ 1 → frames bytes ≡ []
unfolding frames_after
none_in_one_byte [] le = refl
none_in_one_byte (g ∷ []) le = cond_false (eqb g 1) (frame_of [] ∷ frames_after (12 + body_size []) []) []
none_in_one_byte (g ∷ h ∷ bytes) le = absurd (omega arith)

-- ---- each write, torn and whole

pub not_grown : (group bytes : List ℕ) → MayGrow group bytes bytes
not_grown group bytes = record { more = []; is = sym (append-nil bytes); part = inl none_in_nothing }

split_at : (at n : ℕ) (old new : List ℕ) → length old ≡ at → Torn at n old new → new ≡ old ++ drop at new
split_at at n old new size torn = sym (take-append-drop at new) ∙ ap (λ (l : List ℕ). l ++ drop at new) (torn.before ∙ take_all at old (omega (arith, size)))

-- the closed gate at the end
pub torn_first : (group t c : List ℕ) → Torn (length t) 1 t c → MayGrow group t c
torn_first group t c torn = record {
  more = drop (length t) c;
  is = split_at (length t) 1 t c refl torn;
  part = inl (none_in_one_byte (drop (length t) c) (omega (arith, length-drop (length t) c, torn.no_longer)));
}

pub written_first : (t c : List ℕ) → Holds (length t) (0 ∷ []) t c → c ≡ t ++ 0 ∷ []
written_first t c holds =
    holds ∙ ap (λ (l : List ℕ). l ++ (0 ∷ []) ++ drop (length t + 1) t) (take_all (length t) t (omega arith))
    ∙ ap (λ (l : List ℕ). t ++ (0 ∷ []) ++ l) (drop_all (length t + 1) t (omega arith)) ∙ append-nil (t ++ 0 ∷ [])

-- the rest of the group after it
pub torn_rest : (group t c : List ℕ) (n : ℕ) → Torn (length t + 1) n (t ++ 0 ∷ []) c → MayGrow group t c
torn_rest group t c n torn =
    let at = length t + 1 in
    record {
      more = 0 ∷ drop at c;
      is = split_at at n (t ++ 0 ∷ []) c (length-append t (0 ∷ [])) torn ∙ append_assoc t (0 ∷ []) (drop at c);
      part = inl (none_after_a_closed_gate 0 (drop at c) (λ e. absurd (omega (arith, e))));
    }

pub written_rest : (t c rest : List ℕ) → Holds (length t + 1) rest (t ++ 0 ∷ []) c → c ≡ t ++ 0 ∷ rest
written_rest t c rest holds =
    let at = length t + 1 in
    let size : length (t ++ 0 ∷ []) ≡ at = length-append t (0 ∷ []) in
    holds ∙ ap (λ (l : List ℕ). l ++ rest ++ drop (at + length rest) (t ++ 0 ∷ [])) (take_all at (t ++ 0 ∷ []) (omega (arith, size)))
    ∙ ap (λ (l : List ℕ). t ++ (0 ∷ []) ++ rest ++ l) (drop_all (at + length rest) (t ++ 0 ∷ []) (omega (arith, size)))
    ∙ append-nil (t ++ (0 ∷ []) ++ rest) ∙ append_assoc t (0 ∷ []) rest

after_gate : (t rest : List ℕ) → drop (length t + 1) (t ++ 0 ∷ rest) ≡ rest
after_gate t rest = ap (drop (length t + 1)) (sym (append_assoc t (0 ∷ []) rest)) ∙ drop_at (t ++ 0 ∷ []) rest (length t + 1) (length-append t (0 ∷ []))

-- the gate, opened
pub torn_gate : (t c rest : List ℕ) → Torn (length t) 1 (t ++ 0 ∷ rest) c → MayGrow (1 ∷ rest) t c
torn_gate t c rest torn =
    let at = length t in
    let size : length (t ++ 0 ∷ rest) ≡ at + suc (length rest) = length-append t (0 ∷ rest) in
    let gate = get_or c at 0 in
    let front : take at c ≡ t = torn.before ∙ take_at t (0 ∷ rest) at refl in
    let tail : drop at c ≡ gate ∷ rest = drop_more c at 0 (omega (arith, torn.no_shorter, size)) ∙ ap (λ (l : List ℕ). gate ∷ l) (torn.after ∙ after_gate t rest) in
    record {
      more = gate ∷ rest;
      is = sym (take-append-drop at c) ∙ ap (λ (l : List ℕ). l ++ drop at c) front ∙ ap (λ (l : List ℕ). t ++ l) tail;
      part = elim (cases_eq gate 1) [
        | inl is ↦ inr (ap (λ (g : ℕ). g ∷ rest) is)
        | inr ne ↦ inl (none_after_a_closed_gate gate rest ne)
      ];
    }

pub written_gate : (t c rest : List ℕ) → Holds (length t) (1 ∷ []) (t ++ 0 ∷ rest) c → c ≡ t ++ 1 ∷ rest
written_gate t c rest holds =
    let at = length t in
    holds ∙ ap (λ (l : List ℕ). l ++ (1 ∷ []) ++ drop (at + 1) (t ++ 0 ∷ rest)) (take_at t (0 ∷ rest) at refl)
    ∙ ap (λ (l : List ℕ). t ++ (1 ∷ []) ++ l) (after_gate t rest) ∙ append_assoc t (1 ∷ []) rest

-- ---- the writes, one after the other

pub itself : (group : List ℕ) (first : Places → Type 0) (c : Places) → first c → Reached first (Changes T (MayGrow group)) c
itself group first c left = let step : Changes T (MayGrow group) c c = (refl, refl, not_grown group c.t) in (c, left, step)

-- a torn write where all outcomes have the same T
pub stage : (group t : List ℕ) (first mid : Places → Type 0) (x : List ℕ) (at n : ℕ) → OnlyAt T t first → ((c : Places) → mid c → Reached first (Changes T (MayGrow group)) c) → OnlyAt T x mid
    → ((c : List ℕ) → Torn at n x c → MayGrow group t c) → (c : Places) → Reached mid (Changes T (Torn at n)) c → Reached first (Changes T (MayGrow group)) c
stage group t first mid x at n settled back only f c r =
    let b = back r.0 r.1 in
    let step : Changes T (MayGrow group) b.0 c = (r.2.0 ∙ b.2.0, r.2.1 ∙ b.2.1, subst (λ (l : List ℕ). MayGrow group l c.t) (sym (settled b.0 b.1)) (f c.t (subst (λ (l : List ℕ). Torn at n l c.t) (only r.0 r.1) r.2.2))) in
    (b.0, b.1, step)

pub others_on : (o m n : Option Places) → KnownThen o m (OthersStay T) → KnownThen m n (OthersStay T) → KnownThen o n (OthersStay T)
others_on o m n = known_on o m n (OthersStay T) (OthersStay T) (OthersStay T) (λ x y z is p q. (q.0 ∙ p.0, q.1 ∙ p.1))

-- what is known after one, two and three of them
abbrev pub First : ℕ → Places → Places → Type 0
First end x y = (length x.t ≡ end) × (y.t ≡ x.t ++ 0 ∷ []) × (y.a ≡ x.a) × (y.b ≡ x.b)

abbrev pub Second : ℕ → List ℕ → Places → Places → Type 0
Second end rest x y = (length x.t ≡ end) × (y.t ≡ x.t ++ 0 ∷ rest) × (y.a ≡ x.a) × (y.b ≡ x.b)

pub first : (end : ℕ) (x y : Places) → length x.t ≡ end → Changes T (Holds end (0 ∷ [])) x y → First end x y
first end x y size p = (size, written_first x.t y.t (subst (λ (k : ℕ). Holds k (0 ∷ []) x.t y.t) (sym size) p.2), p.0, p.1)

pub second : (end : ℕ) (rest : List ℕ) (x y z : Places) → First end x y → Changes T (Holds (end + 1) rest) y z → Second end rest x z
second end rest x y z p q =
    let from = subst (λ (l : List ℕ). Holds (end + 1) rest l z.t) p.1 q.2 in
    (p.0, written_rest x.t z.t rest (subst (λ (k : ℕ). Holds k rest (x.t ++ 0 ∷ []) z.t) (ap (λ (k : ℕ). k + 1) (sym p.0)) from), q.0 ∙ p.2, q.1 ∙ p.3)

pub third : (end : ℕ) (rest : List ℕ) (x y z : Places) → Second end rest x y → Changes T (Holds end (1 ∷ [])) y z → Changes T (λ old new. new ≡ old ++ 1 ∷ rest) x z
third end rest x y z p q =
    let from = subst (λ (l : List ℕ). Holds end (1 ∷ []) l z.t) p.1 q.2 in
    (q.0 ∙ p.2, q.1 ∙ p.3, written_gate x.t z.t rest (subst (λ (k : ℕ). Holds k (1 ∷ []) (x.t ++ 0 ∷ rest) z.t) (sym p.0) from))
