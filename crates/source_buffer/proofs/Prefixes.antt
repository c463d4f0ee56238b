-- The prefix of what comes in chunks.
use Rattle.std.proofs.Common.{◌≡◌, ℕ, zero, suc, ◌+◌, ◌-◌, ◌≤◌, List, [], ◌∷◌, ◌++◌, length, take, subst, refl, sym, ap, ◌∙◌, append_assoc, arith, min}
use Rattle.std.proofs.lemmas.List.{append-nil, take_all, take_min, length-take}
use Rattle.std.proofs.Math.Seq.{take-append-add}
use Rattle.source_buffer.specs.Kept.{Kept, Keeps}

-- what comes after a prefix that was kept
pub take_taken : (m : ℕ) (a y : List ℕ) → take m (take m a ++ y) ≡ take m (a ++ y)
take_taken zero a y = refl
take_taken (suc m) [] y = refl
take_taken (suc m) (x ∷ a) y = ap (λ l. x ∷ l) (take_taken m a y)

-- what is taken is what there is room for
pub take_room : (m : ℕ) (a y : List ℕ) → length a ≤ m → take m (a ++ y) ≡ a ++ take (min (m - length a) (length y)) y
take_room m a y h =
    let e : m ≡ length a + (m - length a) = omega arith in
    ap (λ k. take k (a ++ y)) e ∙ take-append-add a y (m - length a) ∙ ap (λ l. a ++ l) (sym (take_min (m - length a) y))

pub Keeps_more : (a b c : Kept) (x y : List ℕ) → Keeps a b x → Keeps b c y → Keeps a c (x ++ y)
Keeps_more a b c x y h k = record {
  limit = k.limit ∙ h.limit;
  bytes = k.bytes ∙ sym (take_taken b.limit b.bytes y) ∙ ap (λ l. take b.limit (l ++ y)) h.bytes
      ∙ ap (λ m. take m (take a.limit (a.bytes ++ x) ++ y)) h.limit
      ∙ take_taken a.limit (a.bytes ++ x) y ∙ ap (take a.limit) (append_assoc a.bytes x y);
}

pub Keeps_none : (a : Kept) → Keeps a a []
Keeps_none a = record { limit = refl; bytes = ap (take a.limit) (sym (append-nil a.bytes)) }

-- three chunks
pub Keeps_three : (a b c d : Kept) (x y z : List ℕ) → Keeps a b x → Keeps b c y → Keeps c d z → Keeps a d (x ++ (y ++ z))
Keeps_three a b c d x y z h k l = Keeps_more a b d x (y ++ z) h (Keeps_more b c d y z k l)

pub Keeps_room : (a b : Kept) (n : ℕ) (x : List ℕ) → length a.bytes ≤ a.limit → n ≡ min (a.limit - length a.bytes) (length x) → b.limit ≡ a.limit → b.bytes ≡ a.bytes ++ take n x → Keeps a b x
Keeps_room a b n x h is m e =
    let all : a.bytes ++ take n x ≡ take a.limit (a.bytes ++ x) = ap (λ k. a.bytes ++ take k x) is ∙ sym (take_room a.limit a.bytes x h) in
    let within : length (take a.limit (a.bytes ++ x)) ≤ a.limit = omega (arith, length-take a.limit (a.bytes ++ x)) in
    record { limit = m; bytes = ap (λ k. take k b.bytes) m ∙ ap (take a.limit) (e ∙ all) ∙ take_all a.limit (take a.limit (a.bytes ++ x)) within }

pub Keeps_as : (a b : Kept) (x y : List ℕ) → x ≡ y → Keeps a b x → Keeps a b y
Keeps_as a b x y e h = subst (Keeps a b) e h
