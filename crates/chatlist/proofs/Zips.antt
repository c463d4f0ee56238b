-- Two lists of one length, as a list of pairs.
use Rattle.std.proofs.Common.{◌≡◌, ◌<◌, refl, ap, ℕ, zero, suc, List, [], ◌∷◌, length, map, get_or, arith}
use Rattle.std.specs.List.{insert, remove, zip}

module _ {K V : Type 0} where
  pub keys_zip : (ks : List K) (vs : List V) → length ks ≡ length vs → map (λ e. e.0) (zip ks vs) ≡ ks
  keys_zip [] vs same = refl
  keys_zip (k ∷ ks) [] same = absurd (omega arith)
  keys_zip (k ∷ ks) (v ∷ vs) same = ap (λ xs. k ∷ xs) (keys_zip ks vs (omega arith))

  pub length_zip : (ks : List K) (vs : List V) → length ks ≡ length vs → length (zip ks vs) ≡ length ks
  length_zip [] vs same = refl
  length_zip (k ∷ ks) [] same = absurd (omega arith)
  length_zip (k ∷ ks) (v ∷ vs) same = let more = length_zip ks vs (omega arith) in omega arith

  -- what stands at an index
  pub zipped_at : (ks : List K) (vs : List V) (i : ℕ) (k : K) (v : V) → length ks ≡ length vs → i < length ks
      → get_or (zip ks vs) i (k, v) ≡ (get_or ks i k, get_or vs i v)
  zipped_at [] vs i k v same lt = absurd (omega arith)
  zipped_at (x ∷ ks) [] i k v same lt = absurd (omega arith)
  zipped_at (x ∷ ks) (y ∷ vs) zero k v same lt = refl
  zipped_at (x ∷ ks) (y ∷ vs) (suc i) k v same lt = zipped_at ks vs i k v (omega arith) (omega arith)

  -- an edit of both
  pub zip_insert : (ks : List K) (vs : List V) (i : ℕ) (k : K) (v : V) → length ks ≡ length vs
      → zip (insert ks i k) (insert vs i v) ≡ insert (zip ks vs) i (k, v)
  zip_insert ks vs zero k v same = refl
  zip_insert [] [] (suc i) k v same = refl
  zip_insert [] (y ∷ vs) (suc i) k v same = absurd (omega arith)
  zip_insert (x ∷ ks) [] (suc i) k v same = absurd (omega arith)
  zip_insert (x ∷ ks) (y ∷ vs) (suc i) k v same = ap (λ es. (x, y) ∷ es) (zip_insert ks vs i k v (omega arith))

  pub zip_remove : (ks : List K) (vs : List V) (i : ℕ) → length ks ≡ length vs → zip (remove ks i) (remove vs i) ≡ remove (zip ks vs) i
  zip_remove [] [] zero same = refl
  zip_remove [] [] (suc i) same = refl
  zip_remove [] (y ∷ vs) i same = absurd (omega arith)
  zip_remove (x ∷ ks) [] i same = absurd (omega arith)
  zip_remove (x ∷ ks) (y ∷ vs) zero same = refl
  zip_remove (x ∷ ks) (y ∷ vs) (suc i) same = ap (λ es. (x, y) ∷ es) (zip_remove ks vs i (omega arith))
