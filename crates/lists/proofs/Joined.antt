-- What a change of one chunk does to all values.
use Rattle.std.proofs.Common.{◌≡◌, refl, sym, ap, ◌∙◌, ℕ, zero, suc, ◌+◌, ◌<◌, List, [], ◌∷◌, ◌++◌, length, take, drop, get_or, set, append_assoc, append-nil, length-append, arith}
use Rattle.std.specs.List.{insert, remove, slice_get}
use Rattle.std.proofs.lemmas.List.{set-append_left, set-append_right, take-append-drop}
use Rattle.std.proofs.lemmas.List.Edits.{insert-append_left, insert-append_right, remove-append_left, remove-append_right}
use Rattle.lists.specs.Chunks.{IsPlace, joined}

module _ {X : Type 0} where
  -- ---- all values up to a chunk

  pub joined-append : (xss yss : List (List X)) → joined (xss ++ yss) ≡ joined xss ++ joined yss
  joined-append [] yss = refl
  joined-append (xs ∷ xss) yss = ap (λ zs. xs ++ zs) (joined-append xss yss) ∙ sym (append_assoc xs (joined xss) (joined yss))

  -- the chunk at an index, whatever stands for one that is not there
  pub chunk_at : (xss : List (List X)) (c : ℕ) (ys : List X) → c < length xss → ys ≡ get_or xss c ys → ys ≡ get_or xss c []
  chunk_at xss c ys h is = is ∙ same xss c h
    where
      same : (xss : List (List X)) (c : ℕ) → c < length xss → get_or xss c ys ≡ get_or xss c []
      same [] c h = absurd (omega (arith, h))
      same (xs ∷ xss) zero h = refl
      same (xs ∷ xss) (suc c) h = same xss c (omega (arith, h))

  -- ---- a chunk instead of another one

  -- in two
  pub joined-split : (xss : List (List X)) (c half : ℕ) → c < length xss
      → joined (insert (set xss c (take half (get_or xss c []))) (suc c) (drop half (get_or xss c []))) ≡ joined xss
  joined-split [] c half h = absurd (omega (arith, h))
  joined-split (xs ∷ xss) zero half h =
      sym (append_assoc (take half xs) (drop half xs) (joined xss)) ∙ ap (λ zs. zs ++ joined xss) (take-append-drop half xs)
  joined-split (xs ∷ xss) (suc c) half h = ap (λ zs. xs ++ zs) (joined-split xss c half (omega (arith, h)))

  -- without one that has no values
  pub joined-without : (xss : List (List X)) (c : ℕ) → c < length xss → get_or xss c [] ≡ [] → joined (remove xss c) ≡ joined xss
  joined-without [] c h none = absurd (omega (arith, h))
  joined-without (xs ∷ xss) zero h none = ap (λ zs. zs ++ joined xss) (sym none)
  joined-without (xs ∷ xss) (suc c) h none = ap (λ zs. xs ++ zs) (joined-without xss c (omega (arith, h)) none)

  -- ---- one value

  get-joined : (xss : List (List X)) (c at : ℕ) → c < length xss → at < length (get_or xss c [])
      → slice_get (joined xss) (length (joined (take c xss)) + at) ≡ slice_get (get_or xss c []) at
  get-joined [] c at h within = absurd (omega (arith, h))
  get-joined (xs ∷ xss) zero at h within = ap (slice_get (xs ++ joined xss)) (omega arith) ∙ get_left xs (joined xss) at within
    where
      get_left : (xs ys : List X) (i : ℕ) → i < length xs → slice_get (xs ++ ys) i ≡ slice_get xs i
      get_left [] ys i h = absurd (omega (arith, h))
      get_left (x ∷ xs) ys zero h = refl
      get_left (x ∷ xs) ys (suc i) h = get_left xs ys i (omega (arith, h))
  get-joined (xs ∷ xss) (suc c) at h within =
      ap (λ n. slice_get (xs ++ joined xss) (n + at)) (length-append xs (joined (take c xss)))
      ∙ ap (λ n. slice_get (xs ++ joined xss) n) (omega arith)
      ∙ get_right xs (joined xss) (length (joined (take c xss)) + at)
      ∙ get-joined xss c at (omega (arith, h)) within
    where
      get_right : (xs ys : List X) (i : ℕ) → slice_get (xs ++ ys) (length xs + i) ≡ slice_get ys i
      get_right [] ys i = ap (slice_get ys) (omega arith)
      get_right (x ∷ xs) ys i =
          let later : suc (length xs) + i ≡ suc (length xs + i) = omega arith in
          ap (slice_get (x ∷ xs ++ ys)) later ∙ get_right xs ys i

  pub get_at : (xss : List (List X)) (index c at : ℕ) → IsPlace xss index c at
      → slice_get (joined xss) index ≡ slice_get (get_or xss c []) at
  get_at xss index c at p = ap (slice_get (joined xss)) (sym p.sum) ∙ get-joined xss c at p.there p.within

  insert-joined : (xss : List (List X)) (c at : ℕ) (v : X) → c < length xss → at < length (get_or xss c [])
      → joined (set xss c (insert (get_or xss c []) at v)) ≡ insert (joined xss) (length (joined (take c xss)) + at) v
  insert-joined [] c at v h within = absurd (omega (arith, h))
  insert-joined (xs ∷ xss) zero at v h within =
      sym (insert-append_left xs (joined xss) at v (omega (arith, within))) ∙ ap (λ n. insert (xs ++ joined xss) n v) (omega arith)
  insert-joined (xs ∷ xss) (suc c) at v h within =
      let later = length (joined (take c xss)) + at in
      let index : length (xs ++ joined (take c xss)) + at ≡ length xs + later = omega (arith, length-append xs (joined (take c xss))) in
      ap (λ zs. xs ++ zs) (insert-joined xss c at v (omega (arith, h)) within ∙ ap (λ n. insert (joined xss) n v) (omega arith))
      ∙ sym (insert-append_right xs (joined xss) (length xs) (length xs + later) v refl (omega arith))
      ∙ ap (λ n. insert (xs ++ joined xss) n v) (sym index)

  pub insert_at : (xss : List (List X)) (index c at : ℕ) (v : X) → IsPlace xss index c at
      → joined (set xss c (insert (get_or xss c []) at v)) ≡ insert (joined xss) index v
  insert_at xss index c at v p = insert-joined xss c at v p.there p.within ∙ ap (λ n. insert (joined xss) n v) p.sum

  remove-joined : (xss : List (List X)) (c at : ℕ) → c < length xss → at < length (get_or xss c [])
      → joined (set xss c (remove (get_or xss c []) at)) ≡ remove (joined xss) (length (joined (take c xss)) + at)
  remove-joined [] c at h within = absurd (omega (arith, h))
  remove-joined (xs ∷ xss) zero at h within = sym (remove-append_left xs (joined xss) at within) ∙ ap (remove (xs ++ joined xss)) (omega arith)
  remove-joined (xs ∷ xss) (suc c) at h within =
      let later = length (joined (take c xss)) + at in
      let index : length (xs ++ joined (take c xss)) + at ≡ length xs + later = omega (arith, length-append xs (joined (take c xss))) in
      ap (λ zs. xs ++ zs) (remove-joined xss c at (omega (arith, h)) within ∙ ap (remove (joined xss)) (omega arith))
      ∙ sym (remove-append_right xs (joined xss) (length xs) (length xs + later) refl (omega arith))
      ∙ ap (remove (xs ++ joined xss)) (sym index)

  pub remove_at : (xss : List (List X)) (index c at : ℕ) → IsPlace xss index c at
      → joined (set xss c (remove (get_or xss c []) at)) ≡ remove (joined xss) index
  remove_at xss index c at p = remove-joined xss c at p.there p.within ∙ ap (remove (joined xss)) p.sum

  set-joined : (xss : List (List X)) (c at : ℕ) (v : X) → c < length xss → at < length (get_or xss c [])
      → joined (set xss c (set (get_or xss c []) at v)) ≡ set (joined xss) (length (joined (take c xss)) + at) v
  set-joined [] c at v h within = absurd (omega (arith, h))
  set-joined (xs ∷ xss) zero at v h within = sym (set-append_left xs (joined xss) at v within) ∙ ap (λ n. set (xs ++ joined xss) n v) (omega arith)
  set-joined (xs ∷ xss) (suc c) at v h within =
      let later = length (joined (take c xss)) + at in
      let index : length (xs ++ joined (take c xss)) + at ≡ length xs + later = omega (arith, length-append xs (joined (take c xss))) in
      ap (λ zs. xs ++ zs) (set-joined xss c at v (omega (arith, h)) within ∙ ap (λ n. set (joined xss) n v) (omega arith))
      ∙ sym (set-append_right xs (joined xss) (length xs) (length xs + later) v refl (omega arith))
      ∙ ap (λ n. set (xs ++ joined xss) n v) (sym index)

  pub set_at : (xss : List (List X)) (index c at : ℕ) (v : X) → IsPlace xss index c at
      → joined (set xss c (set (get_or xss c []) at v)) ≡ set (joined xss) index v
  set_at xss index c at v p = set-joined xss c at v p.there p.within ∙ ap (λ n. set (joined xss) n v) p.sum

  -- in the last chunk
  pub push_last : (xss : List (List X)) (last : ℕ) (v : X) → length xss ≡ suc last
      → joined (set xss last (get_or xss last [] ++ v ∷ [])) ≡ joined xss ++ v ∷ []
  push_last [] last v h = absurd (omega (arith, h))
  push_last (xs ∷ xss) (suc last) v h =
      ap (λ zs. xs ++ zs) (push_last xss last v (omega (arith, h))) ∙ sym (append_assoc xs (joined xss) (v ∷ []))
  push_last (xs ∷ []) zero v h = append_assoc xs (v ∷ []) [] ∙ sym (ap (λ zs. zs ++ v ∷ []) (append-nil xs))
  push_last (xs ∷ ys ∷ xss) zero v h = absurd (omega (arith, h))
