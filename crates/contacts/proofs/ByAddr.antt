-- What a map by address has at an address, where it is read or changed.
use Rattle.std.proofs.Common.{◌≡◌, refl, sym, ap, ◌∙◌, ℕ, ◌+◌, ◌-◌, Bool, true, false, cond, Option, Some, Result, Ok, Err, List, [], ◌∷◌, ◌++◌, ◌<◌, length, take, get_or, arith}
use Rattle.std.specs.Ordering.{is_eq, nat_cmp}
use Rattle.std.specs.declared.cmp.Ordering.TheVariants.{Equal}
use Rattle.std.specs.List.{count_by}
use Rattle.std.specs.Option.{unwrap_or, IfSome}
use Rattle.std.specs.Result.{IfOk, result_ok}
use Rattle.std.specs.Cmp.Lexicographic.{slice_cmp, bytes_decides}
use Rattle.std.specs.Map.{lookup}
use Rattle.std.specs.BTreeMap.{is_at}
use Rattle.std.specs.Str.{bytes_eq}
use Rattle.std.proofs.lemmas.Cmp.{nat_list_eq_equiv}
use Rattle.std.proofs.lemmas.List.Sums.{sum_by-cons, sum_by-append, sum_by_more}
use Rattle.std.proofs.lemmas.Map.Text.{is_eq-slice_cmp}
use Rattle.card_type.specs.Records.{capped}
use Rattle.card_type.specs.declared.card.Card.{Card}
use Rattle.card_type.specs.declared.spot.Spot.{Spot}
use Rattle.mailbox_model.specs.Lists.{Bytes}
use Rattle.contacts.specs.Kept.{mentions_at, times_in}

abbrev at : Bytes → Bytes → Bool
at addr = is_at (slice_cmp nat_cmp addr)

-- an address that is not there is mentioned 0 times
abbrev pub count_of : Option ℕ → ℕ
count_of count = unwrap_or count 0

-- and has no names
abbrev pub names_of : Option (List (Spot × Bytes)) → List (Spot × Bytes)
names_of names = unwrap_or names []

-- the order of addresses tells alike those that are equal
pub looked : {V : Type 0} (es : List (Bytes × V)) (addr : Bytes) → lookup (at addr) es ≡ lookup (bytes_eq addr) es
looked [] addr = refl
looked (e ∷ es) addr = λ i. cond (is_eq-slice_cmp addr e.0 i) (Some e.1) (looked es addr i)

-- and ties only these
pub equal : (addr other : Bytes) → slice_cmp nat_cmp addr other ≡ Equal → other ≡ addr
equal addr other ties = sym ((bytes_decides addr other).0 (sym (is_eq-slice_cmp addr other) ∙ ap is_eq ties))

-- what holds of an answer holds of it where the error is let go
pub kept_if_ok : {X E : Type 0} (P : X → Type 0) (r : Result X E) → IfOk r P → IfSome (result_ok r) P
kept_if_ok P (Ok x) has = has
kept_if_ok P (Err e) has = tt

-- another value, or none, for one address
module _ {V : Type 0} (es fs : List (Bytes × V)) (addr : Bytes) (value : Option V)
    (updates : (q : Bytes) → lookup (at q) fs ≡ cond (at addr q) value (lookup (at q) es)) where
  changed : (q : Bytes) → lookup (bytes_eq q) fs ≡ cond (bytes_eq addr q) value (lookup (bytes_eq q) es)
  changed q = sym (looked fs q) ∙ updates q ∙ (λ i. cond (is_eq-slice_cmp addr q i) value (looked es q i))

  pub here : lookup (bytes_eq addr) fs ≡ value
  here = changed addr ∙ ap (λ b. cond b value (lookup (bytes_eq addr) es)) ((bytes_decides addr addr).1 refl)

  pub elsewhere : (q : Bytes) → bytes_eq addr q ≡ false → lookup (bytes_eq q) fs ≡ lookup (bytes_eq q) es
  elsewhere q other = changed q ∙ ap (λ b. cond b value (lookup (bytes_eq q) es)) other

  -- what is read of the maps is the same where it is the same of the values
  pub unchanged : {W : Type 0} (f : Option V → W) → f value ≡ f (lookup (bytes_eq addr) es) → (q : Bytes)
      → f (lookup (bytes_eq q) fs) ≡ f (lookup (bytes_eq q) es)
  unchanged f same q =
      elim (bytes_eq addr q) as (λ b. bytes_eq addr q ≡ b → f (lookup (bytes_eq q) fs) ≡ f (lookup (bytes_eq q) es)) [
        | true ↦ λ e. let equal = (bytes_decides addr q).0 e in rw (← equal) (ap f here ∙ same)
        | false ↦ λ e. ap f (elsewhere q e)
      ] refl

-- ---- one mention more or less

capped_once : (n : ℕ) → capped (capped n) ≡ capped n
capped_once n = grind (arith)

no_more : (n : ℕ) → n ≡ n + 0
no_more n = omega (arith)

-- some more, and then some
pub more_still : (a b c m n : ℕ) → capped b ≡ capped (a + m) → capped c ≡ capped (b + n) → capped c ≡ capped (a + (m + n))
more_still a b c m n first then_some = grind (arith, first, then_some)

module _ (old new : List (Bytes × ℕ)) (addr : Bytes)
    (others : (q : Bytes) → bytes_eq addr q ≡ false → mentions_at new q ≡ mentions_at old q) where
  pub one_more : mentions_at new addr ≡ capped (mentions_at old addr + 1)
      → (q : Bytes) → capped (mentions_at new q) ≡ capped (mentions_at old q + cond (bytes_eq q addr) 1 0)
  one_more at q =
      elim (bytes_eq addr q) as (λ b. bytes_eq addr q ≡ b → capped (mentions_at new q) ≡ capped (mentions_at old q + cond (bytes_eq q addr) 1 0)) [
        | true ↦ λ e. let equal = (bytes_decides addr q).0 e in rw (← equal, (bytes_decides addr addr).1 refl) (ap capped at ∙ capped_once (mentions_at old addr + 1))
        | false ↦ λ e. rw (nat_list_eq_equiv.symm q addr, e) (let k = others q e in ap capped k ∙ ap capped (no_more (mentions_at old q)))
      ] refl

  pub one_less : mentions_at new addr ≡ mentions_at old addr - 1
      → (q : Bytes) → mentions_at new q ≡ mentions_at old q - cond (bytes_eq q addr) 1 0
  one_less at q =
      elim (bytes_eq addr q) as (λ b. bytes_eq addr q ≡ b → mentions_at new q ≡ mentions_at old q - cond (bytes_eq q addr) 1 0) [
        | true ↦ λ e. let equal = (bytes_decides addr q).0 e in rw (← equal, (bytes_decides addr addr).1 refl) at
        | false ↦ λ e. rw (nat_list_eq_equiv.symm q addr, e) (let k = others q e in omega (arith, k))
      ] refl

-- one more of those that are counted
pub counted : {X : Type 0} (p : X → Bool) (xs : List X) (i : ℕ) (x : X) → i < length xs → x ≡ get_or xs i x
    → count_by p (take (i + 1) xs) ≡ count_by p (take i xs) + cond (p x) 1 0
counted p xs i x lt is = sum_by_more (λ y. cond (p y) 1 0) xs i x lt ∙ ap (λ y. count_by p (take i xs) + cond (p y) 1 0) (sym is)

-- From, then To, then Cc
pub times_are : (card : Card) (q : Bytes) → times_in card q ≡ cond (bytes_eq q card.from) 1 0 + count_by (bytes_eq q) card.to + count_by (bytes_eq q) card.cc
times_are card q =
    let first = sum_by-cons (λ addr. cond (bytes_eq q addr) 1 0) card.from (card.to ++ card.cc) in
    let others = sum_by-append (λ addr. cond (bytes_eq q addr) 1 0) card.to card.cc in
    omega (arith, first, others)
