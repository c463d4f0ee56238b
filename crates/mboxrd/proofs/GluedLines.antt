-- A line that goes on.
use Rattle.std.proofs.Common.{◌≡◌, ◌≢◌, ℕ, zero, suc, ◌+◌, ◌<◌, drop, Bool, true, false, cond, ◌&&◌, List, [], ◌∷◌, ◌++◌, take, refl, sym, append_assoc, arith}
use Rattle.std.proofs.lemmas.Bool.{ne_eqb, lt-ltb}
use Rattle.std.specs.List.{prefix_len}
use Rattle.std.specs.Prelude.{slice_index, ◌==◌, if◌then◌else◌}
use Rattle.kit.specs.Lines.{put_before}
use Rattle.mboxrd.specs.Mails.{is_empty_line, begins_with_from, unquoted}
use Rattle.mboxrd.specs.Remaining.{Remaining, push, remaining, glue, head_line, tail_lines, from_text}

-- the first line as it is, and what remains in the others after a line that is not empty
abbrev pub in_line : List (List ℕ) → Remaining
in_line ls = push (head_line ls) (remaining false [] (tail_lines ls))

pub put_lf : (ls : List (List ℕ)) → put_before 10 ls ≡ (10 ∷ []) ∷ ls
put_lf [] = refl
put_lf (l ∷ ls) = refl

pub put_glue : (b : ℕ) (ls : List (List ℕ)) → b ≢ 10 → put_before b ls ≡ glue (b ∷ []) ls
put_glue b [] ne = refl
put_glue b (l ∷ ls) ne = rw (ne_eqb b 10 ne) refl

pub glue_glue : (p q : List ℕ) (ls : List (List ℕ)) → glue p (glue q ls) ≡ glue (p ++ q) ls
glue_glue p q ls = rw append_assoc refl

pub glue_from : (ls : List (List ℕ)) → put_before 70 (put_before 114 (put_before 111 (put_before 109 (put_before 32 ls)))) ≡ glue from_text ls
glue_from [] = refl
glue_from (l ∷ ls) = refl

-- a line that begins with these bytes is one that the mail has as it is, whatever follows them
pub record Stays (may : Bool) (p : List ℕ) : Type 0 where
  pub separates : (t : List ℕ) → (may && begins_with_from (p ++ t)) ≡ false
  pub filled : (t : List ℕ) → is_empty_line (p ++ t) ≡ false
  pub kept : (t : List ℕ) → unquoted (p ++ t) ≡ p ++ t

pub settles : (may : Bool) (withheld p : List ℕ) (ls : List (List ℕ)) → Stays may p
    → remaining may withheld (glue p ls) ≡ push (withheld ++ p) (in_line ls)
settles may withheld p ls s =
    rw (s.separates (head_line ls), s.filled (head_line ls), s.kept (head_line ls)) (simp append_assoc refl)

-- a line that ends
pub ends : (may : Bool) (withheld p : List ℕ) (ls : List (List ℕ)) → (may && begins_with_from p) ≡ false → is_empty_line p ≡ false → unquoted p ≡ p
    → remaining may withheld (p ∷ ls) ≡ push (withheld ++ p) (remaining false [] ls)
ends may withheld p ls a b c = rw (a, b, c) (simp append_assoc refl)

-- a line that begins with another byte than LF and CR
pub not_empty : (b : ℕ) (t : List ℕ) → b ≢ 10 → b ≢ 13 → is_empty_line (b ∷ t) ≡ false
not_empty b t x y = rw (ne_eqb b 10 x, ne_eqb b 13 y) refl

pub not_empty_cr : (b : ℕ) (t : List ℕ) → b ≢ 10 → is_empty_line (13 ∷ b ∷ t) ≡ false
not_empty_cr b t x = rw (ne_eqb b 10 x) refl

pub unquoted_other : (b : ℕ) (t : List ℕ) → b ≢ 62 → unquoted (b ∷ t) ≡ b ∷ t
unquoted_other b t x = rw (ne_eqb b 62 x) refl

-- after a `>`
pub unquoted_quote : (t : List ℕ) → unquoted (62 ∷ t) ≡ (if begins_with_from (drop (prefix_len (λ b. b == 62) t) t) then t else (62 ∷ t))
unquoted_quote t = let e : 1 + prefix_len (λ b. b == 62) t ≡ suc (prefix_len (λ b. b == 62) t) = omega arith in
    rw (e, lt-ltb 0 (suc (prefix_len (λ b. b == 62) t)) (omega arith)) refl

pub unquoted_quotes : (t : List ℕ) → unquoted (62 ∷ 62 ∷ t) ≡ 62 ∷ unquoted (62 ∷ t)
unquoted_quotes t =
    let e : 1 + prefix_len (λ b. b == 62) t ≡ suc (prefix_len (λ b. b == 62) t) = omega arith in
    let here : Bool = begins_with_from (drop (prefix_len (λ b. b == 62) t) t) in
    rw (unquoted_quote (62 ∷ t), unquoted_quote t, e)
    (elim here as (λ v. cond v (62 ∷ t) (62 ∷ 62 ∷ t) ≡ 62 ∷ cond v t (62 ∷ t)) [ true ↦ refl | false ↦ refl ])

-- another byte than the next one of `From `
pub no_from : (k b : ℕ) (t : List ℕ) → k < 5 → b ≢ slice_index from_text k → begins_with_from (take k from_text ++ (b ∷ t)) ≡ false
no_from zero b t lt ne = rw (ne_eqb 70 b (λ e. ne (sym e))) refl
no_from (suc zero) b t lt ne = rw (ne_eqb 114 b (λ e. ne (sym e))) refl
no_from (suc (suc zero)) b t lt ne = rw (ne_eqb 111 b (λ e. ne (sym e))) refl
no_from (suc (suc (suc zero))) b t lt ne = rw (ne_eqb 109 b (λ e. ne (sym e))) refl
no_from (suc (suc (suc (suc zero)))) b t lt ne = rw (ne_eqb 32 b (λ e. ne (sym e))) refl
no_from (suc (suc (suc (suc (suc k))))) b t lt ne = absurd (omega arith)
