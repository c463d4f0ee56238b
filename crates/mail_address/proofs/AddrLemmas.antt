-- What is written as a local part, `@` and a domain is an address in small letters.
use Rattle.std.proofs.Common.{◌≡◌, ℕ, ◌+◌, ◌-◌, ◌<◌, ◌≤◌, ◌==◌, nat_eq, Bool, true, false, not, ◌&&◌, ◌||◌, cond, nat_le, List, [], ◌∷◌, ◌++◌, length, drop, refl, sym, ap, ◌∙◌, arith, append_assoc, length-append}
use Rattle.std.specs.Prelude.{codes, count_by}
use Rattle.std.specs.Char.{to_ascii_lowercase}
use Rattle.std.specs.Cmp.Lexicographic.{pointwise}
use Rattle.std.specs.List.{list_all, starts_with, ends_with}
use Rattle.std.proofs.lemmas.Bool.{and_parts, and_from, or_right, not-true, not_from_false, leb-true, le-leb, ne_eqb, eqb-false}
use Rattle.std.proofs.lemmas.List.{map-append, length-map}
use Rattle.std.proofs.lemmas.List.Sums.{sum_by-cons, sum_by-append}
use Rattle.std.proofs.Math.Seq.{drop-append_seam}
use Rattle.kit.specs.Addresses.{is_addr, is_addr_byte, has_inner_at, has_inner_colons}
use Rattle.kit.specs.Letters.{lowered}
use Rattle.mail_address.specs.Written.{AddrSpec, is_dotted, is_addr_spec, written_addr}
use Rattle.mail_address.proofs.WrittenTokens.{is_dot_byte, of_dot_byte}

-- a byte of an address that is no `@` and no colon
abbrev is_inner : ℕ → Bool
is_inner b = is_addr_byte b && not (b == 64) && not (b == 58)

record Inner (b : ℕ) : Type 0 where
  pub of_addr : is_addr_byte b ≡ true
  pub no_at : (b == 64) ≡ false
  pub no_colon : (b == 58) ≡ false

inner : (b : ℕ) → is_inner b ≡ true → Inner b
inner b h =
    let parts = and_parts (is_addr_byte b && not (b == 64)) (not (b == 58)) h in
    let first = and_parts (is_addr_byte b) (not (b == 64)) parts.0 in
    record { of_addr = first.0; no_at = not-true (b == 64) first.1; no_colon = not-true (b == 58) parts.1 }

all_inner : (bytes : List ℕ) → list_all is_dot_byte bytes ≡ true → list_all is_inner (lowered bytes) ≡ true
all_inner [] all = refl
all_inner (b ∷ bs) all =
    let parts = and_parts (is_dot_byte b) (list_all is_dot_byte bs) all in
    and_from (is_inner (to_ascii_lowercase b)) (list_all is_inner (lowered bs))
    (of_dot_byte (λ b. is_inner (to_ascii_lowercase b)) refl b parts.0) (all_inner bs parts.1)

addr_bytes : (xs ys : List ℕ) → list_all is_inner xs ≡ true → list_all is_addr_byte ys ≡ true → list_all is_addr_byte (xs ++ ys) ≡ true
addr_bytes [] ys first second = second
addr_bytes (x ∷ xs) ys first second =
    let parts = and_parts (is_inner x) (list_all is_inner xs) first in
    and_from (is_addr_byte x) (list_all is_addr_byte (xs ++ ys)) (inner x parts.0).of_addr (addr_bytes xs ys parts.1 second)

just_addr_bytes : (xs : List ℕ) → list_all is_inner xs ≡ true → list_all is_addr_byte xs ≡ true
just_addr_bytes [] all = refl
just_addr_bytes (x ∷ xs) all =
    let parts = and_parts (is_inner x) (list_all is_inner xs) all in
    and_from (is_addr_byte x) (list_all is_addr_byte xs) (inner x parts.0).of_addr (just_addr_bytes xs parts.1)

abbrev ats : List ℕ → ℕ
ats bytes = count_by (λ b. b == 64) bytes

no_ats : (xs : List ℕ) → list_all is_inner xs ≡ true → ats xs ≡ 0
no_ats [] all = refl
no_ats (x ∷ xs) all =
    let parts = and_parts (is_inner x) (list_all is_inner xs) all in
    sum_by-cons _ x xs ∙ rw (inner x parts.0).no_at (omega (arith, no_ats xs parts.1))

one_at : (xs ys : List ℕ) → list_all is_inner xs ≡ true → list_all is_inner ys ≡ true → ats (xs ++ (64 ∷ ys)) ≡ 1
one_at xs ys first second =
    sum_by-append _ xs (64 ∷ ys) ∙ omega (arith, no_ats xs first, no_ats ys second, sum_by-cons (λ (b : ℕ). cond (b == 64) 1 0) 64 ys)

no_colons : (inside : Bool) (xs : List ℕ) → list_all is_inner xs ≡ true → has_inner_colons inside xs ≡ true
no_colons inside [] all = refl
no_colons inside (x ∷ xs) all =
    let parts = and_parts (is_inner x) (list_all is_inner xs) all in
    and_from (inside || not (x == 58)) _ (or_right inside (not (x == 58)) (not_from_false (x == 58) (inner x parts.0).no_colon)) (no_colons (x == 91 || inside && not (x == 93)) xs parts.1)

no_colons_round_at : (inside : Bool) (xs ys : List ℕ) → list_all is_inner xs ≡ true → list_all is_inner ys ≡ true → has_inner_colons inside (xs ++ (64 ∷ ys)) ≡ true
no_colons_round_at inside [] ys first second = and_from (inside || true) _ (or_right inside true refl) (no_colons (64 == 91 || inside && not (64 == 93)) ys second)
no_colons_round_at inside (x ∷ xs) ys first second =
    let parts = and_parts (is_inner x) (list_all is_inner xs) first in
    and_from (inside || not (x == 58)) _ (or_right inside (not (x == 58)) (not_from_false (x == 58) (inner x parts.0).no_colon)) (no_colons_round_at (x == 91 || inside && not (x == 93)) xs ys parts.1 second)

-- the last byte of a list that is not empty
record Ending (bytes : List ℕ) : Type 0 where
  pub prefix : List ℕ
  pub last : ℕ
  pub whole : bytes ≡ prefix ++ (last ∷ [])
  pub inside : is_inner last ≡ true

ending : (b : ℕ) (bs : List ℕ) → list_all is_inner (b ∷ bs) ≡ true → Ending (b ∷ bs)
ending b [] all = record { prefix = []; last = b; whole = refl; inside = (and_parts (is_inner b) true all).0 }
ending b (c ∷ bs) all =
    let e = ending c bs (and_parts (is_inner b) (list_all is_inner (c ∷ bs)) all).1 in
    record { prefix = b ∷ e.prefix; last = e.last; whole = ap (λ (xs : List ℕ). b ∷ xs) e.whole; inside = e.inside }

at_never : (b : ℕ) → is_inner b ≡ true → nat_eq 64 b ≡ false
at_never b h = ne_eqb 64 b (λ e. eqb-false b 64 (inner b h).no_at (sym e))

ends_otherwise : (xs ys : List ℕ) → 0 < length ys → list_all is_inner ys ≡ true → ends_with nat_eq (xs ++ ys) (codes "@") ≡ false
ends_otherwise xs [] some all = absurd (omega arith)
ends_otherwise xs (y ∷ ys) some all =
    let e = ending y ys all in
    let prefix = xs ++ e.prefix in
    let is : xs ++ (y ∷ ys) ≡ prefix ++ (e.last ∷ []) = ap (λ zs. xs ++ zs) e.whole ∙ sym (append_assoc xs e.prefix (e.last ∷ [])) in
    let at : length (prefix ++ (e.last ∷ [])) - 1 ≡ length prefix = omega (arith, length-append prefix (e.last ∷ [])) in
    ap (λ zs. ends_with nat_eq zs (codes "@")) is
    ∙ ap (λ n. pointwise nat_eq (codes "@") (drop n (prefix ++ (e.last ∷ [])))) at
    ∙ ap (pointwise nat_eq (codes "@")) (drop-append_seam prefix (e.last ∷ []))
    ∙ rw (at_never e.last e.inside) refl

starts_otherwise : (xs ys : List ℕ) → 0 < length xs → list_all is_inner xs ≡ true → starts_with nat_eq (xs ++ ys) (codes "@") ≡ false
starts_otherwise [] ys some all = absurd (omega arith)
starts_otherwise (x ∷ xs) ys some all = rw (at_never x (and_parts (is_inner x) (list_all is_inner xs) all).0) refl

abbrev joined : AddrSpec → List ℕ
joined a = lowered a.local ++ (64 ∷ lowered a.domain)

pub lowered-written : (a : AddrSpec) → lowered (written_addr a) ≡ joined a
lowered-written a = map-append to_ascii_lowercase a.local (64 ∷ a.domain)

joined_is_addr : (a : AddrSpec) → is_addr_spec a ≡ true → is_addr (joined a) ≡ true
joined_is_addr a is =
    let parts = and_parts (is_dotted a.local && is_dotted a.domain) (nat_le (length (written_addr a)) 254) is in
    let dotted = and_parts (is_dotted a.local) (is_dotted a.domain) parts.0 in
    let local = and_parts (nat_le 1 (length a.local)) (list_all is_dot_byte a.local) dotted.0 in
    let domain = and_parts (nat_le 1 (length a.domain)) (list_all is_dot_byte a.domain) dotted.1 in
    let l = lowered a.local in
    let d = lowered a.domain in
    let inner_l = all_inner a.local local.1 in
    let inner_d = all_inner a.domain domain.1 in
    let some_l : 1 ≤ length l = omega (arith, length-map a.local to_ascii_lowercase, leb-true _ _ local.0) in
    let some_d : 1 ≤ length d = omega (arith, length-map a.domain to_ascii_lowercase, leb-true _ _ domain.0) in
    let len : length (joined a) ≡ length l + (1 + length d) = length-append l (64 ∷ d) ∙ omega arith in
    let written_len : length (written_addr a) ≡ length l + (1 + length d) =
    length-append a.local (64 ∷ a.domain) ∙ omega (arith, length-map a.local to_ascii_lowercase, length-map a.domain to_ascii_lowercase) in
    let short : nat_le 3 (length (joined a)) ≡ true = le-leb _ _ (omega (arith, len, some_l, some_d)) in
    let long : nat_le (length (joined a)) 254 ≡ true = le-leb _ _ (omega (arith, len, written_len, leb-true _ _ parts.1)) in
    let bytes : list_all is_addr_byte (joined a) ≡ true = addr_bytes l (64 ∷ d) inner_l (just_addr_bytes d inner_d) in
    let first : starts_with nat_eq (joined a) (codes "@") ≡ false = starts_otherwise l (64 ∷ d) (omega (arith, some_l)) inner_l in
    let second : ends_with nat_eq (joined a) (codes "@") ≡ false =
    ap (λ zs. ends_with nat_eq zs (codes "@")) (sym (append_assoc l (64 ∷ []) d)) ∙ ends_otherwise (l ++ (64 ∷ [])) d (omega (arith, some_d)) inner_d in
    let at : has_inner_at (joined a) ≡ true = rw (one_at l d inner_l inner_d, first, second) refl in
    let colons : has_inner_colons false (joined a) ≡ true = no_colons_round_at false l d inner_l inner_d in
    and_from _ _ (and_from _ _ (and_from _ _ (and_from _ _ short long) bytes) at) colons

pub written_is_addr : (a : AddrSpec) → is_addr_spec a ≡ true → is_addr (lowered (written_addr a)) ≡ true
written_is_addr a is = ap is_addr (lowered-written a) ∙ joined_is_addr a is
