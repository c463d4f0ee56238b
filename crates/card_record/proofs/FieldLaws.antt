-- What is read is spelled so, and what is spelled so is read: for each kind of field, and one line for each field of a record.
use Rattle.std.proofs.Common.{◌≡◌, ◌⊎◌, ℕ, zero, suc, ◌+◌, ◌^◌, ◌<◌, ◌≤◌, Bool, true, false, cond, ltb, eqb, List, [], ◌∷◌, ◌++◌, length, take, drop, Option, Some, None, Result, Ok, Err, refl, sym, ap, subst, ◌∙◌, append_assoc, arith, inl, inr}
use Rattle.std.specs.Prelude.{⊤}
use Rattle.std.specs.Int.{Width, w32, w64, byte_len, from_be_bytes, to_be_bytes}
use Rattle.std.specs.List.{flat_map}
use Rattle.std.proofs.lemmas.Bool.{cases_lt, ltb-false, le-ltb, eqb-true}
use Rattle.std.proofs.lemmas.List.{take_at, drop_at, take-append-drop, length-append, length-take, get_or-drop, get_or-take, get_or_past, append-nil}
use Rattle.std.proofs.lemmas.List.Concat.{flat_map-cons}
use Rattle.std.proofs.lemmas.Nat.{be_bytes_4, be_bytes_8, from_be_bytes-to_be_bytes_4, from_be_bytes-to_be_bytes_8}
use Rattle.card_type.specs.Records as records
use Rattle.card_record.specs.Reading.{◌>>=◌, Read, number_at, ruled, block_at, block_of, flag_at, opt_of, run_at, times_of, list_of}
use Rattle.card_record.specs.Spelling.{IsBytes}

pub IsBytes-drop : (n : ℕ) (bytes : List ℕ) → IsBytes bytes → IsBytes (drop n bytes)
IsBytes-drop n bytes h i = rw get_or-drop (h (n + i))

IsBytes-take : (n : ℕ) (bytes : List ℕ) → IsBytes bytes → IsBytes (take n bytes)
IsBytes-take n bytes h i =
    elim (cases_lt i n) [
      | inl lt ↦ rw (get_or-take n bytes i 0 lt) (h i)
      | inr le ↦ rw (get_or_past (take n bytes) i 0 (omega (arith, length-take n bytes))) (omega arith)
    ]

-- the value of a step that did not fail
pub bind_ok : {A B : Type 0} (r : Result A ℕ) (f : A → Result B ℕ) (y : B) → (r >>= f) ≡ Ok y → (x : A) × (r ≡ Ok x) × (f x ≡ Ok y)
bind_ok (Ok x) f y e = (x, refl, e)
bind_ok (Err d) f y e = absurd cc

-- a test that did not fail
pub guard_ok : {A : Type 0} (b : Bool) (d : ℕ) (x y : A) → cond b (Err d) (Ok x) ≡ Ok y → (b ≡ false) × (x ≡ y)
guard_ok true d x y e = absurd cc
guard_ok false d x y e = (refl, cc)

pub rule_ok : {A : Type 0} (b : Bool) (d : ℕ) (x y : A) → cond b (Ok x) (Err d) ≡ Ok y → (b ≡ true) × (x ≡ y)
rule_ok true d x y e = (refl, cc)
rule_ok false d x y e = absurd cc

abbrev done : {A : Type 0} → A → Result A ℕ
done x = Ok x

pub ok_is : {A : Type 0} (x y : A) → done x ≡ done y → x ≡ y
ok_is x y e = cc

-- what a reader took from the front
pub record Takes (bytes text rest : List ℕ) : Type 0 where
  pub parts : bytes ≡ text ++ rest
  pub rest_fits : IsBytes rest

pub Takes-then : (a x b y c : List ℕ) → Takes a x b → Takes b y c → Takes a (x ++ y) c
Takes-then a x b y c p q = record { parts = p.parts ∙ ap (λ (t : List ℕ). x ++ t) q.parts ∙ sym (append_assoc x y c); rest_fits = q.rest_fits }

-- Reading and spelling are inverse. A spelling is short enough for the numbers of four bytes in it.
pub record IsRead {X : Type 0} (spell : X → List ℕ) (Fits : X → Type 0) (read : List ℕ → Read X) : Type 0 where
  pub some : (x : X) → 1 ≤ length (spell x)
  pub takes : (bytes : List ℕ) (x : X) (rest : List ℕ) → IsBytes bytes → read bytes ≡ Ok (x, rest) → Takes bytes (spell x) rest × Fits x
  pub again : (x : X) (rest : List ℕ) → Fits x → length (spell x) < 2 ^ 32 → read (spell x ++ rest) ≡ Ok (x, rest)

-- ---- numbers

pub record IsWide (w : Width) (limit : ℕ) : Type 0 where
  pub some : 1 ≤ byte_len w
  pub len : (n : ℕ) → length (to_be_bytes w n) ≡ byte_len w
  pub back : (bytes : List ℕ) → length bytes ≡ byte_len w → IsBytes bytes → to_be_bytes w (from_be_bytes w bytes) ≡ bytes
  pub again : (n : ℕ) → n < limit → from_be_bytes w (to_be_bytes w n) ≡ n
  pub below : (bytes : List ℕ) → IsBytes bytes → from_be_bytes w bytes < limit

pub wide32 : IsWide w32 (2 ^ 32)
wide32 = record {
  some = omega arith;
  len = λ n. refl;
  back = λ bytes len fits. be_bytes_4 bytes _ len fits refl;
  again = λ n lt. from_be_bytes-to_be_bytes_4 n lt;
  below = λ bytes fits. omega (arith, fits 0, fits 1, fits 2, fits 3);
}

pub wide64 : IsWide w64 (2 ^ 64)
wide64 = record {
  some = omega arith;
  len = λ n. refl;
  back = λ bytes len fits. be_bytes_8 bytes _ len fits refl;
  again = λ n lt. from_be_bytes-to_be_bytes_8 n lt;
  below = λ bytes fits. omega (arith, fits 0, fits 1, fits 2, fits 3, fits 4, fits 5, fits 6, fits 7);
}

number_takes : (w : Width) (limit : ℕ) (wide : IsWide w limit) (bytes : List ℕ) (n : ℕ) (rest : List ℕ) → IsBytes bytes → number_at w bytes ≡ Ok (n, rest) → Takes bytes (to_be_bytes w n) rest × (n < limit)
number_takes w limit wide bytes n rest fits e =
    let g = guard_ok (ltb (length bytes) (byte_len w)) (length bytes) (from_be_bytes w (take (byte_len w) bytes), drop (byte_len w) bytes) (n, rest) e in
    let long : byte_len w ≤ length bytes = ltb-false _ _ g.0 in
    let n-is : from_be_bytes w (take (byte_len w) bytes) ≡ n = ap (λ (p : ℕ × List ℕ). p.0) g.1 in
    let rest-is : drop (byte_len w) bytes ≡ rest = ap (λ (p : ℕ × List ℕ). p.1) g.1 in
    let front : to_be_bytes w n ≡ take (byte_len w) bytes = rw (← n-is) (wide.back (take (byte_len w) bytes) (omega (arith, length-take (byte_len w) bytes)) (IsBytes-take (byte_len w) bytes fits)) in
    (record { parts = rw (front, ← rest-is) (sym (take-append-drop (byte_len w) bytes)); rest_fits = rw (← rest-is) (IsBytes-drop (byte_len w) bytes fits) }, rw (← n-is) (wide.below (take (byte_len w) bytes) (IsBytes-take (byte_len w) bytes fits)))

number_again : (w : Width) (limit : ℕ) (wide : IsWide w limit) (n : ℕ) (rest : List ℕ) → n < limit → number_at w (to_be_bytes w n ++ rest) ≡ Ok (n, rest)
number_again w limit wide n rest lt =
    let len = wide.len n in
    let long : ltb (length (to_be_bytes w n ++ rest)) (byte_len w) ≡ false = le-ltb _ _ (omega (arith, length-append (to_be_bytes w n) rest)) in
    rw (long, take_at (to_be_bytes w n) rest (byte_len w) len, drop_at (to_be_bytes w n) rest (byte_len w) len, wide.again n lt) refl

pub number_law : (w : Width) (limit : ℕ) → IsWide w limit → IsRead (to_be_bytes w) (λ n. n < limit) (number_at w)
number_law w limit wide = record {
  some = λ n. omega (arith, wide.some, wide.len n);
  takes = λ bytes n rest fits e. number_takes w limit wide bytes n rest fits e;
  again = λ n rest lt small. number_again w limit wide n rest lt;
}

-- ---- runs of bytes

pub run_takes : (n : ℕ) (bytes text rest : List ℕ) → IsBytes bytes → run_at n bytes ≡ Ok (text, rest) → Takes bytes text rest × (length text ≡ n)
run_takes n bytes text rest fits e =
    let g = guard_ok (ltb (length bytes) n) (length bytes) (take n bytes, drop n bytes) (text, rest) e in
    let long : n ≤ length bytes = ltb-false _ _ g.0 in
    let parts : Takes bytes (take n bytes) (drop n bytes) × (length (take n bytes) ≡ n) = (
      record { parts = sym (take-append-drop n bytes); rest_fits = IsBytes-drop n bytes fits },
      omega (arith, length-take n bytes),
    ) in
    subst (λ (p : List ℕ × List ℕ). Takes bytes p.0 p.1 × (length p.0 ≡ n)) g.1 parts

pub run_again : (n : ℕ) (text rest : List ℕ) → length text ≡ n → run_at n (text ++ rest) ≡ Ok (text, rest)
run_again n text rest len =
    let long : ltb (length (text ++ rest)) n ≡ false = le-ltb _ _ (omega (arith, len, length-append text rest)) in
    rw (long, take_at text rest n len, drop_at text rest n len) refl

-- ---- blocks

block_takes : (bytes text rest : List ℕ) → IsBytes bytes → block_at bytes ≡ Ok (text, rest) → Takes bytes (records.block text) rest
unfolding block_at
block_takes bytes text rest fits e =
    let b = bind_ok (number_at w32 bytes) (λ n. cond (ltb (length n.1) n.0) (Err (length bytes)) (Ok (take n.0 n.1, drop n.0 n.1))) (text, rest) e in
    let n = b.0 in
    let t = number_takes w32 (2 ^ 32) wide32 bytes n.0 n.1 fits b.1 in
    let g = guard_ok (ltb (length n.1) n.0) (length bytes) (take n.0 n.1, drop n.0 n.1) (text, rest) b.2 in
    let long : n.0 ≤ length n.1 = ltb-false _ _ g.0 in
    let len : length (take n.0 n.1) ≡ n.0 = omega (arith, length-take n.0 n.1) in
    let second : Takes n.1 (take n.0 n.1) (drop n.0 n.1) = record { parts = sym (take-append-drop n.0 n.1); rest_fits = IsBytes-drop n.0 n.1 t.0.rest_fits } in
    let both : Takes bytes (to_be_bytes w32 n.0 ++ take n.0 n.1) (drop n.0 n.1) = Takes-then bytes (to_be_bytes w32 n.0) n.1 (take n.0 n.1) (drop n.0 n.1) t.0 second in
    let named : Takes bytes (records.block (take n.0 n.1)) (drop n.0 n.1) = subst (λ (k : ℕ). Takes bytes (to_be_bytes w32 k ++ take n.0 n.1) (drop n.0 n.1)) (sym len) both in
    subst (λ (p : List ℕ × List ℕ). Takes bytes (records.block p.0) p.1) g.1 named

block_again : (text rest : List ℕ) → length text < 2 ^ 32 → block_at (records.block text ++ rest) ≡ Ok (text, rest)
unfolding block_at
block_again text rest lt =
    let regrouped : records.block text ++ rest ≡ to_be_bytes w32 (length text) ++ (text ++ rest) = append_assoc (to_be_bytes w32 (length text)) text rest in
    let long : ltb (length (text ++ rest)) (length text) ≡ false = le-ltb _ _ (omega (arith, length-append text rest)) in
    ap block_at regrouped ∙ rw (number_again w32 (2 ^ 32) wide32 (length text) (text ++ rest) lt, long, take_at text rest (length text) refl, drop_at text rest (length text) refl) refl

pub any_block_law : IsRead records.block (λ _. ⊤) block_at
any_block_law = record {
  some = λ text. omega arith;
  takes = λ bytes text rest fits e. (block_takes bytes text rest fits e, tt);
  again = λ text rest f small. block_again text rest (omega (arith, length-append (to_be_bytes w32 (length text)) text, small));
}

-- ---- fields that keep a rule

module _ {X : Type 0} (spell : X → List ℕ) (Fits : X → Type 0) (read : List ℕ → Read X) (rule : X → Bool) (law : IsRead spell Fits read) where
  ruled_takes : (bytes : List ℕ) (x : X) (rest : List ℕ) → IsBytes bytes → ruled rule read bytes ≡ Ok (x, rest) → Takes bytes (spell x) rest × (Fits x × (rule x ≡ true))
  ruled_takes bytes x rest fits e =
      let b = bind_ok (read bytes) (λ y. cond (rule y.0) (Ok y) (Err (length bytes))) (x, rest) e in
      let g = rule_ok (rule b.0.0) (length bytes) b.0 (x, rest) b.2 in
      let t = law.takes bytes b.0.0 b.0.1 fits b.1 in
      subst (λ (p : X × List ℕ). Takes bytes (spell p.0) p.1 × (Fits p.0 × (rule p.0 ≡ true))) g.1 (t.0, (t.1, g.0))

  ruled_again : (x : X) (rest : List ℕ) → Fits x × (rule x ≡ true) → length (spell x) < 2 ^ 32 → ruled rule read (spell x ++ rest) ≡ Ok (x, rest)
  ruled_again x rest fits small = rw (law.again x rest fits.0 small, fits.1) refl

  pub ruled_law : IsRead spell (λ x. Fits x × (rule x ≡ true)) (ruled rule read)
  ruled_law = record { some = law.some; takes = ruled_takes; again = ruled_again }

-- the same law, by another spelling and another condition
pub law_as : {X : Type 0} (spell other : X → List ℕ) (Fits Others : X → Type 0) (read : List ℕ → Read X) → IsRead spell Fits read
    → ((x : X) → spell x ≡ other x) → ((x : X) → Fits x → Others x) → ((x : X) → Others x → length (other x) < 2 ^ 32 → Fits x) → IsRead other Others read
law_as spell other Fits Others read law same to from = record {
  some = λ x. subst (λ (t : List ℕ). 1 ≤ length t) (same x) (law.some x);
  takes = λ bytes x rest fits e.
      let t = law.takes bytes x rest fits e in
      (subst (λ (s : List ℕ). Takes bytes s rest) (same x) t.0, to x t.1);
  again = λ x rest fits small.
      subst (λ (s : List ℕ). read (s ++ rest) ≡ Ok (x, rest)) (same x)
      (law.again x rest (from x fits small) (subst (λ (s : List ℕ). length s < 2 ^ 32) (sym (same x)) small));
}

pub block_law : (rule : List ℕ → Bool) → IsRead records.block (λ text. rule text ≡ true) (block_of rule)
unfolding block_of
block_law rule = law_as records.block records.block (λ text. ⊤ × (rule text ≡ true)) (λ text. rule text ≡ true) _
    (ruled_law records.block (λ _. ⊤) block_at rule any_block_law) (λ text. refl) (λ text f. f.1) (λ text f small. (tt, f))

-- ---- flags, and values that may be missing

-- which way a test went
pub chosen : {A : Type 0} (b : Bool) (x y z : A) → cond b x y ≡ z → ((b ≡ true) × (x ≡ z)) ⊎ ((b ≡ false) × (y ≡ z))
chosen true x y z e = inl (refl, e)
chosen false x y z e = inr (refl, e)

flag_takes : (bytes : List ℕ) (b : Bool) (rest : List ℕ) → IsBytes bytes → flag_at bytes ≡ Ok (b, rest) → Takes bytes (records.flag b) rest × ⊤
unfolding flag_at
flag_takes [] b rest fits e = absurd cc
flag_takes (n ∷ bytes) b rest fits e =
    let more = λ (i : ℕ). fits (suc i) in
    elim (chosen (eqb n 0) (done (false, bytes)) (cond (eqb n 1) (Ok (true, bytes)) (Err (suc (length bytes)))) (done (b, rest)) e) [
      | inl h ↦ subst (λ (p : Bool × List ℕ). Takes (n ∷ bytes) (records.flag p.0) p.1 × ⊤) (ok_is (false, bytes) (b, rest) h.1) (record { parts = ap (λ (k : ℕ). k ∷ bytes) (eqb-true n 0 h.0); rest_fits = more }, tt)
      | inr h ↦ elim (chosen (eqb n 1) (done (true, bytes)) (Err (suc (length bytes))) (done (b, rest)) h.1) [
        | inl k ↦ subst (λ (p : Bool × List ℕ). Takes (n ∷ bytes) (records.flag p.0) p.1 × ⊤) (ok_is (true, bytes) (b, rest) k.1) (record { parts = ap (λ (k : ℕ). k ∷ bytes) (eqb-true n 1 k.0); rest_fits = more }, tt)
        | inr k ↦ let wrong = k.1 in absurd cc
      ]
    ]

flag_again : (b : Bool) (rest : List ℕ) → flag_at (records.flag b ++ rest) ≡ Ok (b, rest)
unfolding flag_at
flag_again false rest = refl
flag_again true rest = refl

pub flag_some : (b : Bool) → 1 ≤ length (records.flag b)
flag_some false = omega arith
flag_some true = omega arith

pub flag_law : IsRead records.flag (λ _. ⊤) flag_at
flag_law = record { some = flag_some; takes = flag_takes; again = λ b rest f small. flag_again b rest }

-- ---- one line for each field of a record

-- What is left to be read of a record of which some fields are known.
pub record IsPart {Z : Type 0} (Known : Z → Type 0) (spell : Z → List ℕ) (Fits : Z → Type 0) (read : List ℕ → Read Z) : Type 0 where
  pub takes : (bytes : List ℕ) (z : Z) (rest : List ℕ) → IsBytes bytes → read bytes ≡ Ok (z, rest) → Takes bytes (spell z) rest × Fits z × Known z
  pub again : (z : Z) (rest : List ℕ) → Known z → Fits z → length (spell z) < 2 ^ 32 → read (spell z ++ rest) ≡ Ok (z, rest)

module _ {X Z : Type 0} (spell : X → List ℕ) (Fits : X → Type 0) (read : List ℕ → Read X) (law : IsRead spell Fits read) (get : Z → X) (Known : Z → Type 0)
    (others : Z → List ℕ) (Others : Z → Type 0) (go_on : X → List ℕ → Read Z) (part : (x : X) → IsPart (λ z. Known z × (get z ≡ x)) others Others (go_on x)) where
  field_takes : (bytes : List ℕ) (z : Z) (rest : List ℕ) → IsBytes bytes → (read bytes >>= λ x. go_on x.0 x.1) ≡ Ok (z, rest)
      → Takes bytes (spell (get z) ++ others z) rest × (Fits (get z) × Others z) × Known z
  field_takes bytes z rest fits e =
      let b = bind_ok (read bytes) (λ x. go_on x.0 x.1) (z, rest) e in
      let one = law.takes bytes b.0.0 b.0.1 fits b.1 in
      let two = (part b.0.0).takes b.0.1 z rest one.0.rest_fits b.2 in
      let named = subst (λ (x : X). Takes bytes (spell x) b.0.1 × Fits x) (sym two.2.1) one in
      (Takes-then bytes (spell (get z)) b.0.1 (others z) rest named.0 two.0, (named.1, two.1), two.2.0)

  field_again : (z : Z) (rest : List ℕ) → Known z → Fits (get z) × Others z → length (spell (get z) ++ others z) < 2 ^ 32
      → (read ((spell (get z) ++ others z) ++ rest) >>= λ x. go_on x.0 x.1) ≡ Ok (z, rest)
  field_again z rest known fits small =
      let len = length-append (spell (get z)) (others z) in
      let one = law.again (get z) (others z ++ rest) fits.0 (omega (arith, len, small)) in
      let two = (part (get z)).again z rest (known, refl) fits.1 (omega (arith, len, small)) in
      ap (λ (b : List ℕ). read b >>= λ x. go_on x.0 x.1) (append_assoc (spell (get z)) (others z) rest) ∙ rw one two

  pub then_field : IsPart Known (λ z. spell (get z) ++ others z) (λ z. Fits (get z) × Others z) (λ bytes. read bytes >>= λ x. go_on x.0 x.1)
  then_field = record { takes = field_takes; again = field_again }

-- all fields are known
pub all_fields : {Z : Type 0} (Known : Z → Type 0) (z : Z) → Known z → ((y : Z) → Known y → y ≡ z) → IsPart Known (λ _. []) (λ _. ⊤) (λ bytes. Ok (z, bytes))
all_fields {Z = Z} Known z known only = record {
  takes = λ bytes y rest fits e.
      let is = ok_is (z, bytes) (y, rest) e in
      subst (λ (p : Z × List ℕ). Takes bytes [] p.1 × ⊤ × Known p.0) is (record { parts = refl; rest_fits = fits }, tt, known);
  again = λ y rest k f small. ap (λ (x : Z). Ok (x, rest)) (sym (only y k));
}

-- the same part, by another condition where the known fields are as they are
pub part_as : {Z : Type 0} (Known : Z → Type 0) (spell : Z → List ℕ) (Fits Others : Z → Type 0) (read : List ℕ → Read Z) → IsPart Known spell Fits read
    → ((z : Z) → Known z → Fits z → Others z) → ((z : Z) → Known z → Others z → Fits z) → IsPart Known spell Others read
part_as Known spell Fits Others read part to from = record {
  takes = λ bytes z rest fits e. let t = part.takes bytes z rest fits e in (t.0, to z t.2 t.1, t.2);
  again = λ z rest known fits small. part.again z rest known (from z known fits) small;
}

-- a whole record
pub part_law : {Z : Type 0} (spell other : Z → List ℕ) (Fits : Z → Type 0) (read : List ℕ → Read Z) → IsPart (λ _. ⊤) spell Fits read
    → ((z : Z) → spell z ≡ other z) → ((z : Z) → 1 ≤ length (other z)) → IsRead other Fits read
part_law spell other Fits read part same some = record {
  some = some;
  takes = λ bytes z rest fits e.
      let t = part.takes bytes z rest fits e in
      (subst (λ (s : List ℕ). Takes bytes s rest) (same z) t.0, t.1);
  again = λ z rest fits small.
      subst (λ (s : List ℕ). read (s ++ rest) ≡ Ok (z, rest)) (same z)
      (part.again z rest tt fits (subst (λ (s : List ℕ). length s < 2 ^ 32) (sym (same z)) small));
}

-- ---- values that may be missing

abbrev pub IfThere : {X : Type 0} → (X → Type 0) → Option X → Type 0
IfThere Fits None = ⊤
IfThere Fits (Some x) = Fits x

module _ {X : Type 0} (spell : X → List ℕ) (Fits : X → Type 0) (read : List ℕ → Read X) (law : IsRead spell Fits read) where
  opt_takes : (bytes : List ℕ) (o : Option X) (rest : List ℕ) → IsBytes bytes → opt_of read bytes ≡ Ok (o, rest) → Takes bytes (records.opt spell o) rest × IfThere Fits o
  unfolding opt_of
  opt_takes bytes o rest fits e =
      let b = bind_ok (flag_at bytes) (λ stands. cond stands.0 (read stands.1 >>= λ x. Ok (Some x.0, x.1)) (Ok (None, stands.1))) (o, rest) e in
      let one = (flag_law.takes bytes b.0.0 b.0.1 fits b.1).0 in
      elim (chosen b.0.0 (read b.0.1 >>= λ x. Ok (Some x.0, x.1)) (done (None, b.0.1)) (done (o, rest)) b.2) [
        | inl h ↦
            let c = bind_ok (read b.0.1) (λ x. done (Some x.0, x.1)) (o, rest) h.1 in
            let two = law.takes b.0.1 c.0.0 c.0.1 one.rest_fits c.1 in
            let flagged = subst (λ (f : Bool). Takes bytes (records.flag f) b.0.1) h.0 one in
            subst (λ (p : Option X × List ℕ). Takes bytes (records.opt spell p.0) p.1 × IfThere Fits p.0) (ok_is (Some c.0.0, c.0.1) (o, rest) c.2)
            (Takes-then bytes (1 ∷ []) b.0.1 (spell c.0.0) c.0.1 flagged two.0, two.1)
        | inr h ↦
            let flagged = subst (λ (f : Bool). Takes bytes (records.flag f) b.0.1) h.0 one in
            subst (λ (p : Option X × List ℕ). Takes bytes (records.opt spell p.0) p.1 × IfThere Fits p.0) (ok_is (None, b.0.1) (o, rest) h.1) (flagged, tt)
      ]

  opt_again : (o : Option X) (rest : List ℕ) → IfThere Fits o → length (records.opt spell o) < 2 ^ 32 → opt_of read (records.opt spell o ++ rest) ≡ Ok (o, rest)
  unfolding opt_of flag_at
  opt_again None rest fits small = refl
  opt_again (Some x) rest fits small = rw (law.again x rest fits (omega (arith, small))) refl

  opt_some : (o : Option X) → 1 ≤ length (records.opt spell o)
  opt_some None = omega arith
  opt_some (Some x) = omega arith

  pub opt_law : IsRead (records.opt spell) (IfThere Fits) (opt_of read)
  opt_law = record { some = opt_some; takes = opt_takes; again = opt_again }

-- ---- lists

-- each fits after those before it
abbrev pub Each : {X : Type 0} → (List X → X → Type 0) → List X → List X → Type 0
Each Fits front [] = ⊤
Each Fits front (x ∷ xs) = Fits front x × Each Fits (front ++ x ∷ []) xs

module _ {X : Type 0} (spell : X → List ℕ) (Fits : List X → X → Type 0) (read : List X → List ℕ → Read X) (law : (front : List X) → IsRead spell (Fits front) (read front)) where
  pub times_take : (n : ℕ) (front : List X) (bytes : List ℕ) (xs : List X) (rest : List ℕ) → IsBytes bytes → times_of read front n bytes ≡ Ok (xs, rest)
      → (more : List X) × (xs ≡ front ++ more) × (length more ≡ n) × Takes bytes (flat_map spell more) rest × Each Fits front more
  unfolding times_of
  times_take zero front bytes xs rest fits e =
      let is = ok_is (front, bytes) (xs, rest) e in (
        [],
        sym (ap (λ (p : List X × List ℕ). p.0) is) ∙ sym (append-nil front),
        refl,
        subst (λ (p : List X × List ℕ). Takes bytes [] p.1) is (record { parts = refl; rest_fits = fits }),
        tt,
      )
  times_take (suc n) front bytes xs rest fits e =
      let b = bind_ok (read front bytes) (λ x. times_of read (front ++ x.0 ∷ []) n x.1) (xs, rest) e in
      let one = (law front).takes bytes b.0.0 b.0.1 fits b.1 in
      let two = times_take n (front ++ b.0.0 ∷ []) b.0.1 xs rest one.0.rest_fits b.2 in (
        b.0.0 ∷ two.0,
        two.1 ∙ append_assoc front (b.0.0 ∷ []) two.0,
        ap suc two.2,
        subst (λ (t : List ℕ). Takes bytes t rest) (sym (flat_map-cons spell b.0.0 two.0)) (Takes-then bytes (spell b.0.0) b.0.1 (flat_map spell two.0) rest one.0 two.3),
        (one.1, two.4),
      )

  pub times_again : (front more : List X) (rest : List ℕ) → Each Fits front more → length (flat_map spell more) < 2 ^ 32
      → times_of read front (length more) (flat_map spell more ++ rest) ≡ Ok (front ++ more, rest)
  unfolding times_of
  times_again front [] rest fits small = ap (λ (xs : List X). Ok (xs, rest)) (sym (append-nil front))
  times_again front (x ∷ more) rest fits small =
      let cons = flat_map-cons spell x more in
      let len = ap length cons ∙ length-append (spell x) (flat_map spell more) in
      let one = (law front).again x (flat_map spell more ++ rest) fits.0 (omega (arith, len, small)) in
      let two = times_again (front ++ x ∷ []) more rest fits.1 (omega (arith, len, small)) in
      ap (times_of read front (suc (length more))) (ap (λ (t : List ℕ). t ++ rest) cons ∙ append_assoc (spell x) (flat_map spell more) rest)
      ∙ rw one two ∙ ap (λ (xs : List X). Ok (xs, rest)) (append_assoc front (x ∷ []) more)

  -- each takes a byte at least
  fewer : (front xs : List X) → length xs ≤ length (flat_map spell xs)
  fewer front [] = omega arith
  fewer front (x ∷ xs) = omega (arith, fewer front xs, (law front).some x, ap length (flat_map-cons spell x xs), length-append (spell x) (flat_map spell xs))

  list_takes : (bytes : List ℕ) (xs : List X) (rest : List ℕ) → IsBytes bytes → list_of read bytes ≡ Ok (xs, rest) → Takes bytes (records.list spell xs) rest × Each Fits [] xs
  unfolding list_of
  list_takes bytes xs rest fits e =
      let b = bind_ok (number_at w32 bytes) (λ n. times_of read [] n.0 n.1) (xs, rest) e in
      let one = number_takes w32 (2 ^ 32) wide32 bytes b.0.0 b.0.1 fits b.1 in
      let two = times_take b.0.0 [] b.0.1 xs rest one.0.rest_fits b.2 in
      let both = Takes-then bytes (to_be_bytes w32 b.0.0) b.0.1 (flat_map spell two.0) rest one.0 two.3 in
      let named = subst (λ (n : ℕ). Takes bytes (to_be_bytes w32 n ++ flat_map spell two.0) rest) (sym two.2) both in
      subst (λ (l : List X). Takes bytes (records.list spell l) rest × Each Fits [] l) (sym two.1) (named, two.4)

  list_again : (xs : List X) (rest : List ℕ) → Each Fits [] xs → length (records.list spell xs) < 2 ^ 32 → list_of read (records.list spell xs ++ rest) ≡ Ok (xs, rest)
  unfolding list_of
  list_again xs rest fits small =
      let len = length-append (to_be_bytes w32 (length xs)) (flat_map spell xs) in
      let count = number_again w32 (2 ^ 32) wide32 (length xs) (flat_map spell xs ++ rest) (omega (arith, fewer [] xs, len, small)) in
      ap (list_of read) (append_assoc (to_be_bytes w32 (length xs)) (flat_map spell xs) rest)
      ∙ rw count (times_again [] xs rest fits (omega (arith, len, small)))

  pub list_law : IsRead (records.list spell) (Each Fits []) (list_of read)
  list_law = record { some = λ xs. omega arith; takes = list_takes; again = list_again }
