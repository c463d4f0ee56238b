-- A text is in one line where each space of it follows a word, and a word follows each.
use Rattle.std.proofs.Common.{◌≡◌, ℕ, suc, ◌<◌, ◌≤◌, ◌==◌, Bool, true, false, not, ◌&&◌, ◌||◌, cond, List, [], ◌∷◌, ◌++◌, length, drop, get_or, refl, sym, ap, ◌∙◌, append-nil, arith}
use Rattle.std.specs.Prelude.{bytes_eq, chars, codes, encode_utf8_all, filter, flat_map}
use Rattle.std.specs.Bool.{Decides}
use Rattle.std.specs.List.{join_by, onto_first, slice_split}
use Rattle.std.specs.Str.{IsUtf8}
use Rattle.std.proofs.lemmas.Bool.{and_from, and_parts, eq-eqb, eqb-true, lt-ltb}
use Rattle.std.proofs.lemmas.Bool.Decides.{same_from_decides}
use Rattle.std.proofs.lemmas.Slice.Eq.{bytes_eq-Decides}
use Rattle.std.proofs.lemmas.Str.{chars-nil, chars_from_encodes, encodes-chars}
use Rattle.card_type.specs.Kinds.{has_some}
use Rattle.chat_card.specs.Reactions.{one_line}
use Rattle.chat_card.specs.Texts.{is_space}

-- whether a character, which is a space or not, may follow where a word begins or goes on
abbrev pub may_follow : (space begins : Bool) → ℕ → Bool
may_follow space begins c = not space || (not begins && c == 32)

-- whether all of these may, and the last of them is in a word
abbrev pub follows : Bool → List ℕ → Bool
follows begins [] = not begins
follows begins (c ∷ cs) = may_follow (is_space c) begins c && follows (is_space c) cs

-- ---- the words

abbrev joined : List (List ℕ) → List ℕ
joined ws = join_by (λ w. w) (codes " ") (filter has_some ws)

-- words, each after a space
abbrev spaced : List (List ℕ) → List ℕ
spaced ws = flat_map (λ w. codes " " ++ w) (filter has_some ws)

-- a word, and then the others that are not empty
abbrev resumed : List (List ℕ) → List ℕ
resumed [] = []
resumed (w ∷ ws) = w ++ spaced ws

abbrev parts : List ℕ → List (List ℕ)
parts cs = slice_split is_space cs

-- the parts of characters, the first of which is a space or not
abbrev parts_by : Bool → ℕ → List ℕ → List (List ℕ)
parts_by space c cs = cond space ([] ∷ parts cs) (onto_first c (parts cs))

some_cons : (x : ℕ) (xs : List ℕ) → has_some (x ∷ xs) ≡ true
some_cons x xs = lt-ltb 0 (length (x ∷ xs)) (omega arith)

resumed_onto : (c : ℕ) (ws : List (List ℕ)) → resumed (onto_first c ws) ≡ c ∷ resumed ws
resumed_onto c [] = refl
resumed_onto c (w ∷ ws) = refl

spaced_onto : (c : ℕ) (ws : List (List ℕ)) → spaced (onto_first c ws) ≡ 32 ∷ c ∷ resumed ws
spaced_onto c [] = refl
spaced_onto c (w ∷ ws) = rw (some_cons c w) refl

joined_onto : (c : ℕ) (ws : List (List ℕ)) → joined (onto_first c ws) ≡ c ∷ resumed ws
joined_onto c [] = refl
joined_onto c (w ∷ ws) = rw (some_cons c w) refl

-- ---- characters in a word, and after a space

-- the words are no longer than the characters, and are those exactly where each may follow
record Stands (cs : List ℕ) (ps : List (List ℕ)) (within after : Bool) : Type 0 where
  within_len : length (resumed ps) ≤ length cs
  after_len : length (spaced ps) ≤ suc (length cs)
  within_same : within ≡ true → resumed ps ≡ cs
  after_same : after ≡ true → spaced ps ≡ 32 ∷ cs
  within_may : resumed ps ≡ cs → within ≡ true
  after_may : (c : ℕ) → spaced ps ≡ c ∷ cs → (c ≡ 32) × (after ≡ true)

abbrev Stand : List ℕ → Type 0
Stand cs = Stands cs (parts cs) (follows false cs) (follows true cs)

next : (space : Bool) (c : ℕ) (cs : List ℕ) → Stand cs → Stands (c ∷ cs) (parts_by space c cs) (may_follow space false c && follows space cs) (may_follow space true c && follows space cs)
next true c cs more = record {
  within_len = more.after_len;
  after_len = omega (arith, more.after_len);
  within_same = λ h. let both = and_parts (c == 32) (follows true cs) h in more.after_same both.1 ∙ ap (λ d. d ∷ cs) (sym (eqb-true c 32 both.0));
  after_same = λ h. absurd cc;
  within_may = λ e. let both = more.after_may c e in and_from (c == 32) (follows true cs) (eq-eqb c 32 both.0) both.1;
  after_may = λ d e. absurd (let none : ⊥ = omega (arith, more.after_len, ap length e) in none);
}
next false c cs more = record {
  within_len = omega (arith, more.within_len, ap length (resumed_onto c (parts cs)));
  after_len = omega (arith, more.within_len, ap length (spaced_onto c (parts cs)));
  within_same = λ h. resumed_onto c (parts cs) ∙ ap (λ ds. c ∷ ds) (more.within_same h);
  after_same = λ h. spaced_onto c (parts cs) ∙ ap (λ ds. 32 ∷ c ∷ ds) (more.within_same h);
  within_may = λ e. more.within_may (ap (drop 1) (sym (resumed_onto c (parts cs)) ∙ e));
  after_may = λ d e. let is = sym (spaced_onto c (parts cs)) ∙ e in (sym (ap (λ xs. get_or xs 0 0) is), more.within_may (ap (drop 2) is));
}

stand : (cs : List ℕ) → Stand cs
stand [] = record {
  within_len = omega arith;
  after_len = omega arith;
  within_same = λ h. refl;
  after_same = λ h. absurd cc;
  within_may = λ e. refl;
  after_may = λ c e. absurd cc;
}
stand (c ∷ cs) = next (is_space c) c cs (stand cs)

-- ---- the whole line

joined_len : (cs : List ℕ) → length (joined (parts cs)) ≤ length cs
joined_len [] = omega arith
joined_len (c ∷ cs) = by (is_space c) (joined_len cs) (stand cs).within_len
  where
    by : (space : Bool) → length (joined (parts cs)) ≤ length cs → length (resumed (parts cs)) ≤ length cs → length (joined (parts_by space c cs)) ≤ suc (length cs)
    by true less within = omega (arith, less)
    by false less within = omega (arith, within, ap length (joined_onto c (parts cs)))

line_decides : (c : ℕ) (cs : List ℕ) → Decides (follows true (c ∷ cs)) (joined (parts (c ∷ cs)) ≡ c ∷ cs)
line_decides c cs = by (is_space c) (stand cs)
  where
    by : (space : Bool) → Stand cs → Decides (may_follow space true c && follows space cs) (joined (parts_by space c cs) ≡ c ∷ cs)
    by true more = (λ h. absurd cc, λ e. absurd (let none : ⊥ = omega (arith, joined_len cs, ap length e) in none))
    by false more = (
      λ h. joined_onto c (parts cs) ∙ ap (λ ds. c ∷ ds) (more.within_same h),
      λ e. more.within_may (ap (drop 1) (sym (joined_onto c (parts cs)) ∙ e)),
    )

-- of a text that is not empty
text_decides : (text cs : List ℕ) → IsUtf8 text → chars text ≡ cs → 0 < length text → Decides (follows true cs) (joined (parts cs) ≡ cs)
text_decides text [] u is some = absurd (let none : ⊥ = omega (arith, some, ap length (sym (encodes-chars text u) ∙ ap encode_utf8_all is)) in none)
text_decides text (c ∷ cs) u is some = line_decides c cs

pub in_one_line : (text : List ℕ) → IsUtf8 text → 0 < length text → follows true (chars text) ≡ bytes_eq (one_line text) text
in_one_line text u some =
    let cs = chars text in
    let each = text_decides text cs u refl some in
    let line : Decides (follows true cs) (one_line text ≡ text) = (
      λ h. ap encode_utf8_all (each.0 h) ∙ encodes-chars text u,
      λ e. each.1 (chars_from_encodes (joined (parts cs)) text u e),
    ) in
    same_from_decides (follows true cs) (bytes_eq (one_line text) text) line (bytes_eq-Decides (one_line text) text)

-- ---- a line of which some is read

-- whatever characters come, they may follow where all may
abbrev pub IsOnTheWay : (follow begins : Bool) (read : List ℕ) → Type 0
IsOnTheWay follow begins read = (ds : List ℕ) → (follow && follows begins ds) ≡ follows true (read ++ ds)

pub line_read : (text read : List ℕ) (follow begins : Bool) → IsUtf8 text → 0 < length text → read ≡ chars text → IsOnTheWay follow begins read
    → (follow && not begins) ≡ bytes_eq (one_line text) text
line_read text read follow begins u some all way = way [] ∙ ap (follows true) (append-nil read ∙ all) ∙ in_one_line text u some

pub empty_line : (text : List ℕ) → length text ≡ 0 → true ≡ bytes_eq (one_line text) text
empty_line [] none = ap (λ cs. bytes_eq (encode_utf8_all (joined (parts cs))) []) (sym chars-nil)
empty_line (b ∷ bs) none = absurd (let some : ⊥ = omega (arith, none) in some)
