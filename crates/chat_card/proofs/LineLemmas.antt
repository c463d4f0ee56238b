-- The words of a text in one line, which is made character by character.
use Rattle.std.proofs.Common.{◌≡◌, ℕ, Bool, true, false, List, [], ◌∷◌, ◌++◌, length, refl, sym, ap, ◌∙◌, append-nil, append_assoc, arith}
use Rattle.std.specs.Prelude.{◌&&◌, chars, codes, cond, encode_utf8_all, filter, flat_map, if◌then◌else◌}
use Rattle.std.specs.List.{join_by, onto_first, slice_split}
use Rattle.std.specs.Str.{IsUtf8}
use Rattle.std.proofs.lemmas.Bool.{lt-ltb}
use Rattle.std.proofs.lemmas.List.{length-append}
use Rattle.std.proofs.lemmas.Str.{chars-nil, chars_from_encodes, encodes-append, encodes-chars}
use Rattle.card_type.specs.Kinds.{has_some}
use Rattle.chat_card.specs.Reactions.{one_line, words}
use Rattle.chat_card.specs.Texts.{is_space}
use lib.Utf8.{encode}

-- what of these characters is put after a line, which has some or none, where the next of them begins a word or is in one
abbrev pub onward : (some begins : Bool) → List ℕ → List ℕ
onward some begins [] = []
onward some begins (c ∷ cs) =
    if is_space c then onward some true cs
    else (if begins && some then 32 ∷ c ∷ [] else c ∷ []) ++ onward true false cs

-- ---- the words

-- words, each after a space
abbrev spaced : List (List ℕ) → List ℕ
spaced ws = flat_map (λ w. codes " " ++ w) ws

-- a word, and then the others that are not empty
abbrev resumed : List (List ℕ) → List ℕ
resumed [] = []
resumed (w ∷ ws) = w ++ spaced (filter has_some ws)

abbrev parts : List ℕ → List (List ℕ)
parts cs = slice_split is_space cs

some_cons : {T : Type 0} (x : T) (xs : List T) → has_some (x ∷ xs) ≡ true
some_cons x xs = lt-ltb 0 (length (x ∷ xs)) (omega arith)

-- a character before the first part is one of its word
resumed_onto : (c : ℕ) (ws : List (List ℕ)) → resumed (onto_first c ws) ≡ c ∷ resumed ws
resumed_onto c [] = refl
resumed_onto c (w ∷ ws) = refl

spaced_onto : (c : ℕ) (ws : List (List ℕ)) → spaced (filter has_some (onto_first c ws)) ≡ 32 ∷ c ∷ resumed ws
spaced_onto c [] = refl
spaced_onto c (w ∷ ws) = rw (some_cons c w) refl

joined_onto : (c : ℕ) (ws : List (List ℕ)) → join_by (λ w. w) (codes " ") (filter has_some (onto_first c ws)) ≡ c ∷ resumed ws
joined_onto c [] = refl
joined_onto c (w ∷ ws) = rw (some_cons c w) refl

-- where a word is begun after others, and where one goes on
record Goes (cs : List ℕ) : Type 0 where
  pub next : onward true true cs ≡ spaced (words cs)
  pub same : onward true false cs ≡ resumed (parts cs)

goes : (cs : List ℕ) → Goes cs
goes [] = record { next = refl; same = refl }
goes (c ∷ cs) = record { next = next (is_space c) (goes cs); same = same (is_space c) (goes cs) }
  where
    next : (b : Bool) → Goes cs → (if b then onward true true cs else 32 ∷ c ∷ onward true false cs)
        ≡ spaced (filter has_some (cond b ([] ∷ parts cs) (onto_first c (parts cs))))
    next true more = more.next
    next false more = ap (λ ds. 32 ∷ c ∷ ds) more.same ∙ sym (spaced_onto c (parts cs))

    same : (b : Bool) → Goes cs → (if b then onward true true cs else c ∷ onward true false cs) ≡ resumed (cond b ([] ∷ parts cs) (onto_first c (parts cs)))
    same true more = more.next
    same false more = ap (λ ds. c ∷ ds) more.same ∙ sym (resumed_onto c (parts cs))

-- from an empty line on
begins_so : (cs : List ℕ) → onward false true cs ≡ join_by (λ w. w) (codes " ") (words cs)
begins_so [] = refl
begins_so (c ∷ cs) = by (is_space c) (begins_so cs)
  where
    by : (b : Bool) → onward false true cs ≡ join_by (λ w. w) (codes " ") (words cs)
        → (if b then onward false true cs else c ∷ onward true false cs)
        ≡ join_by (λ w. w) (codes " ") (filter has_some (cond b ([] ∷ parts cs) (onto_first c (parts cs))))
    by true more = more
    by false more = ap (λ ds. c ∷ ds) (goes cs).same ∙ sym (joined_onto c (parts cs))

-- ---- a line of which some is made

-- whatever characters come, the line is the one of all
abbrev pub IsOnTheWay : (line : List ℕ) (begins : Bool) (read : List ℕ) → Type 0
IsOnTheWay line begins read = (ds : List ℕ) → chars line ++ onward (has_some line) begins ds ≡ onward false true (read ++ ds)

-- a space
pub spaced_more : (line read : List ℕ) (begins : Bool) (c : ℕ) → is_space c ≡ true → IsOnTheWay line begins read → IsOnTheWay line true (read ++ c ∷ [])
spaced_more line read begins c space way ds =
    sym (ap (λ b. chars line ++ (if b then onward (has_some line) true ds else (if begins && has_some line then 32 ∷ c ∷ [] else c ∷ []) ++ onward true false ds)) space)
    ∙ way (c ∷ ds) ∙ ap (onward false true) (sym (append_assoc read (c ∷ []) ds))

-- a line that ends in a character has some
some_chars : (line cs : List ℕ) (c : ℕ) → chars line ≡ cs ++ c ∷ [] → has_some line ≡ true
some_chars [] cs c is = absurd (let none : ⊥ = omega (arith, ap length is, ap length chars-nil, length-append cs (c ∷ [])) in none)
some_chars (b ∷ line) cs c is = some_cons b line

some_put : (line cs : List ℕ) (b : Bool) (c : ℕ) → chars line ≡ cs ++ (if b then 32 ∷ c ∷ [] else c ∷ []) → has_some line ≡ true
some_put line cs true c is = some_chars line (cs ++ 32 ∷ []) c (is ∙ sym (append_assoc cs (32 ∷ []) (c ∷ [])))
some_put line cs false c is = some_chars line cs c is

-- another character
pub word_more : (line new read : List ℕ) (begins : Bool) (c : ℕ) → is_space c ≡ false
    → chars new ≡ chars line ++ (if begins && has_some line then 32 ∷ c ∷ [] else c ∷ [])
    → IsOnTheWay line begins read → IsOnTheWay new false (read ++ c ∷ [])
word_more line new read begins c other is way ds =
    let put = if begins && has_some line then 32 ∷ c ∷ [] else c ∷ [] in
    ap (λ b. chars new ++ onward b false ds) (some_put new (chars line) (begins && has_some line) c is)
    ∙ ap (λ cs. cs ++ onward true false ds) is
    ∙ append_assoc (chars line) put (onward true false ds)
    ∙ sym (ap (λ b. chars line ++ (if b then onward (has_some line) true ds else put ++ onward true false ds)) other)
    ∙ way (c ∷ ds) ∙ ap (onward false true) (sym (append_assoc read (c ∷ []) ds))

-- no character is left
pub line_made : (line text : List ℕ) (begins : Bool) → IsUtf8 line → IsOnTheWay line begins (chars text) → line ≡ one_line text
line_made line text begins utf8 way =
    sym (encodes-chars line utf8)
    ∙ ap encode_utf8_all (sym (append-nil (chars line)) ∙ way [] ∙ ap (onward false true) (append-nil (chars text)) ∙ begins_so (chars text))

-- ---- a character is put after a line

pub chars_more : (old new : List ℕ) (c : ℕ) → IsUtf8 old → IsUtf8 new → new ≡ old ++ encode c → chars new ≡ chars old ++ c ∷ []
chars_more old new c before after is =
    sym (chars_from_encodes (chars old ++ c ∷ []) new after
    (encodes-append (chars old) (c ∷ []) ∙ ap (λ bs. encode_utf8_all (chars old) ++ bs) (append-nil (encode c)) ∙ ap (λ bs. bs ++ encode c) (encodes-chars old before) ∙ sym is))

-- with a space before it, or without one
pub put_spaced : (old mid new : List ℕ) (begins : Bool) (c : ℕ) → IsUtf8 old → IsUtf8 mid → IsUtf8 new
    → begins ≡ true → has_some old ≡ true → mid ≡ old ++ encode 32 → new ≡ mid ++ encode c
    → chars new ≡ chars old ++ (if begins && has_some old then 32 ∷ c ∷ [] else c ∷ [])
put_spaced old mid new begins c u v w begun some gap put =
    rw (begun, some) (chars_more mid new c v w put ∙ ap (λ cs. cs ++ c ∷ []) (chars_more old mid 32 u v gap) ∙ append_assoc (chars old) (32 ∷ []) (c ∷ []))

pub put_alone : (old new : List ℕ) (further : Bool) (c : ℕ) → IsUtf8 old → IsUtf8 new → further ≡ false → new ≡ old ++ encode c
    → chars new ≡ chars old ++ (if further then 32 ∷ c ∷ [] else c ∷ [])
put_alone old new further c u v alone put = rw alone (chars_more old new c u v put)
