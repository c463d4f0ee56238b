-- The tokens of phrases and mailboxes as they are written.
use Rattle.std.proofs.Common.{◌≡◌, ℕ, ◌<◌, ◌==◌, Bool, true, false, not, ◌&&◌, ◌||◌, nat_le, List, [], ◌∷◌, ◌++◌, length, take, drop, refl, sym, ap, ◌∙◌, arith, inl, inr, append_assoc, take_at, drop_at, length-append}
use Rattle.std.specs.Prelude.{map}
use Rattle.std.specs.List.{list_all, position_or_len}
use Rattle.std.proofs.lemmas.Bool.{cases_Bool, and_parts, and_from, not-true, eqb-true, or_parts, or_cases, agree_below, agree_below_at}
use Rattle.std.specs.Char.{is_ascii_graphic}
use Rattle.mail_address.specs.Tokens.{Token, Atom, Quoted, Open, Close, tokens, ends_atom, quoted_len, unquoted}
use Rattle.mail_address.specs.States.{without_first}
use Rattle.mail_address.specs.Written.{Word, Bare, InQuotes, Mailbox, Alone, Named, is_atext, is_dotted, is_word, with_backslashes, written_word, written_addr, written_phrase, written_box, is_addr_spec, is_mailbox, AddrSpec}
use Rattle.mail_address.proofs.TokenLemmas.{tokens-atom, tokens-quoted}

-- whether an atom ends before these bytes
abbrev pub stops : List ℕ → Bool
stops [] = true
stops (b ∷ bs) = ends_atom b

abbrev continues : ℕ → Bool
continues b = not (ends_atom b)

atom_len : (text rest : List ℕ) → list_all continues text ≡ true → stops rest ≡ true → position_or_len ends_atom (text ++ rest) ≡ length text
atom_len [] [] all end = refl
atom_len [] (b ∷ bs) all end = rw end refl
atom_len (b ∷ text) rest all end =
    let parts = and_parts (continues b) (list_all continues text) all in
    rw parts.0 (omega (arith, atom_len text rest parts.1 end))

pub atom_tokens : (b : ℕ) (text rest : List ℕ) → list_all continues (b ∷ text) ≡ true → stops rest ≡ true
    → tokens (b ∷ (text ++ rest)) ≡ Atom (b ∷ text) ∷ tokens rest
atom_tokens b text rest all end =
    let bytes : List ℕ = b ∷ text in
    let first : ends_atom b ≡ false = not-true (ends_atom b) (and_parts (continues b) (list_all continues text) all).0 in
    tokens-atom (b ∷ (text ++ rest)) (omega arith) first
    ∙ ap (λ n. Atom (take n (bytes ++ rest)) ∷ tokens (drop n (bytes ++ rest))) (atom_len bytes rest all end)
    ∙ ap (λ (taken : List ℕ). Atom taken ∷ tokens (drop (length bytes) (bytes ++ rest))) (take_at bytes rest (length bytes) refl)
    ∙ ap (λ (after : List ℕ). Atom bytes ∷ tokens after) (drop_at bytes rest (length bytes) refl)

-- ---- bytes of atoms and dots

abbrev pub is_dot_byte : ℕ → Bool
is_dot_byte b = is_atext b || b == 46

graphic_below : (b : ℕ) → is_ascii_graphic b ≡ true → b < 128
graphic_below b h = grind arith

dot_byte_below : (b : ℕ) → is_dot_byte b ≡ true → b < 128
dot_byte_below b h =
    elim (or_cases (is_atext b) (b == 46) h) [
      | inl atext ↦ graphic_below b (and_parts (is_ascii_graphic b) _ atext).0
      | inr dot ↦ omega (arith, eqb-true b 46 dot)
    ]

-- what holds of each byte of atoms and dots, of which there are few, is computed
pub of_dot_byte : (test : ℕ → Bool) → agree_below (λ b. not (is_dot_byte b) || test b) (λ b. true) 128 ≡ true
    → (b : ℕ) → is_dot_byte b ≡ true → test b ≡ true
of_dot_byte test all b h =
    let here : (not (is_dot_byte b) || test b) ≡ true = agree_below_at (λ b. not (is_dot_byte b) || test b) (λ b. true) 128 b all (dot_byte_below b h) in
    rw h at here

dot_byte_continues : (b : ℕ) → is_dot_byte b ≡ true → continues b ≡ true
dot_byte_continues b h = of_dot_byte continues refl b h

all_continue : (bytes : List ℕ) → list_all is_dot_byte bytes ≡ true → list_all continues bytes ≡ true
all_continue [] all = refl
all_continue (b ∷ bs) all =
    let parts = and_parts (is_dot_byte b) (list_all is_dot_byte bs) all in
    and_from (continues b) (list_all continues bs) (dot_byte_continues b parts.0) (all_continue bs parts.1)

all_append : (xs ys : List ℕ) → list_all continues xs ≡ true → list_all continues ys ≡ true → list_all continues (xs ++ ys) ≡ true
all_append [] ys first second = second
all_append (x ∷ xs) ys first second =
    let parts = and_parts (continues x) (list_all continues xs) first in
    and_from (continues x) (list_all continues (xs ++ ys)) parts.0 (all_append xs ys parts.1 second)

-- ---- quoted strings

quoted_len-with_backslashes : (text rest : List ℕ) → quoted_len false (with_backslashes text ++ (34 ∷ rest)) ≡ length (with_backslashes text)
quoted_len-with_backslashes [] rest = refl
quoted_len-with_backslashes (b ∷ bs) rest = elim (cases_Bool (b == 34 || b == 92)) [
  | inl marked ↦ rw marked (omega (arith, quoted_len-with_backslashes bs rest))
  | inr plain ↦ (
      let other = or_parts (b == 34) (b == 92) plain in
      rw (plain, other.0, other.1) (omega (arith, quoted_len-with_backslashes bs rest)))
]

unquoted-with_backslashes : (text : List ℕ) → unquoted false (with_backslashes text) ≡ text
unquoted-with_backslashes [] = refl
unquoted-with_backslashes (b ∷ bs) = elim (cases_Bool (b == 34 || b == 92)) [
  | inl marked ↦ rw marked (ap (λ (xs : List ℕ). b ∷ xs) (unquoted-with_backslashes bs))
  | inr plain ↦ (
      let other = or_parts (b == 34) (b == 92) plain in
      rw (plain, other.1) (ap (λ (xs : List ℕ). b ∷ xs) (unquoted-with_backslashes bs)))
]

quoted_tokens : (text rest : List ℕ) → tokens (34 ∷ (with_backslashes text ++ (34 ∷ rest))) ≡ Quoted text ∷ tokens rest
quoted_tokens text rest =
    let bytes = with_backslashes text ++ (34 ∷ rest) in
    tokens-quoted bytes
    ∙ ap (λ n. Quoted (unquoted false (take n bytes)) ∷ tokens (without_first (drop n bytes))) (quoted_len-with_backslashes text rest)
    ∙ ap (λ inside. Quoted (unquoted false inside) ∷ tokens (without_first (drop (length (with_backslashes text)) bytes))) (take_at (with_backslashes text) (34 ∷ rest) (length (with_backslashes text)) refl)
    ∙ ap (λ inside. Quoted inside ∷ tokens (without_first (drop (length (with_backslashes text)) bytes))) (unquoted-with_backslashes text)
    ∙ ap (λ after. Quoted text ∷ tokens (without_first after)) (drop_at (with_backslashes text) (34 ∷ rest) (length (with_backslashes text)) refl)

-- ---- mailboxes

abbrev pub word_token : Word → Token
word_token (Bare text) = Atom text
word_token (InQuotes text) = Quoted text

dotted_tokens : (text rest : List ℕ) → is_dotted text ≡ true → stops rest ≡ true → tokens (text ++ rest) ≡ Atom text ∷ tokens rest
dotted_tokens [] rest is end = absurd cc
dotted_tokens (b ∷ text) rest is end =
    atom_tokens b text rest (all_continue (b ∷ text) (and_parts (nat_le 1 (length (b ∷ text))) (list_all is_dot_byte (b ∷ text)) is).1) end

word_tokens : (w : Word) (rest : List ℕ) → is_word w ≡ true → tokens ((written_word w ++ (32 ∷ [])) ++ rest) ≡ word_token w ∷ tokens rest
word_tokens (Bare text) rest is = ap tokens (append_assoc text (32 ∷ []) rest) ∙ dotted_tokens text (32 ∷ rest) is refl
word_tokens (InQuotes text) rest is =
    ap tokens (append_assoc (34 ∷ (with_backslashes text ++ (34 ∷ []))) (32 ∷ []) rest ∙ ap (λ (xs : List ℕ). 34 ∷ xs) (append_assoc (with_backslashes text) (34 ∷ []) (32 ∷ rest)))
    ∙ quoted_tokens text (32 ∷ rest)

pub phrase_tokens : (words : List Word) (rest : List ℕ) → list_all is_word words ≡ true
    → tokens (written_phrase words ++ rest) ≡ map word_token words ++ tokens rest
phrase_tokens [] rest all = refl
phrase_tokens (w ∷ ws) rest all =
    let parts = and_parts (is_word w) (list_all is_word ws) all in
    ap tokens (append_assoc (written_word w ++ (32 ∷ [])) (written_phrase ws) rest)
    ∙ word_tokens w (written_phrase ws ++ rest) parts.0
    ∙ ap (λ (ts : List Token). word_token w ∷ ts) (phrase_tokens ws rest parts.1)

addr_continues : (a : AddrSpec) → is_addr_spec a ≡ true → list_all continues (written_addr a) ≡ true
addr_continues a is =
    let parts = and_parts (is_dotted a.local && is_dotted a.domain) (nat_le (length (written_addr a)) 254) is in
    let dotted = and_parts (is_dotted a.local) (is_dotted a.domain) parts.0 in
    let local = all_continue a.local (and_parts (nat_le 1 (length a.local)) (list_all is_dot_byte a.local) dotted.0).1 in
    let domain = all_continue a.domain (and_parts (nat_le 1 (length a.domain)) (list_all is_dot_byte a.domain) dotted.1).1 in
    all_append a.local (64 ∷ a.domain) local domain

-- bytes that end no atom, at least one of them
run_tokens : (text rest : List ℕ) → 0 < length text → list_all continues text ≡ true → stops rest ≡ true
    → tokens (text ++ rest) ≡ Atom text ∷ tokens rest
run_tokens [] rest some all end = absurd (omega arith)
run_tokens (b ∷ text) rest some all end = atom_tokens b text rest all end

pub addr_tokens : (a : AddrSpec) (rest : List ℕ) → is_addr_spec a ≡ true → stops rest ≡ true
    → tokens (written_addr a ++ rest) ≡ Atom (written_addr a) ∷ tokens rest
addr_tokens a rest is end =
    run_tokens (written_addr a) rest (omega (arith, length-append a.local (64 ∷ a.domain))) (addr_continues a is) end

abbrev pub box_tokens : Mailbox → List Token
box_tokens (Alone addr) = Atom (written_addr addr) ∷ []
box_tokens (Named phrase addr) = map word_token phrase ++ (Open ∷ Atom (written_addr addr) ∷ Close ∷ [])

pub tokens-box : (m : Mailbox) (rest : List ℕ) → is_mailbox m ≡ true → stops rest ≡ true
    → tokens (written_box m ++ rest) ≡ box_tokens m ++ tokens rest
tokens-box (Alone addr) rest is end = addr_tokens addr rest is end
tokens-box (Named phrase addr) rest is end =
    let parts = and_parts (list_all is_word phrase) (is_addr_spec addr) is in
    let after = written_addr addr ++ (62 ∷ rest) in
    let at_end : (written_addr addr ++ (62 ∷ [])) ++ rest ≡ after = append_assoc (written_addr addr) (62 ∷ []) rest in
    ap tokens (append_assoc (written_phrase phrase) (60 ∷ (written_addr addr ++ (62 ∷ []))) rest)
    ∙ ap (λ (bs : List ℕ). tokens (written_phrase phrase ++ (60 ∷ bs))) at_end
    ∙ phrase_tokens phrase (60 ∷ after) parts.0
    ∙ ap (λ (ts : List Token). map word_token phrase ++ (Open ∷ ts)) (addr_tokens addr (62 ∷ rest) parts.1 refl)
    ∙ sym (append_assoc (map word_token phrase) (Open ∷ Atom (written_addr addr) ∷ Close ∷ []) (tokens rest))
