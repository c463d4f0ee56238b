-- An encoded word (RFC 2047, section 2): `=?` charset `?` encoding `?` text `?=`.
use Rattle.std.specs.Prelude.{ℕ, ◌&&◌, ◌==◌, if◌then◌else◌, List, map, codes, Option, Some, None, option_map}
use Rattle.std.specs.List.{before_first}
use Rattle.kit.specs.declared.charset.Charset.{Charset}
use Rattle.kit.specs.Charsets.{charset_of, to_text}
use Rattle.kit.specs.Cuts.{split_once, strip_prefix}
use Rattle.kit.specs.Letters.{same_name}
use Rattle.kit.specs.Options.{◌>>=◌}
use Rattle.kit.specs.Printing.{is_printing, is_visible}
use Rattle.transfer_code.specs.Escapes.{unescaped}
use Rattle.transfer_code.specs.Base64.{decode_base64}
use Rattle.encoded_words.specs.declared.word.Coding.{Coding}
use Rattle.encoded_words.specs.declared.word.Coding.TheVariants.{Q, B}

-- a word, and the bytes after it
pub record Found : Type 0 where
  pub charset : Charset
  pub coding : Coding
  pub text : List ℕ
  pub rest : List ℕ

-- what precedes the first `?` (63), and what follows it
abbrev pub cut : List ℕ → Option (List ℕ × List ℕ)
cut bytes = split_once bytes 63

-- the name of a charset up to the `*` (42) before a language, if there is one (RFC 2231, section 5)
abbrev pub without_language : List ℕ → List ℕ
without_language name = before_first (λ b. b == 42) name

abbrev pub coding_of : List ℕ → Option Coding
coding_of name = if same_name name (codes "q") then Some Q else if same_name name (codes "b") then Some B else None

-- the word of these parts, if they are those of one
abbrev pub word_of : (charset coding text rest : List ℕ) → Option Found
word_of charset coding text rest =
    if is_visible charset && is_printing text
    then option_map (λ c. record { charset = charset_of (without_language charset); coding = c; text = text; rest = rest }) (coding_of coding)
    else None

-- the word that bytes begin with
abbrev pub word_at : List ℕ → Option Found
word_at bytes =
    strip_prefix bytes (codes "=?") >>= cut >>= λ charset. cut charset.1 >>= λ coding. cut coding.1 >>= λ text.
    strip_prefix text.1 (codes "=") >>= λ rest. word_of charset.0 coding.0 text.0 rest

-- in Q a `_` (95) is a space (32)
abbrev pub spaced : ℕ → ℕ
spaced b = if b == 95 then 32 else b

-- the bytes that the text of a word encodes (RFC 2047, section 4)
abbrev pub coded_bytes : Coding → List ℕ → List ℕ
coded_bytes Q text = unescaped (map spaced text)
coded_bytes B text = decode_base64 text

-- the text that a word encodes
abbrev pub word_text : Found → List ℕ
word_text w = to_text w.charset (coded_bytes w.coding w.text)
