-- The words in bytes and the plain runs between them, and how they are rewritten to a text (RFC 2047, section 6).
use Rattle.std.specs.Prelude.{ℕ, zero, suc, ◌-◌, Bool, true, false, ◌&&◌, if◌then◌else◌, List, [], ◌∷◌, ◌++◌, length, Option, Some, None, option_map, unwrap_or}
use Rattle.kit.specs.declared.charset.Charset.TheVariants.{Utf8}
use Rattle.kit.specs.Charsets.{to_text}
use Rattle.kit.specs.White.{is_blank}
use Rattle.encoded_words.specs.Words.{Found, word_at, word_text}

-- a plain run, and the word and the runs after it, if there are any
pub data Runs : Type 0 where
  Last : (plain : List ℕ) → Runs
  Next : (plain : List ℕ) (word : Found) (more : Runs) → Runs

-- a byte put before runs is of their first plain run
abbrev pub put_before : ℕ → Runs → Runs
put_before b (Last s) = Last (b ∷ s)
put_before b (Next s w ps) = Next (b ∷ s) w ps

-- the run that begins at a byte: a word, if there is one, else the byte itself
abbrev pub begun : Option Found → ℕ → Runs → Runs
begun (Some w) b ps = Next [] w ps
begun None b ps = put_before b ps

-- how many bytes a word takes after its first one
abbrev pub taken_by : Option Found → List ℕ → ℕ
taken_by found bs = unwrap_or (option_map (λ w. length bs - length w.rest) found) 0

-- The words are found from the left. The number says how many bytes the word before still takes.
abbrev pub runs_after : ℕ → List ℕ → Runs
runs_after taken [] = Last []
runs_after (suc k) (b ∷ bs) = runs_after k bs
runs_after zero (b ∷ bs) =
    let found = word_at (b ∷ bs) in
    begun found b (runs_after (taken_by found bs) bs)

abbrev pub runs : List ℕ → Runs
runs bytes = runs_after 0 bytes

-- white space alone between two words is dropped: the flag says whether a word precedes the plain run
abbrev pub kept : Bool → List ℕ → List ℕ
kept after_word plain = if after_word && is_blank plain then [] else plain

abbrev pub rewritten : Bool → Runs → Runs
rewritten after_word (Last s) = Last s
rewritten after_word (Next s w ps) = Next (kept after_word s) w (rewritten true ps)

-- the runs in a row: a plain run is read as UTF-8, and each word by itself
abbrev pub text_of : Runs → List ℕ
text_of (Last s) = to_text Utf8 s
text_of (Next s w ps) = to_text Utf8 s ++ word_text w ++ text_of ps

-- the text of bytes with encoded words
abbrev pub decode_words : List ℕ → List ℕ
decode_words bytes = text_of (rewritten false (runs bytes))
