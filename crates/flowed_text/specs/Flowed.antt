-- Flowed text (RFC 3676, section 4). A line is what precedes its LF or CR LF.
use Rattle.std.specs.Prelude.{ℕ, ◌-◌, Bool, true, false, not, ◌&&◌, ◌==◌, nat_eq, if◌then◌else◌, List, [], ◌∷◌, ◌++◌, length, take, drop, codes, map, replicate, bytes_eq, take_while}
use Rattle.std.specs.List.{prefix_len, starts_with, ends_with, join_with_byte}
use Rattle.kit.specs.Lines.{raw_lines, content}

-- the lines of a text
abbrev pub line_texts : List ℕ → List (List ℕ)
line_texts text = map content (raw_lines text)

-- lines with an LF (10) between each two
abbrev pub text_of : List (List ℕ) → List ℕ
text_of lines = join_with_byte 10 lines

-- ---- a line (sections 4.2 to 4.5)

-- a line at a depth of quotes
pub record Quoted : Type 0 where
  pub depth : ℕ
  pub text : List ℕ

-- the text after one space at its beginning, which is stuffing (section 4.4)
abbrev pub unstuffed : List ℕ → List ℕ
unstuffed text = if starts_with nat_eq text (codes " ") then drop 1 text else text

-- the depth of a line is the number of the quote marks, `>` (62), that it begins with (section 4.5)
abbrev pub quoted_line : List ℕ → Quoted
quoted_line line =
    let depth = prefix_len (λ b. b == 62) line in
    record { depth = depth; text = unstuffed (drop depth line) }

-- the line above a signature (section 4.3)
abbrev pub is_signature : List ℕ → Bool
is_signature text = bytes_eq text (codes "-- ")

-- a line that ends in a space runs on into the next one, unless it is the line above a signature (section 4.2)
abbrev pub is_soft : List ℕ → Bool
is_soft text = ends_with nat_eq text (codes " ") && not (is_signature text)

-- the text without one space at its end
abbrev pub unspaced : List ℕ → List ℕ
unspaced text = if ends_with nat_eq text (codes " ") then take (length text - 1) text else text

-- ---- the lines together

-- a soft line runs on into the next one, if that has its depth and is not the line above a signature
abbrev pub runs_on : Quoted → List Quoted → Bool
runs_on line [] = false
runs_on line (next ∷ more) = is_soft line.text && line.depth == next.depth && not (is_signature next.text)

-- a line, put before the joined lines that follow it: where it runs on, it takes in the first of them,
-- and its last space goes with DelSp (section 4.1)
abbrev pub put_line : Bool → Bool → Quoted → List Quoted → List Quoted
put_line delsp true line (next ∷ more) =
    record { depth = line.depth; text = (if delsp then unspaced line.text else line.text) ++ next.text } ∷ more
put_line delsp _ line more = line ∷ more

-- the lines, from the last to the first: whether a line runs on depends on the next one as it was
abbrev pub joined : Bool → List Quoted → List Quoted
joined delsp [] = []
joined delsp (line ∷ more) = put_line delsp (runs_on line more) line (joined delsp more)

-- the quote marks of a depth, and the space after them
abbrev pub marks : ℕ → List ℕ
marks depth = replicate depth 62 ++ (if depth == 0 then [] else 32 ∷ [])

-- the text of lines at their depths
abbrev pub written : List Quoted → List ℕ
written lines = text_of (map (λ line. marks line.depth ++ line.text) lines)

-- a flowed text with its soft lines joined
abbrev pub unflow : List ℕ → Bool → List ℕ
unflow text delsp = written (joined delsp (map quoted_line (line_texts text)))

-- ---- the signature (section 4.3)

-- the lines above the signature
abbrev pub user_text : List ℕ → List ℕ
user_text text = text_of (take_while (λ line. not (is_signature line)) (line_texts text))
