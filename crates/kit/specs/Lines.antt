-- Lines (RFC 5322, section 2.1). A mailbox ends them by LF alone, too (RFC 4155, appendix A).
-- A raw line has the bytes that end it, so the raw lines put together are the bytes again.
use Rattle.std.specs.Prelude.{ℕ, ◌+◌, ◌-◌, ◌≤◌, ◌==◌, nat_eq, if◌then◌else◌, List, [], ◌∷◌, length, take, codes}
use Rattle.std.specs.List.{ends_with}
use Rattle.kit.specs.declared.line.Line.{Line}

-- a byte put before raw lines: an LF (10) is a line of its own, and any other byte begins the first one
abbrev pub put_before : ℕ → List (List ℕ) → List (List ℕ)
put_before b [] = (b ∷ []) ∷ []
put_before b (l ∷ ls) = if b == 10 then (b ∷ []) ∷ l ∷ ls else (b ∷ l) ∷ ls

-- the bytes, cut after each LF
abbrev pub raw_lines : List ℕ → List (List ℕ)
raw_lines [] = []
raw_lines (b ∷ bs) = put_before b (raw_lines bs)

-- how many bytes end a raw line: CR LF, or LF, or none where the bytes end without
abbrev pub ending_len : List ℕ → ℕ
ending_len raw = if ends_with nat_eq raw (codes "\r\n") then 2 else if ends_with nat_eq raw (codes "\n") then 1 else 0

-- a raw line without the bytes that end it
abbrev pub content : List ℕ → List ℕ
content raw = take (length raw - ending_len raw) raw

-- where the content of a raw line that begins at an offset ends, and where the next line begins
abbrev pub line_at : ℕ → List ℕ → Line
line_at at raw = record { start = at; end = at + length (content raw); next = at + length raw }

-- where raw lines are, of which the first begins at an offset
abbrev pub placed : ℕ → List (List ℕ) → List Line
placed at [] = []
placed at (l ∷ ls) = line_at at l ∷ placed (at + length l) ls

-- the lines of bytes
abbrev pub lines : List ℕ → List Line
lines bytes = placed 0 (raw_lines bytes)

-- where a line is, in bytes of which there are so many
pub record IsLineWithin (len : ℕ) (line : Line) : Type 0 where
  pub content : line.start ≤ line.end
  pub ending : line.end ≤ line.next
  pub bytes : line.next ≤ len
