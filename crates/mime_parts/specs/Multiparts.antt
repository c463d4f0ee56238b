-- The body of a multipart, cut at its delimiter lines (RFC 2046, section 5.1.1).
use Rattle.std.specs.Prelude.{ℕ, Bool, ◌+◌, ◌-◌, ◌&&◌, ◌||◌, nat_eq, true, false, if◌then◌else◌, List, [], ◌∷◌, ◌++◌, length, take, drop, codes, flat_map, All, IsTrue, ◌≡◌}
use Rattle.std.specs.List.{concat, starts_with}
use Rattle.kit.specs.Lines.{content, ending_len, raw_lines}
use Rattle.kit.specs.White.{is_blank}
use Rattle.mime_parts.specs.declared.multipart.Span.{Span}

-- whether a line is this text, with nothing but white space after it
abbrev pub is_only : List ℕ → List ℕ → Bool
is_only text line = starts_with nat_eq line text && is_blank (drop (length text) line)

-- the text of a delimiter line
abbrev pub delimiter_text : List ℕ → List ℕ
delimiter_text boundary = codes "--" ++ boundary

-- the text of the line that ends the last part
abbrev pub closing_text : List ℕ → List ℕ
closing_text boundary = delimiter_text boundary ++ codes "--"

abbrev pub is_delimiter : List ℕ → List ℕ → Bool
is_delimiter boundary raw = is_only (delimiter_text boundary) (content raw)

abbrev pub is_closing : List ℕ → List ℕ → Bool
is_closing boundary raw = is_only (closing_text boundary) (content raw)

-- a delimiter line, and the lines up to the next one (section 5.1.1 has an encapsulation for each part after the first)
pub record Encapsulation : Type 0 where
  pub delimiter : List ℕ
  pub lines : List (List ℕ)

abbrev pub encapsulation_bytes : Encapsulation → List ℕ
encapsulation_bytes s = s.delimiter ++ concat s.lines

-- Lines that are cut at their delimiter lines: those before the first one, the encapsulations, and those from the
-- closing one on.
pub record Cut : Type 0 where
  pub preamble : List (List ℕ)
  pub encapsulations : List Encapsulation
  pub epilogue : List (List ℕ)

abbrev pub cut : List ℕ → List (List ℕ) → Cut
cut boundary [] = record { preamble = []; encapsulations = []; epilogue = [] }
cut boundary (l ∷ ls) =
    let more = cut boundary ls in
    if is_closing boundary l then record { preamble = []; encapsulations = []; epilogue = l ∷ ls }
    else if is_delimiter boundary l
    then record { preamble = []; encapsulations = record { delimiter = l; lines = more.preamble } ∷ more.encapsulations; epilogue = more.epilogue }
    else record { preamble = l ∷ more.preamble; encapsulations = more.encapsulations; epilogue = more.epilogue }

-- lines put together, without the end of the last one
abbrev pub joined : List (List ℕ) → List ℕ
joined [] = []
joined (l ∷ []) = content l
joined (l ∷ m ∷ ms) = l ++ joined (m ∷ ms)

-- the bytes of the part in a section: the line end before a delimiter line belongs to that
abbrev pub text_of : (followed : Bool) → List (List ℕ) → List ℕ
text_of followed lines = if followed then joined lines else concat lines

abbrev pub span_at : (followed : Bool) → ℕ → List (List ℕ) → Span
span_at followed at lines = record { start = at; end = at + length (text_of followed lines) }

abbrev pub is_any : {A : Type 0} → List A → Bool
is_any [] = false
is_any (x ∷ xs) = true

-- where the parts in encapsulations are, of which the first begins at an offset, and which a closing line follows or not
abbrev pub spans_at : (closed : Bool) → ℕ → List Encapsulation → List Span
spans_at closed at [] = []
spans_at closed at (s ∷ ss) =
    let start = at + length s.delimiter in
    span_at (is_any ss || closed) start s.lines ∷ spans_at closed (start + length (concat s.lines)) ss

-- the bytes of a span
abbrev pub bytes_at : List ℕ → Span → List ℕ
bytes_at body span = take (span.end - span.start) (drop span.start body)

-- where the parts are of a multipart with this boundary, whose content begins at an offset
abbrev pub spans : List ℕ → ℕ → List ℕ → List Span
spans boundary start bytes =
    let c = cut boundary (raw_lines bytes) in
    spans_at (is_any c.epilogue) (start + length (concat c.preamble)) c.encapsulations

-- ---- the lines of a multipart, by their grammar

-- neither a delimiter line nor a closing one
abbrev pub IsPlain : List ℕ → List ℕ → Type 0
IsPlain boundary raw = (is_closing boundary raw ≡ false) × (is_delimiter boundary raw ≡ false)

abbrev pub IsEncapsulation : List ℕ → Encapsulation → Type 0
IsEncapsulation boundary s = IsTrue (is_delimiter boundary s.delimiter) × All (IsPlain boundary) s.lines

abbrev pub encapsulation_lines : Encapsulation → List (List ℕ)
encapsulation_lines s = s.delimiter ∷ s.lines

-- nothing, or a closing line and any lines
abbrev pub IsEpilogue : List ℕ → List (List ℕ) → Type 0
IsEpilogue boundary [] = Unit {0}
IsEpilogue boundary (l ∷ ls) = IsTrue (is_closing boundary l)

-- lines are a preamble, encapsulations, and an epilogue
pub record IsCutInto (boundary : List ℕ) (ls : List (List ℕ)) (c : Cut) : Type 0 where
  pub whole : c.preamble ++ (flat_map encapsulation_lines c.encapsulations ++ c.epilogue) ≡ ls
  pub preamble : All (IsPlain boundary) c.preamble
  pub encapsulations : All (IsEncapsulation boundary) c.encapsulations
  pub epilogue : IsEpilogue boundary c.epilogue

-- ---- nothing of a multipart is lost, and nothing is counted twice

-- the bytes that end a raw line: CR LF, LF, or none
abbrev pub line_end : List ℕ → List ℕ
line_end raw = drop (length raw - ending_len raw) raw

-- a part and what surrounds it: its delimiter line, and the line end that belongs to the delimiter line after it
pub record Entry : Type 0 where
  pub delimiter : List ℕ
  pub text : List ℕ
  pub ending : List ℕ

abbrev pub entry_bytes : Entry → List ℕ
entry_bytes e = e.delimiter ++ (e.text ++ e.ending)

-- where the parts are, of which the first delimiter line begins at an offset
abbrev pub entry_spans : ℕ → List Entry → List Span
entry_spans at [] = []
entry_spans at (e ∷ es) =
    let start = at + length e.delimiter in
    record { start = start; end = start + length e.text } ∷ entry_spans (start + length (e.text ++ e.ending)) es

-- Bytes that begin at an offset are a preamble, parts between delimiter lines, and an epilogue. The parts are where it
-- is found.
pub record IsCutAt (boundary : List ℕ) (start : ℕ) (bytes : List ℕ) (found : List Span) : Type 0 where
  pub preamble : List ℕ
  pub entries : List Entry
  pub epilogue : List ℕ
  pub whole : preamble ++ (flat_map entry_bytes entries ++ epilogue) ≡ bytes
  pub parts : entry_spans (start + length preamble) entries ≡ found
  pub delimiters : All (λ e. IsTrue (is_delimiter boundary e.delimiter)) entries
  pub endings : All (λ e. (raw : List ℕ) × (e.ending ≡ line_end raw)) entries
