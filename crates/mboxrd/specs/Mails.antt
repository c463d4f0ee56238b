-- The mails of an mbox (RFC 4155, appendix A), in the variant that is called mboxrd: a line of one or more `>` and then
-- `From ` is quoted, and the mail has it with one `>` less. Raw lines have the bytes that end them.
use Rattle.std.specs.Prelude.{ℕ, ◌+◌, Bool, true, ◌&&◌, ◌||◌, bytes_eq, nat_lt, nat_eq, ◌==◌, if◌then◌else◌, List, [], ◌∷◌, length, drop, codes, flat_map}
use Rattle.std.specs.List.{prefix_len, starts_with, onto_first, concat}
use Rattle.kit.specs.Lines.{raw_lines}

-- LF alone, or CR LF
abbrev pub is_empty_line : List ℕ → Bool
is_empty_line raw = bytes_eq raw (codes "\n") || bytes_eq raw (codes "\r\n")

abbrev pub begins_with_from : List ℕ → Bool
begins_with_from raw = starts_with nat_eq raw (codes "From ")

-- Raw lines in groups: those before the first separator line, and then each separator line with the lines after it.
-- A separator line begins with `From ` and follows an empty line, or is the first line where the Bool allows it.
abbrev pub groups : Bool → List (List ℕ) → List (List (List ℕ))
groups may [] = [] ∷ []
groups may (l ∷ ls) =
    let rest = onto_first l (groups (is_empty_line l) ls) in
    if may && begins_with_from l then [] ∷ rest else rest

-- a quoted line with one `>` (62) less, and any other line as it is
abbrev pub unquoted : List ℕ → List ℕ
unquoted raw =
    let depth = prefix_len (λ b. b == 62) raw in
    if nat_lt 0 depth && begins_with_from (drop depth raw) then drop 1 raw else raw

-- lines without the last one where that is empty: it closes the mail
abbrev pub without_closing_line : List (List ℕ) → List (List ℕ)
without_closing_line [] = []
without_closing_line (l ∷ []) = if is_empty_line l then [] else l ∷ []
without_closing_line (l ∷ m ∷ ls) = l ∷ without_closing_line (m ∷ ls)

-- a mail, and the offset where it ends: after the empty line that closes it
pub record Mail : Type 0 where
  pub bytes : List ℕ
  pub end : ℕ

-- the bytes of the mail of a group, whose first line is its separator line
abbrev pub mail_bytes : List (List ℕ) → List ℕ
mail_bytes group = flat_map unquoted (without_closing_line (drop 1 group))

-- the mails of groups, of which the first begins at an offset
abbrev pub mails_of : ℕ → List (List (List ℕ)) → List Mail
mails_of at [] = []
mails_of at (g ∷ gs) =
    let end = at + length (concat g) in
    record { bytes = mail_bytes g; end = end } ∷ mails_of end gs

-- the mails of groups of which the first, which begins at an offset, has what is before the first separator line
abbrev pub mails_after_first : ℕ → List (List (List ℕ)) → List Mail
mails_after_first at [] = []
mails_after_first at (g ∷ gs) = mails_of (at + length (concat g)) gs

-- the mails of bytes that begin at an offset, where a separator line may be the first
abbrev pub mails_from : ℕ → List ℕ → List Mail
mails_from at bytes = mails_after_first at (groups true (raw_lines bytes))
