-- What remains at the start of a line: of the mail, as the mail has it, and after the mail.
use Rattle.std.specs.Prelude.{ℕ, Bool, ◌&&◌, if◌then◌else◌, List, [], ◌∷◌, ◌++◌, codes}
use Rattle.mboxrd.specs.Mails.{is_empty_line, begins_with_from, unquoted}

abbrev pub from_text : List ℕ
from_text = codes "From "

-- what remains of the mail, and the raw lines from the next separator line on
pub record Remaining : Type 0 where
  pub mail : List ℕ
  pub rest : List (List ℕ)

-- with these bytes before what remains of the mail
abbrev pub push : List ℕ → Remaining → Remaining
push prefix h = record { mail = prefix ++ h.mail; rest = h.rest }

-- What remains in these raw lines. Before them an empty line is withheld, or nothing: the mail has it only where more
-- of the mail follows. The Bool says whether the first of them may be a separator line.
abbrev pub remaining : Bool → List ℕ → List (List ℕ) → Remaining
remaining may withheld [] = record { mail = []; rest = [] }
remaining may withheld (l ∷ ls) =
    let empty = is_empty_line l in
    let more = remaining empty (if empty then l else []) ls in
    if may && begins_with_from l then record { mail = []; rest = l ∷ ls }
    else push withheld (push (if empty then [] else unquoted l) more)

-- the first line, and the others
abbrev pub head_line : List (List ℕ) → List ℕ
head_line [] = []
head_line (l ∷ ls) = l

abbrev pub tail_lines : List (List ℕ) → List (List ℕ)
tail_lines [] = []
tail_lines (l ∷ ls) = ls

-- lines with these bytes before the first
abbrev pub glue : List ℕ → List (List ℕ) → List (List ℕ)
glue prefix ls = (prefix ++ head_line ls) ∷ tail_lines ls
