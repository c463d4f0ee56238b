-- The tokens of a body (RFC 5322, sections 3.2.1 to 3.2.4 and 3.4.1).
use Rattle.std.specs.Prelude.{ℕ, zero, suc, ◌+◌, Bool, false, not, ◌&&◌, ◌||◌, ◌==◌, if◌then◌else◌, List, [], ◌∷◌, take, codes, Option, Some, None}
use Rattle.std.specs.List.{list_any, position_or_len, cons_option}
use Rattle.kit.specs.Comments.{begins_quoted_pair, depth_after}
use Rattle.kit.specs.White.{is_white}

pub data Token : Type 0 where
  Atom : (bytes : List ℕ) → Token  -- an atom, or a domain literal with its brackets
  Quoted : (bytes : List ℕ) → Token  -- the text of a quoted string
  Open : Token  -- <
  Close : Token  -- >
  Colon : Token
  End : Token  -- the end of an element: a comma or a semicolon

-- how many bytes comments take that are open, so many in each other: all, if they are not closed
abbrev pub comment_len : ℕ → (escaped : Bool) → List ℕ → ℕ
comment_len depth escaped [] = 0
comment_len depth escaped (b ∷ bs) =
    let after = depth_after depth escaped b in
    let more = comment_len after (begins_quoted_pair escaped b) bs in
    if after == 0 then 1 else 1 + more

-- how many bytes precede the `"` (34) that closes a quoted string: all, if none does
abbrev pub quoted_len : (escaped : Bool) → List ℕ → ℕ
quoted_len escaped [] = 0
quoted_len escaped (b ∷ bs) =
    let more = quoted_len (begins_quoted_pair escaped b) bs in
    if not escaped && b == 34 then 0 else 1 + more

-- the bytes without the backslashes that begin quoted-pairs
abbrev pub unquoted : (escaped : Bool) → List ℕ → List ℕ
unquoted escaped [] = []
unquoted escaped (b ∷ bs) =
    let more = unquoted (begins_quoted_pair escaped b) bs in
    if begins_quoted_pair escaped b then more else b ∷ more

-- how many bytes a literal takes after its `[`: up to the first `]` (93), or all
abbrev pub literal_len : List ℕ → ℕ
literal_len bytes = position_or_len (λ b. b == 93) bytes + 1

-- white space, a mark, or what begins a comment, a quoted string or a literal
abbrev pub ends_atom : ℕ → Bool
ends_atom b = is_white b || list_any (λ c. c == b) (codes "(\"[<>:,;")

-- the token that one byte is
abbrev pub mark : ℕ → Option Token
mark b =
    if b == 60 then Some Open else if b == 62 then Some Close else if b == 58 then Some Colon
    else if b == 44 || b == 59 then Some End else None

-- what bytes begin with: a token, or white space or a comment, which are none; and how many bytes it takes after its first
pub record Lexeme : Type 0 where
  pub token : Option Token
  pub more : ℕ

abbrev pub quoted : List ℕ → Lexeme
quoted bs = let len = quoted_len false bs in record { token = Some (Quoted (unquoted false (take len bs))); more = len + 1 }

abbrev pub literal : List ℕ → Lexeme
literal bs = let len = literal_len bs in record { token = Some (Atom (91 ∷ take len bs)); more = len }

abbrev pub atom : ℕ → List ℕ → Lexeme
atom b bs = let len = position_or_len ends_atom bs in record { token = Some (Atom (b ∷ take len bs)); more = len }

abbrev pub lexeme : ℕ → List ℕ → Lexeme
lexeme b bs =
    if b == 40 then record { token = None; more = comment_len 1 false bs }
    else if b == 34 then quoted bs
    else if b == 91 then literal bs
    else if ends_atom b then record { token = mark b; more = 0 }
    else atom b bs

-- The tokens from the left. The number says how many bytes the lexeme before still takes.
abbrev pub tokens_after : ℕ → List ℕ → List Token
tokens_after taken [] = []
tokens_after (suc k) (b ∷ bs) = tokens_after k bs
tokens_after zero (b ∷ bs) = let l = lexeme b bs in cons_option l.token (tokens_after l.more bs)

abbrev pub tokens : List ℕ → List Token
tokens body = tokens_after 0 body
