-- The segments of the body of a field: the word that it names, and its parameters (RFC 2045, section 5.1).
use Rattle.std.specs.Prelude.{ℕ, Bool, false, not, ◌&&◌, ◌||◌, ◌==◌, if◌then◌else◌, List, [], ◌∷◌}
use Rattle.std.specs.List.{before_first, onto_first}
use Rattle.kit.specs.Comments.{begins_quoted_pair}
use Rattle.kit.specs.White.{is_white}

-- whether a quoted string is open after a byte: a `"` (34) opens and closes one, unless it is the second byte of a
-- quoted-pair
abbrev pub quoted_after : (quoted escaped : Bool) → ℕ → Bool
quoted_after quoted escaped b = if b == 34 && not escaped then not quoted else quoted

-- whether the next byte is the second of a quoted-pair, which only a quoted string has
abbrev pub escaped_after : (quoted escaped : Bool) → ℕ → Bool
escaped_after quoted escaped b = quoted && begins_quoted_pair escaped b

-- the segments of bytes of which the first is in a quoted string or not, and the second of a quoted-pair or not
abbrev pub segments_from : (quoted escaped : Bool) → List ℕ → List (List ℕ)
segments_from quoted escaped [] = [] ∷ []
segments_from quoted escaped (b ∷ bs) =
    let rest = segments_from (quoted_after quoted escaped b) (escaped_after quoted escaped b) bs in
    if b == 59 && not quoted then [] ∷ rest else onto_first b rest

-- what is between the `;` (59) outside quoted strings
abbrev pub segments : List ℕ → List (List ℕ)
segments body = segments_from false false body

abbrev pub first_of : List (List ℕ) → List ℕ
first_of [] = []
first_of (s ∷ ss) = s

abbrev pub others_of : List (List ℕ) → List (List ℕ)
others_of [] = []
others_of (s ∷ ss) = ss

-- white space, or the `(` (40) of a comment
abbrev pub ends_word : ℕ → Bool
ends_word b = is_white b || b == 40

-- the word that a segment begins with
abbrev pub word_of : List ℕ → List ℕ
word_of segment = before_first ends_word segment

-- the word that a body names
abbrev pub main_word : List ℕ → List ℕ
main_word body = word_of (first_of (segments body))

-- the segments after the first `;`
abbrev pub further_segments : List ℕ → List (List ℕ)
further_segments body = others_of (segments body)
