-- The words of a body, between white space, comments and commas.
use Rattle.std.specs.Prelude.{ℕ, Bool, false, not, ◌&&◌, ◌||◌, ◌==◌, nat_lt, if◌then◌else◌, List, [], ◌∷◌, length, filter}
use Rattle.std.specs.List.{slice_split}
use Rattle.kit.specs.Comments.{begins_quoted_pair, depth_after}

-- whether the next byte is the second of a quoted-pair, which is in a comment alone
abbrev pub escaped_after : ℕ → Bool → ℕ → Bool
escaped_after depth escaped b = nat_lt 0 depth && begins_quoted_pair escaped b

-- the bytes with a space (32) for each byte of a comment, if so many comments are open before them
abbrev pub without_comments : ℕ → Bool → List ℕ → List ℕ
without_comments depth escaped [] = []
without_comments depth escaped (b ∷ bs) =
    (if (depth == 0) && not (b == 40) then b else 32)
    ∷ without_comments (depth_after depth escaped b) (escaped_after depth escaped b) bs

-- space, tab or comma
abbrev pub is_separator : ℕ → Bool
is_separator b = (b == 32) || (b == 9) || (b == 44)

-- a separator, or the `(` of a comment
abbrev pub ends_word : ℕ → Bool
ends_word b = is_separator b || (b == 40)

-- what is between separators and is not empty
abbrev pub nonempty_parts : List ℕ → List (List ℕ)
nonempty_parts bytes = filter (λ part. nat_lt 0 (length part)) (slice_split is_separator bytes)

-- the words of a body, in which comments are white space (RFC 5322, section 3.2.2)
abbrev pub words : List ℕ → List (List ℕ)
words body = nonempty_parts (without_comments 0 false body)
