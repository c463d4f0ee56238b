-- How a walk over lines meets the parts of a multipart.
use Rattle.std.proofs.Common.{◌≡◌, ℕ, ◌+◌, Bool, true, false, List, [], ◌∷◌, ◌++◌, length, Option, Some, None, option_to_list, refl, ◌∙◌, arith, length-append}
use Rattle.std.specs.Prelude.{◌||◌, if◌then◌else◌}
use Rattle.std.specs.List.{concat}
use Rattle.kit.specs.Lines.{content}
use Rattle.mime_parts.specs.declared.multipart.Span.{Span}
use Rattle.mime_parts.specs.Walks.{extended}
use Rattle.mime_parts.specs.Multiparts.{Cut, cut, is_any, is_closing, is_delimiter, joined, spans_at, text_of}

-- where the content of the last of some lines ends, of which the first begins at an offset; where there are none, the end is given
abbrev pub last_end : ℕ → ℕ → List (List ℕ) → ℕ
last_end end at [] = end
last_end end at (l ∷ ls) = last_end (at + length (content l)) (at + length l) ls

last_end-joined : (at : ℕ) (ls : List (List ℕ)) → at + length (joined ls) ≡ last_end at at ls
last_end-joined at [] = omega arith
last_end-joined at (l ∷ []) = refl
last_end-joined at (l ∷ m ∷ ms) =
    let offset : at + length (l ++ joined (m ∷ ms)) ≡ at + length l + length (joined (m ∷ ms)) = omega (arith, length-append l (joined (m ∷ ms))) in
    offset ∙ last_end-joined (at + length l) (m ∷ ms)

text-end : (followed : Bool) (at : ℕ) (ls : List (List ℕ)) → at + length (text_of followed ls) ≡ (if followed then last_end at at ls else at + length (concat ls))
text-end true at ls = last_end-joined at ls
text-end false at ls = refl

-- whether a delimiter line follows the lines before the first one
abbrev is_followed : Cut → Bool
is_followed c = is_any c.encapsulations || is_any c.epilogue

-- The parts in lines of which the first begins at an offset, where a part may be begun: it has its end if a delimiter line is next.
abbrev pub met : Option Span → ℕ → Cut → List Span
met None at c = spans_at (is_any c.epilogue) (at + length (concat c.preamble)) c.encapsulations
met (Some p) at c =
    record { start = p.start; end = if is_followed c then last_end p.end at c.preamble else at + length (concat c.preamble) }
    ∷ spans_at (is_any c.epilogue) (at + length (concat c.preamble)) c.encapsulations

-- a line of a part, or of the preamble
pub met-line : (boundary l : List ℕ) (ls : List (List ℕ)) (p : Option Span) (at : ℕ) → is_closing boundary l ≡ false → is_delimiter boundary l ≡ false
    → met p at (cut boundary (l ∷ ls)) ≡ met (extended p (at + length (content l))) (at + length l) (cut boundary ls)
met-line boundary l ls None at c d =
    let more = cut boundary ls in
    let offset : at + length (l ++ concat more.preamble) ≡ at + length l + length (concat more.preamble) = omega (arith, length-append l (concat more.preamble)) in
    rw (c, d, offset) refl
met-line boundary l ls (Some p) at c d =
    let more = cut boundary ls in
    let offset : at + length (l ++ concat more.preamble) ≡ at + length l + length (concat more.preamble) = omega (arith, length-append l (concat more.preamble)) in
    rw (c, d, offset) refl

-- a delimiter line ends a part, and begins one
pub met-delimiter : (boundary l : List ℕ) (ls : List (List ℕ)) (p : Option Span) (at : ℕ) → is_closing boundary l ≡ false → is_delimiter boundary l ≡ true
    → met p at (cut boundary (l ∷ ls)) ≡ option_to_list p ++ met (Some (record { start = at + length l; end = at + length l })) (at + length l) (cut boundary ls)
met-delimiter boundary l ls None at c d =
    let more = cut boundary ls in
    let here : at + 0 ≡ at = omega arith in
    rw (c, d, here, text-end (is_followed more) (at + length l) more.preamble) refl
met-delimiter boundary l ls (Some p) at c d =
    let more = cut boundary ls in
    let here : at + 0 ≡ at = omega arith in
    rw (c, d, here, text-end (is_followed more) (at + length l) more.preamble) refl

-- a closing line ends the last part
pub met-closing : (boundary l : List ℕ) (ls : List (List ℕ)) (p : Option Span) (at : ℕ) → is_closing boundary l ≡ true
    → met p at (cut boundary (l ∷ ls)) ≡ option_to_list p
met-closing boundary l ls None at c = rw c refl
met-closing boundary l ls (Some p) at c = rw c refl

-- where none does, the last part goes on to the end
pub met-end : (boundary : List ℕ) (p : Option Span) (at : ℕ) → met p at (cut boundary []) ≡ option_to_list (extended p at)
met-end boundary None at = refl
met-end boundary (Some p) at = let here : at + 0 ≡ at = omega arith in rw here refl
