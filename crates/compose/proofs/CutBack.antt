-- The two parts of a written report are found where they stand.
use Rattle.std.proofs.Common.{◌≡◌, ℕ, ◌+◌, ◌-◌, true, List, [], ◌∷◌, ◌++◌, length, take, drop, refl, ap, ◌∙◌, arith}
use Rattle.std.specs.Prelude.{codes}
use Rattle.std.specs.List.{concat, list_all}
use Rattle.std.proofs.lemmas.Bool.{and_parts}
use Rattle.std.proofs.lemmas.List.{append-nil, take_at, drop_at}
use Rattle.kit.specs.Lines.{raw_lines}
use Rattle.kit.proofs.LineLemmas.{concat-raw_lines}
use Rattle.mime_parts.specs.declared.multipart.Span.{Span}
use Rattle.mime_parts.specs.Multiparts.{Cut, bytes_at, cut, is_any, joined, spans, spans_at}
use Rattle.compose.proofs.FieldsBack.{raw_lines-line}
use Rattle.compose.proofs.LineEnds.{is_no_cr}
use Rattle.compose.proofs.PartLines.{calm, calm_is_not, is_calm, joined-raw_lines, raw_lines-calm}
use Rattle.compose.proofs.Wholes.{whole_ended}

abbrev pub boundary : List ℕ
boundary = codes "=_chats"

-- the delimiter line, and the closing one
abbrev pub opening : List ℕ
opening = codes "--=_chats\n"

abbrev pub closing : List ℕ
closing = codes "--=_chats--\n"

-- ---- the cut

abbrev put_lines : List (List ℕ) → Cut → Cut
put_lines ls c = record { preamble = ls ++ c.preamble; encapsulations = c.encapsulations; epilogue = c.epilogue }

cut-calm : (ls more : List (List ℕ)) → list_all is_calm ls ≡ true → cut boundary (ls ++ more) ≡ put_lines ls (cut boundary more)
cut-calm [] more all = refl
cut-calm (l ∷ ls) more all =
    let parts = and_parts (is_calm l) (list_all is_calm ls) all in
    rw (calm_is_not (codes "-=_chats--") l parts.0, calm_is_not (codes "-=_chats") l parts.0)
    (ap (put_lines (l ∷ [])) (cut-calm ls more parts.1))

-- lines, a delimiter line and what follows
abbrev begun : Cut → Cut
begun c = record { preamble = []; encapsulations = record { delimiter = opening; lines = c.preamble } ∷ c.encapsulations; epilogue = c.epilogue }

cut-opening : (ls : List (List ℕ)) → cut boundary (opening ∷ ls) ≡ begun (cut boundary ls)
cut-opening ls = refl

abbrev ended_cut : Cut
ended_cut = record { preamble = []; encapsulations = []; epilogue = closing ∷ [] }

cut-closing : cut boundary (closing ∷ []) ≡ ended_cut
cut-closing = refl

abbrev two : List (List ℕ) → List (List ℕ) → Cut
two ls ms = record {
  preamble = [];
  encapsulations = record { delimiter = opening; lines = ls } ∷ record { delimiter = opening; lines = ms } ∷ [];
  epilogue = closing ∷ [];
}

cut-two : (ls ms : List (List ℕ)) → list_all is_calm ls ≡ true → list_all is_calm ms ≡ true
    → cut boundary (opening ∷ (ls ++ (opening ∷ (ms ++ (closing ∷ []))))) ≡ two ls ms
cut-two ls ms first second =
    ap begun (cut-calm ls (opening ∷ (ms ++ (closing ∷ []))) first
    ∙ ap (λ c. put_lines ls (begun c)) (cut-calm ms (closing ∷ []) second))
    ∙ ap (λ (ls : List (List ℕ)). two ls (ms ++ [])) (append-nil ls)
    ∙ ap (λ (ms : List (List ℕ)). two ls ms) (append-nil ms)

-- ---- the lines of two parts, each before the LF that belongs to the next delimiter line

abbrev pub parts_text : List ℕ → List ℕ → List ℕ
parts_text p q = opening ++ ((p ++ 10 ∷ []) ++ (opening ++ ((q ++ 10 ∷ []) ++ closing)))

pub raw_lines-parts : (p q : List ℕ) → raw_lines (parts_text p q) ≡ opening ∷ (raw_lines (p ++ 10 ∷ []) ++ (opening ∷ (raw_lines (q ++ 10 ∷ []) ++ (closing ∷ []))))
raw_lines-parts p q =
    let late = (q ++ 10 ∷ []) ++ closing in
    raw_lines-line (codes "--=_chats") ((p ++ 10 ∷ []) ++ (opening ++ late)) refl
    ∙ ap (λ (ls : List (List ℕ)). opening ∷ ls) (
    (whole_ended p).more (opening ++ late)
    ∙ ap (λ (ls : List (List ℕ)). raw_lines (p ++ 10 ∷ []) ++ ls) (
    raw_lines-line (codes "--=_chats") late refl
    ∙ ap (λ (ls : List (List ℕ)). opening ∷ ls) ((whole_ended q).more closing)))

-- ---- where they are

abbrev pub span : ℕ → ℕ → Span
span start end = record { start = start; end = end }

abbrev pub first_span : List ℕ → Span
first_span p = span 10 (10 + length p)

abbrev pub second_span : List ℕ → List ℕ → Span
second_span p q = let start = 10 + length (p ++ 10 ∷ []) + 10 in span start (start + length q)

pub spans-parts : (p q : List ℕ) → list_all is_no_cr p ≡ true → list_all is_no_cr q ≡ true → calm true (p ++ 10 ∷ []) ≡ true → calm true (q ++ 10 ∷ []) ≡ true
    → spans boundary 0 (parts_text p q) ≡ first_span p ∷ second_span p q ∷ []
spans-parts p q no_cr no_cr' plain plain' =
    let ls = raw_lines (p ++ 10 ∷ []) in
    let ms = raw_lines (q ++ 10 ∷ []) in
    let c : cut boundary (raw_lines (parts_text p q)) ≡ two ls ms =
    ap (cut boundary) (raw_lines-parts p q) ∙ cut-two ls ms (raw_lines-calm (p ++ 10 ∷ []) plain) (raw_lines-calm (q ++ 10 ∷ []) plain') in
    ap (λ (c : Cut). spans_at (is_any c.epilogue) (0 + length (concat c.preamble)) c.encapsulations) c
    ∙ ap (λ n. span 10 (10 + length n) ∷ span (10 + length (concat ls) + 10) (10 + length (concat ls) + 10 + length (joined ms)) ∷ []) (joined-raw_lines p no_cr)
    ∙ ap (λ n. span 10 (10 + length p) ∷ span (10 + length (concat ls) + 10) (10 + length (concat ls) + 10 + length n) ∷ []) (joined-raw_lines q no_cr')
    ∙ ap (λ n. span 10 (10 + length p) ∷ span (10 + length n + 10) (10 + length n + 10 + length q) ∷ []) (concat-raw_lines (p ++ 10 ∷ []))

-- bytes between others
pub bytes_in : (whole a p z : List ℕ) (start end : ℕ) → whole ≡ a ++ (p ++ z) → length a ≡ start → start + length p ≡ end → bytes_at whole (span start end) ≡ p
bytes_in whole a p z start end is before e =
    let len : length p ≡ end - start = omega (arith, e) in
    ap (λ bytes. take (end - start) (drop start bytes)) is
    ∙ ap (λ bytes. take (end - start) bytes) (drop_at a (p ++ z) start before) ∙ take_at p z (end - start) len
