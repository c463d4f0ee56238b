-- How a loop over the lines writes the joined lines.
use Rattle.std.proofs.Common.{◌≡◌, ℕ, Bool, true, false, List, [], ◌∷◌, ◌++◌, length, map, refl, sym, ap, ◌∙◌, append_assoc, inl, inr}
use Rattle.std.specs.Prelude.{◌&&◌, ◌==◌, if◌then◌else◌}
use Rattle.std.proofs.lemmas.List.{append-nil}
use Rattle.std.proofs.lemmas.Bool.{cases_Bool, false≢true}
use Rattle.kit.specs.Lines.{raw_lines, content, put_before}
use Rattle.flowed_text.specs.Writing.{break_before, line_end}
use Rattle.flowed_text.specs.Flowed.{Quoted, line_texts, quoted_line, unspaced, runs_on, put_line, joined, marks, written}

-- what is written of lines, the first of which continues the one before it, or does not
abbrev pub written_from : Bool → Bool → List Quoted → List ℕ
written_from delsp continues [] = []
written_from delsp continues (line ∷ more) =
    (if continues then [] else marks line.depth) ++ (line_end delsp line more ++ written_from delsp (runs_on line more) more)

-- what is written after a line of those that follow it
abbrev after : List Quoted → List ℕ
after [] = []
after (line ∷ more) = 10 ∷ written (line ∷ more)

-- what is written of joined lines without the marks of the first
abbrev unmarked : List Quoted → List ℕ
unmarked [] = []
unmarked (line ∷ more) = line.text ++ after more

written-cons : (line : Quoted) (more : List Quoted) → written (line ∷ more) ≡ marks line.depth ++ (line.text ++ after more)
written-cons line [] = rw append-nil refl
written-cons line (next ∷ more) = append_assoc (marks line.depth) line.text _

put_line-cons : (delsp runs : Bool) (line : Quoted) (more : List Quoted) → (first : Quoted) × (rest : List Quoted) × (put_line delsp runs line more ≡ first ∷ rest)
put_line-cons delsp true line [] = (line, [], refl)
put_line-cons delsp true line (next ∷ more) = (_, more, refl)
put_line-cons delsp false line more = (line, more, refl)

written-put_line : (delsp runs : Bool) (line : Quoted) (more : List Quoted)
    → written (put_line delsp runs line more) ≡ marks line.depth ++ unmarked (put_line delsp runs line more)
written-put_line delsp true line [] = written-cons line []
written-put_line delsp true line (next ∷ more) = written-cons (record { depth = line.depth; text = (if delsp then unspaced line.text else line.text) ++ next.text }) more
written-put_line delsp false line more = written-cons line more

one_line : (delsp runs : Bool) (line next first : Quoted) (more rest : List Quoted)
    → written_from delsp true (next ∷ more) ≡ unmarked (first ∷ rest) → written_from delsp false (next ∷ more) ≡ written (first ∷ rest)
    → ((if runs && delsp then unspaced line.text else line.text) ++ (if runs then [] else 10 ∷ [])) ++ written_from delsp runs (next ∷ more)
    ≡ unmarked (put_line delsp runs line (first ∷ rest))
one_line delsp true line next first more rest continued begun =
    let kept = if delsp then unspaced line.text else line.text in
    ap (λ t. t ++ written_from delsp true (next ∷ more)) (append-nil kept) ∙ ap (λ t. kept ++ t) continued ∙ sym (append_assoc kept first.text (after rest))
one_line delsp false line next first more rest continued begun =
    append_assoc line.text (10 ∷ []) (written_from delsp false (next ∷ more)) ∙ ap (λ t. line.text ++ (10 ∷ t)) begun

written_from-continued : (delsp : Bool) (lines : List Quoted) → written_from delsp true lines ≡ unmarked (joined delsp lines)
written_from-continued delsp [] = refl
written_from-continued delsp (line ∷ []) = append-nil (line.text ++ [])
written_from-continued delsp (line ∷ next ∷ more) =
    let runs = runs_on line (next ∷ more) in
    let head = put_line-cons delsp (runs_on next more) next (joined delsp more) in
    let continued = written_from-continued delsp (next ∷ more) in
    let begun = ap (λ t. marks next.depth ++ t) continued ∙ sym (written-put_line delsp (runs_on next more) next (joined delsp more)) in
    one_line delsp runs line next head.0 more head.1 (continued ∙ ap unmarked head.2) (begun ∙ ap written head.2)
    ∙ ap (λ ls. unmarked (put_line delsp runs line ls)) (sym head.2)

-- from a line that begins one, the loop writes the joined lines
pub written_from-begun : (delsp : Bool) (lines : List Quoted) → written_from delsp false lines ≡ written (joined delsp lines)
written_from-begun delsp [] = refl
written_from-begun delsp (line ∷ more) =
    ap (λ t. marks line.depth ++ t) (written_from-continued delsp (line ∷ more))
    ∙ sym (written-put_line delsp (runs_on line more) line (joined delsp more))

-- ---- the LF between a line and the text that follows it

pub break_before_text : (text : List ℕ) → (length text == 0) ≡ false → break_before (map quoted_line (line_texts text)) ≡ 10 ∷ []
break_before_text [] some = absurd (false≢true (sym some))
break_before_text (b ∷ bs) some = go (raw_lines bs)
  where
    go : (raws : List (List ℕ)) → break_before (map quoted_line (map content (put_before b raws))) ≡ 10 ∷ []
    go [] = refl
    go (raw ∷ raws) = elim (cases_Bool (b == 10)) [ inl is ↦ rw is refl | inr other ↦ rw other refl ]
