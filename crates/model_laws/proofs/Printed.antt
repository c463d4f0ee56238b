-- Where the number of a row is printed.
use Rattle.std.proofs.Common.{◌≡◌, refl, sym, ap, ◌∙◌, ℕ, [], ◌∷◌, ◌++◌, length}
use Rattle.std.specs.Prelude.{codes, drop, flat_map}
use Rattle.std.specs.Fmt.{decimal, digits}
use Rattle.std.proofs.lemmas.List.{length-map}
use Rattle.mailbox_model.specs.declared.row.Row.{Row}
use Rattle.mailbox_model.specs.Bodies.{body, where_true}
use Rattle.mailbox_model.specs.Lists.{Bytes}
use Rattle.mailbox_model.specs.Printed.{field, mark_text, file_line, reaction_line, reader_line, row_text}
use Rattle.mailbox_model.specs.Times.{time_text}
use Rattle.model_laws.specs.Numbers.{unnumbered_update, unnumbered_row}

-- what is printed of a row with so many updates after these bytes
abbrev text_after : Row → ℕ → Bytes → Bytes
text_after r updates first =
    first ++ codes " " ++ time_text r.date ++ codes " " ++ field r.from ++ codes " " ++ mark_text r.mark ++ codes ": " ++ field (body r) ++ codes "\n"
    ++ flat_map file_line r.attachments ++ flat_map reader_line r.readers ++ flat_map reaction_line r.reactions
    ++ where_true r.app (codes "  updates " ++ decimal updates ++ codes "\n")

after_these : (r : Row) (updates : ℕ) (first : Bytes) → text_after r updates first ≡ first ++ text_after r updates []
after_these r updates [] = refl
after_these r updates (b ∷ first) = ap (λ text. b ∷ text) (after_these r updates first)

zero_dropped : (text : Bytes) → drop 2 (codes "#" ++ decimal 0 ++ text) ≡ text
unfolding digits
zero_dropped text = refl

pub number_of : (r : Row) → row_text r ≡ codes "#" ++ decimal r.uid ++ drop 2 (row_text (unnumbered_row r))
number_of r =
    let count = length r.updates in
    let zero : row_text (unnumbered_row r) ≡ codes "#" ++ decimal 0 ++ text_after r count [] = ap (λ n. text_after r n (codes "#" ++ decimal 0)) (length-map r.updates unnumbered_update) ∙ after_these r count (codes "#" ++ decimal 0) in
    after_these r count (codes "#" ++ decimal r.uid)
    ∙ ap (λ text. codes "#" ++ decimal r.uid ++ text) (sym (ap (drop 2) zero ∙ zero_dropped (text_after r count [])))
