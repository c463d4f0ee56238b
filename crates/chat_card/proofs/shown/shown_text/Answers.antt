use Rattle.std.proofs.Common.{◌≡◌, ◌∙◌, ◌+◌, List, ℕ, [], ◌∷◌, ◌++◌, ap, sym, arith, length, length-append, map, take}
use Rattle.std.specs.Prelude.{◌==◌, string_bytes}
use Rattle.std.specs.List.{filter_map, join_with_byte}
use Rattle.std.proofs.lemmas.Bool.{ne_eqb}
use Rattle.std.proofs.lemmas.Grind.{common_steps}
use Rattle.std.proofs.lemmas.List.Elements.{filter_map-append}
use Rattle.chat_card.specs.Shown.{text_of}
use Rattle.chat_card.specs.Views.{kept}
use Rattle.chat_card.proofs.JoinLemmas.{joined-push}
use Rattle.chat_card.proofs.shown.shown_text.Goals as goal
use Rattle.chat_card.proofs.shown.shown_text.Goals.{in-Text+in_ok-text_in+in_ok-push_line, in_default}

pub loop-part-preserved : goal.loop-part-preserved
loop-part-preserved c =
    let parts = c.args.parts.now in
    let at = c.loop-part.part-index in
    let texts = filter_map text_of (map kept (take at parts)) in
    let now = filter_map text_of (map kept (take (at + 1) parts)) in
    elim c.match-part.branch [
      | in-Text+in_ok-text_in+in_ok-push_line w ↦ (
          let text = w.as_str-in-Text.result.now in
          let more : now ≡ texts ++ text ∷ [] = grind (arith, common_steps, filter_map-append) in
          record {
            so_far = ap string_bytes w.shown-is ∙ w.in_ok-push_line.ensures ∙ rw (c.loop-part.invariant.so_far, c.loop-part.invariant.first)
                (sym (joined-push texts text)) ∙ ap (join_with_byte 10) (sym more);
            first = w.first-is ∙ sym (ap (λ (ts : List (List ℕ)). length ts == 0) more ∙ ne_eqb (length (texts ++ text ∷ [])) 0 (λ none. omega (arith, none, length-append texts (text ∷ []))));
          })
      | in_default w ↦ (
          let same : now ≡ texts = grind (arith, common_steps, filter_map-append) in
          record {
            so_far = ap string_bytes w.shown-is ∙ c.loop-part.invariant.so_far ∙ ap (join_with_byte 10) (sym same);
            first = w.first-is ∙ c.loop-part.invariant.first ∙ ap (λ (ts : List (List ℕ)). length ts == 0) (sym same);
          })
    ]
