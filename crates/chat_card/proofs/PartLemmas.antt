-- Parts that are read from the last to the first.
use Rattle.std.proofs.Common.{◌≡◌, ℕ, List, [], ◌∷◌, ◌++◌, map, sym, ap, ◌∙◌, append_assoc}
use Rattle.std.specs.Prelude.{reverse}
use Rattle.std.proofs.lemmas.List.{map-append, reverse-append}
use Rattle.mime_parts.specs.declared.part.PartNode.{PartNode}
use Rattle.chat_card.specs.Parts.{Part, content_of, part}

-- the last node becomes a part
pub part-popped : (body content : List ℕ) (nodes old : List PartNode) (node : PartNode) (found new all : List Part)
    → content ≡ content_of body node → old ≡ nodes ++ node ∷ [] → new ≡ found ++ record { node = node; content = content } ∷ []
    → map (part body) old ++ reverse found ≡ all → map (part body) nodes ++ reverse new ≡ all
part-popped body content nodes old node found new all is popped pushed so_far =
    ap (λ (ps : List Part). map (part body) nodes ++ reverse ps) pushed
    ∙ ap (λ (ps : List Part). map (part body) nodes ++ ps) (reverse-append found (record { node = node; content = content } ∷ []))
    ∙ ap (λ (bytes : List ℕ). map (part body) nodes ++ record { node = node; content = bytes } ∷ reverse found) is
    ∙ sym (append_assoc (map (part body) nodes) (part body node ∷ []) (reverse found))
    ∙ ap (λ (ps : List Part). ps ++ reverse found) (sym (map-append (part body) nodes (node ∷ [])))
    ∙ ap (λ (ns : List PartNode). map (part body) ns ++ reverse found) (sym popped)
    ∙ so_far
