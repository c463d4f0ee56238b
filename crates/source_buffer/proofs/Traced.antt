-- A trace that stands for the bytes before what is held goes on to do so.
use Rattle.std.proofs.Common.{◌≡◌, ℕ, ◌+◌, ◌≤◌, List, ◌++◌, length, take, drop, sym, ap, subst, ◌∙◌, append_assoc, arith, Some}
use Rattle.std.proofs.lemmas.List.{take-append-drop, take-take, drop-take}
use Rattle.std.proofs.Math.Seq.{take-append_seam}
use Rattle.kit.specs.Chains.{Adds, Cut, StandsFor}
use Rattle.source_buffer.specs.Buffered.{Buffered, BufferTakes, IsAt, position}
use Rattle.source_buffer.proofs.Positions.{moved}

take_more : (a b : ℕ) (xs : List ℕ) → take (a + b) xs ≡ take a xs ++ take b (drop a xs)
take_more a b xs =
    sym (take-append-drop a (take (a + b) xs)) ∙ ap (λ l. l ++ drop a (take (a + b) xs)) (take-take a (a + b) xs (omega arith))
    ∙ ap (λ l. take a xs ++ l) (drop-take a b xs)

-- some bytes were passed, and added to the trace
pub stands_on : (file l m : List ℕ) (old new : Buffered) (x y : Cut) (bytes passed : List ℕ) → length old.held ≤ old.taken → length new.held ≤ new.taken
    → BufferTakes (Some l) (Some m) old new bytes → old.held ++ bytes ≡ passed ++ new.held → Adds x y passed
    → IsAt file l old → StandsFor x (take (position old) file) → StandsFor y (take (position new) file)
stands_on file l m old new x y bytes passed a b takes held adds at stands =
    let all : old.held ++ l ≡ passed ++ (new.held ++ m) = ap (λ z. old.held ++ z) takes.left ∙ sym (append_assoc old.held bytes m) ∙ ap (λ z. z ++ m) held ∙ append_assoc passed new.held m in
    let far : position new ≡ position old + length passed = moved (Some l) (Some m) old new bytes passed a b takes held in
    let next : take (length passed) (drop (position old) file) ≡ passed = ap (take (length passed)) (sym at ∙ all) ∙ take-append_seam passed (new.held ++ m) in
    let whole : take (position old) file ++ passed ≡ take (position new) file =
    ap (λ z. take (position old) file ++ z) (sym next) ∙ sym (take_more (position old) (length passed) file) ∙ ap (λ k. take k file) (sym far) in
    subst (StandsFor y) whole (adds (take (position old) file) stands)
