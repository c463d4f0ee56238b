-- Where a buffer is in its source.
use Rattle.std.proofs.Common.{◌≡◌, ℕ, ◌+◌, ◌≤◌, List, ◌++◌, length, drop, sym, ap, ◌∙◌, append_assoc, arith, length-append, Option, None, Some}
use Rattle.std.proofs.lemmas.List.{drop-drop}
use Rattle.std.proofs.Math.Seq.{drop-append_seam}
use Rattle.source_buffer.specs.Buffered.{Buffered, BufferTakes, HoldsRest, IsAt, position}
use Rattle.source_buffer.specs.Known.{IfKnown}

-- how far it moved
pub moved : (l m : Option (List ℕ)) (old new : Buffered) (p prefix : List ℕ) → length old.held ≤ old.taken → length new.held ≤ new.taken → BufferTakes l m old new p
    → old.held ++ p ≡ prefix ++ new.held → position new ≡ position old + length prefix
moved l m old new p prefix a b takes holds =
    omega (arith, a, b, takes.taken, ap length holds, length-append old.held p, length-append prefix new.held)

-- what comes from its position on
pub at_position : (l m : Option (List ℕ)) (old new : Buffered) (p : List ℕ) → length old.held ≤ old.taken → length new.held ≤ new.taken → BufferTakes l m old new p → HoldsRest old.held p new.held
    → IfKnown l m (λ before after. (file : List ℕ) → IsAt file before old → IsAt file after new)
at_position None m old new p a b takes holds = tt
at_position (Some l) None old new p a b takes holds = absurd takes.left
at_position (Some l) (Some m) old new p a b takes holds = λ file at.
    let prefix = holds.0 in
    let all : old.held ++ l ≡ prefix ++ (new.held ++ m) = ap (λ z. old.held ++ z) takes.left ∙ sym (append_assoc old.held p m) ∙ ap (λ z. z ++ m) holds.1 ∙ append_assoc prefix new.held m in
    sym (drop-append_seam prefix (new.held ++ m)) ∙ ap (drop (length prefix)) (sym all ∙ at) ∙ drop-drop (length prefix) (position old) file
    ∙ ap (λ k. drop k file) (sym (moved (Some l) (Some m) old new p prefix a b takes holds.1))
