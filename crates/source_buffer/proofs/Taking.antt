-- Bytes that are taken of a source.
use Rattle.std.proofs.Common.{◌≡◌, ℕ, List, [], ◌++◌, take, sym, ap, ◌∙◌, append_assoc, arith, length-append, Option}
use Rattle.std.proofs.KnownBytes.{Consumes-nil, Consumes-trans}
use Rattle.source_buffer.specs.Buffered.{Buffered, BufferTakes, HoldsRest}

pub BufferTakes_none : (l : Option (List ℕ)) (a b : Buffered) → b.taken ≡ a.taken → b.budget ≡ a.budget → BufferTakes l l a b []
BufferTakes_none l a b t e = record { left = Consumes-nil l; taken = omega (arith, t); budget = e; within = λ fits. omega (arith, fits, t, e) }

pub BufferTakes_on : (l m : Option (List ℕ)) (a b c : Buffered) (p : List ℕ) → BufferTakes l m a b p → c.taken ≡ b.taken → c.budget ≡ b.budget → BufferTakes l m a c p
BufferTakes_on l m a b c p h t e = record {
  left = h.left;
  taken = omega (arith, h.taken, t);
  budget = e ∙ h.budget;
  within = λ fits. omega (arith, h.within fits, t, e);
}

pub BufferTakes_more : (l m n : Option (List ℕ)) (a b c : Buffered) (p q : List ℕ) → BufferTakes l m a b p → BufferTakes m n b c q → BufferTakes l n a c (p ++ q)
BufferTakes_more l m n a b c p q h k = record {
  left = Consumes-trans l m n p q h.left k.left;
  taken = omega (arith, h.taken, k.taken, length-append p q);
  budget = k.budget ∙ h.budget;
  within = λ fits. k.within (h.within fits);
}

-- bytes of the source are held, and so many of them are dropped
pub let_go : (b mid c : Buffered) (bytes held : List ℕ) (n : ℕ) → b.held ++ bytes ≡ mid.held → held ≡ mid.held → mid.held ≡ take n mid.held ++ c.held
    → b.held ++ bytes ≡ take n held ++ c.held
let_go b mid c bytes held n e f g = e ∙ g ∙ ap (λ z. take n z ++ c.held) (sym f)

-- the same with what may come after it
pub held_on : (h p passed held rest : List ℕ) → h ++ p ≡ passed ++ held → h ++ (p ++ rest) ≡ passed ++ (held ++ rest)
held_on h p passed held rest e = sym (append_assoc h p rest) ∙ ap (λ z. z ++ rest) e ∙ append_assoc passed held rest

-- more is taken, and more of it is passed
pub held_more : (h p q passed mid more held : List ℕ) → h ++ p ≡ passed ++ mid → mid ++ q ≡ more ++ held → h ++ (p ++ q) ≡ (passed ++ more) ++ held
held_more h p q passed mid more held x y =
    sym (append_assoc h p q) ∙ ap (λ l. l ++ q) x ∙ append_assoc passed mid q ∙ ap (λ l. passed ++ l) y ∙ sym (append_assoc passed more held)

pub holds_rest_more : (a b c p q : List ℕ) → HoldsRest a p b → HoldsRest b q c → HoldsRest a (p ++ q) c
holds_rest_more a b c p q h k = (h.0 ++ k.0, held_more a p q h.0 b k.0 c h.1 k.1)
