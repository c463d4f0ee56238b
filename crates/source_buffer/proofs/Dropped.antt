-- How many bytes were dropped.
use Rattle.std.proofs.Common.{◌≡◌, ℕ, ◌+◌, ◌≤◌, List, [], ◌++◌, length, take, refl, ap, ◌∙◌, arith, length-append, Option}
use Rattle.std.proofs.lemmas.List.{append-nil, length-take-le}
use Rattle.kit.specs.Chains.{Adds, Cut}
use Rattle.kit.proofs.ChainLaws.{adds_none, adds_more}
use Rattle.source_buffer.specs.Buffered.{Buffered, BufferTakes, Drops}
use Rattle.source_buffer.proofs.Taking.{BufferTakes_more, BufferTakes_none, BufferTakes_on, held_more}

pub record Dropped (l m : Option (List ℕ)) (a b : Buffered) (x y : Cut) (k : ℕ) : Type 0 where
  pub bytes : List ℕ
  pub dropped : List ℕ
  pub took : BufferTakes l m a b bytes
  pub held : a.held ++ bytes ≡ dropped ++ b.held
  pub many : length dropped ≡ k
  pub adds : Adds x y dropped

pub dropped_none : (l : Option (List ℕ)) (a : Buffered) (x : Cut) → Dropped l l a a x x 0
dropped_none l a x = record {
  bytes = [];
  dropped = [];
  took = BufferTakes_none l a a refl refl;
  held = append-nil a.held;
  many = refl;
  adds = adds_none x;
}

-- more is taken, and so many of the bytes that are held then are dropped
pub dropped_more : (l m o : Option (List ℕ)) (a b mid c : Buffered) (x y z : Cut) (k n : ℕ) (bytes : List ℕ) → Dropped l m a b x y k → BufferTakes m o b mid bytes
    → c.taken ≡ mid.taken → c.budget ≡ mid.budget → b.held ++ bytes ≡ mid.held → mid.held ≡ take n mid.held ++ c.held → n ≤ length mid.held
    → Adds y z (take n mid.held) → Dropped l o a c x z (k + n)
dropped_more l m o a b mid c x y z k n bytes d took taken budget held rest some adds = record {
  bytes = d.bytes ++ bytes;
  dropped = d.dropped ++ take n mid.held;
  took = BufferTakes_more l m o a b c d.bytes bytes d.took (BufferTakes_on m o b mid c bytes took taken budget);
  held = held_more a.held d.bytes bytes d.dropped b.held (take n mid.held) c.held d.held (held ∙ rest);
  many = omega (arith, d.many, some, length-append d.dropped (take n mid.held), length-take-le n mid.held some);
  adds = adds_more x y z d.dropped (take n mid.held) d.adds adds;
}

-- nothing more is dropped
pub dropped_end : (l m o : Option (List ℕ)) (a b c : Buffered) (x y : Cut) (k : ℕ) (bytes : List ℕ) → Dropped l m a b x y k → BufferTakes m o b c bytes → b.held ++ bytes ≡ c.held
    → (all : List ℕ) × BufferTakes l o a c all × Drops x y a.held all k c.held
dropped_end l m o a b c x y k bytes d took held = (
  d.bytes ++ bytes,
  BufferTakes_more l m o a b c d.bytes bytes d.took took,
  (d.dropped, held_more a.held d.bytes bytes d.dropped b.held [] c.held d.held held ∙ ap (λ z. z ++ c.held) (append-nil d.dropped), d.many, d.adds),
)

pub dropped_all : (l m o : Option (List ℕ)) (a b c : Buffered) (x y : Cut) (k : ℕ) (bytes : List ℕ) → Dropped l m a b x y k → BufferTakes m o b c bytes → b.held ++ bytes ≡ []
    → (all : List ℕ) × BufferTakes l o a c all × (length (a.held ++ all) ≡ k)
dropped_all l m o a b c x y k bytes d took none = (
  d.bytes ++ bytes,
  BufferTakes_more l m o a b c d.bytes bytes d.took took,
  omega (arith, d.many, ap length d.held, ap length none, length-append a.held (d.bytes ++ bytes), length-append d.bytes bytes, length-append a.held d.bytes, length-append d.dropped b.held, length-append b.held bytes),
)
