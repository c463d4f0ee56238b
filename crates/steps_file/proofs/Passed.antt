-- What was passed on the way to the next LF.
use Rattle.std.proofs.Common.{◌≡◌, ℕ, ◌+◌, ◌-◌, ◌≤◌, List, [], ◌++◌, length, take, min, refl, sym, ap, ◌∙◌, append_assoc, arith, Option}
use Rattle.std.proofs.lemmas.List.{append-nil, length-take}
use Rattle.std.proofs.lemmas.Slice.{take-put_mid}
use borrow.Rule.Slice.PartMut.{put_mid}
use Rattle.kit.specs.Chains.{Adds, Cut}
use Rattle.kit.proofs.ChainLaws.{adds_none, adds_more}
use Rattle.source_buffer.specs.Buffered.{Buffered, BufferTakes}
use Rattle.source_buffer.proofs.Prefixes.{take_room, take_taken}
use Rattle.source_buffer.proofs.Taking.{BufferTakes_more, BufferTakes_none, held_more}

-- a chunk of a line is kept
pub keeps : (n k j : ℕ) (bytes new chunk old : List ℕ) → length bytes ≡ 23 → n ≤ 23 → k ≡ min (length chunk) (23 - n) → new ≡ take k chunk → take n bytes ≡ old
    → take (n + k) (put_mid n j bytes new) ≡ take 23 (old ++ chunk)
keeps n k j bytes new chunk old size fits count is view =
    let len : length old ≡ n = omega (arith, sym (ap length view), length-take n bytes, size, fits) in
    let many : k ≡ min (23 - length old) (length chunk) = omega (arith, count, len) in
    take-put_mid n j bytes new (n + k) (omega (arith, ap length is, length-take k chunk, count)) (omega (arith, size, fits))
    ∙ ap (λ z. z ++ new) view ∙ ap (λ z. old ++ z) (is ∙ ap (λ m. take m chunk) many) ∙ sym (take_room 23 old chunk (omega (arith, len, fits)))

-- these bytes were passed, and the first of them are kept
pub record Passed (l m : Option (List ℕ)) (a b : Buffered) (x y : Cut) (passed line : List ℕ) : Type 0 where
  pub bytes : List ℕ
  pub took : BufferTakes l m a b bytes
  pub held : a.held ++ bytes ≡ passed ++ b.held
  pub kept : line ≡ take 23 passed
  pub adds : Adds x y passed

pub passed_none : (l : Option (List ℕ)) (a : Buffered) (x : Cut) (line : List ℕ) → line ≡ [] → Passed l l a a x x [] line
passed_none l a x line none = record {
  bytes = [];
  took = BufferTakes_none l a a refl refl;
  held = append-nil a.held;
  kept = none;
  adds = adds_none x;
}

pub passed_more : (l m o : Option (List ℕ)) (a b c : Buffered) (x y z : Cut) (passed line bytes chunk new : List ℕ) → Passed l m a b x y passed line → BufferTakes m o b c bytes → b.held ++ bytes ≡ chunk ++ c.held
    → new ≡ take 23 (line ++ chunk) → Adds y z chunk → Passed l o a c x z (passed ++ chunk) new
passed_more l m o a b c x y z passed line bytes chunk new p took held keep adds = record {
  bytes = p.bytes ++ bytes;
  took = BufferTakes_more l m o a b c p.bytes bytes p.took took;
  held = held_more a.held p.bytes bytes passed b.held chunk c.held p.held held;
  kept = keep ∙ ap (λ l. take 23 (l ++ chunk)) p.kept ∙ take_taken 23 passed chunk;
  adds = adds_more x y z passed chunk p.adds adds;
}

-- nothing more is passed
pub passed_end : (l m o : Option (List ℕ)) (a b c : Buffered) (x y : Cut) (passed line bytes : List ℕ) → Passed l m a b x y passed line → BufferTakes m o b c bytes → b.held ++ bytes ≡ c.held
    → Passed l o a c x y passed line
passed_end l m o a b c x y passed line bytes p took held = record {
  bytes = p.bytes ++ bytes;
  took = BufferTakes_more l m o a b c p.bytes bytes p.took took;
  held = sym (append_assoc a.held p.bytes bytes) ∙ ap (λ z. z ++ bytes) p.held ∙ append_assoc passed b.held bytes ∙ ap (λ z. passed ++ z) held;
  kept = p.kept;
  adds = p.adds;
}
