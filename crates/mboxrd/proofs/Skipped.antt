-- A reader's position after a skip.
use Rattle.std.proofs.Common.{◌≡◌, ℕ, ◌+◌, ◌-◌, ◌≤◌, Bool, false, List, length, sym, ap, subst, ◌∙◌, Option}
use Rattle.source_buffer.specs.Buffered.{Buffered, BufferTakes, Drops}
use Rattle.kit.specs.Chains.{Cut}
use Rattle.source_buffer.specs.Known.{IfKnown}
use Rattle.mboxrd.specs.Reading.{Reading, IsAt, buffered, position}
use Rattle.mboxrd.specs.Held.{with_from}
use Rattle.mboxrd.specs.Traced.{Goes}
use Rattle.mboxrd.proofs.Tracing.{StaysTraced, stays_traced}
use Rattle.source_buffer.proofs.Positions.{moved, at_position}
use Rattle.mboxrd.proofs.Reaching.{reading, takes_buffered, fits_as}

pub skipped : (l m : Option (List ℕ)) (old : Reading) (f b : Buffered) (s : Bool) (p q : ℕ) (r v : Bool) (i j : Cut) (bytes : List ℕ) (n : ℕ)
    → reading f p s r i ≡ old → s ≡ false → length (with_from s f.held) ≤ f.taken → (length f.held ≤ f.taken → length b.held ≤ b.taken)
    → BufferTakes l m f b bytes → Drops i j f.held bytes n b.held
    → (position (reading b q s v j) ≡ position old + n)
    × IfKnown l m (λ before after. (file : List ℕ) → IsAt file before old → IsAt file after (reading b q s v j))
skipped l m old f b s p q r v i j bytes n view is fits fewer took drops =
    let P : Bool → Reading → Type 0 = λ z o. (position (reading b q z v j) ≡ position o + n)
    × IfKnown l m (λ before after. (file : List ℕ) → IsAt file before o → IsAt file after (reading b q z v j)) in
    let within = fits_as f s false is fits in
    let here = reading f p false r i in
    let there = reading b q false v j in
    let takes = takes_buffered l m f b p q r v i j false false bytes took in
    let base : P false here = (
      moved l m (buffered here) (buffered there) bytes drops.0 within (fewer within) takes drops.1 ∙ ap (λ k. position here + k) drops.2,
      at_position l m (buffered here) (buffered there) bytes within (fewer within) takes (drops.0, drops.1),
    ) in
    let Q : Bool → Type 0 = λ z. P z (reading f p z r i) in
    subst (P s) view (subst Q (sym is) base)

pub skip_goes : (old : Reading) (f b : Buffered) (s : Bool) (p q : ℕ) (r v : Bool) (i j : Cut) (bytes : List ℕ) (n : ℕ) → reading f p s r i ≡ old → s ≡ false → Drops i j f.held bytes n b.held
    → Goes old bytes (reading b q s v j)
skip_goes old f b s p q r v i j bytes n view is drops =
    let P : Bool → Reading → Type 0 = λ z o. Goes o bytes (reading b q z v j) in
    let base : P false (reading f p false r i) = (drops.0, drops.1, drops.3) in
    let Q : Bool → Type 0 = λ z. P z (reading f p z r i) in
    subst (P s) view (subst Q (sym is) base)

pub skip_traced : (l m : Option (List ℕ)) (old : Reading) (f b : Buffered) (s : Bool) (p q : ℕ) (r v : Bool) (i j : Cut) (bytes : List ℕ) (n : ℕ)
    → reading f p s r i ≡ old → s ≡ false → length (with_from s f.held) ≤ f.taken → (length f.held ≤ f.taken → length b.held ≤ b.taken)
    → BufferTakes l m f b bytes → Drops i j f.held bytes n b.held → q ≡ b.taken - length b.held → StaysTraced old (reading b q s v j) l m
skip_traced l m old f b s p q r v i j bytes n view is fits fewer took drops place =
    let P : Bool → Reading → Type 0 = λ z o. StaysTraced o (reading b q z v j) l m in
    let within = fits_as f s false is fits in
    let here = reading f p false r i in
    let there = reading b q false v j in
    let takes = takes_buffered l m f b p q r v i j false false bytes took in
    let base : P false here = stays_traced l m here there bytes within (fewer within) takes (drops.0, drops.1, drops.3) place in
    let Q : Bool → Type 0 = λ z. P z (reading f p z r i) in
    subst (P s) view (subst Q (sym is) base)
