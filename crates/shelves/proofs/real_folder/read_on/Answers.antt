-- What a read gives comes after what the reads before it gave.
use Rattle.std.proofs.Common.{◌≡◌, ℕ, ◌+◌, ◌-◌, ◌≤◌, List, ◌++◌, rules, length, take, drop, sym, ap, ◌∙◌, subst, le_refl, drop_at, length-take-le}
use Rattle.std.proofs.lemmas.Slice.{take-put_mid_below}
use Rattle.std.specs.Io.KnownBytes.{Consumes}
use Rattle.std.proofs.KnownBytes.{Consumes-trans}
use borrow.Rule.Slice.PartMut.{put_mid, post_of}
use lib.Seq.{take-add, take-append-le}
use Rattle.shelves.proofs.real_folder.read_on.Goals as goal

-- the first bytes of a list that was written to from a on
take_more : (a k n : ℕ) (xs ys : List ℕ) → a ≤ length xs → n ≤ length ys
    → take (a + n) (put_mid a k xs ys) ≡ take a xs ++ take n ys
take_more a k n xs ys within fits =
    let after = post_of a k xs in
    take-add a n (put_mid a k xs ys)
    ∙ ap (λ l. l ++ take n (drop a (put_mid a k xs ys))) (take-put_mid_below a k xs ys a (le_refl a) within)
    ∙ ap (λ l. take a xs ++ take n l) (drop_at (take a xs) (ys ++ after) a (length-take-le a xs within))
    ∙ ap (λ l. take a xs ++ l) (take-append-le n ys after fits)

pub loop-filled-preserved : goal.loop-filled-preserved
loop-filled-preserved g c =
    let so_far = c.loop-filled.filled in
    let more = take_more so_far (length c.loop-filled.buf - so_far) c.in_ok-count.count c.loop-filled.buf c.read.new.buf
    c.loop-filled.invariant.0 c.in_ok-count.ensures.bound.0 in (
      search rules,
      subst (Consumes _ _) (sym more)
          (Consumes-trans _ _ _ _ _ c.loop-filled.invariant.1 c.in_ok-count.ensures.bytes.0),
    )
