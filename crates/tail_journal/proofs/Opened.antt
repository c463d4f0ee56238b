-- A reading of T, and a cut where it ended.
use Rattle.std.proofs.Common.{◌≡◌, ℕ, ◌≤◌, Option, Some, List, length, take, Ok, refl, sym, ◌∙◌, ap, subst, arith, length-take}
use Rattle.outside.specs.declared.shelf.Place.TheVariants.{T}
use Rattle.outside.specs.Places.{Places, Changes, OthersStay}
use Rattle.outside.specs.Crash.{PartlyCut, OnlyAt}
use Rattle.outside.specs.Moments.{Reached, WhereKnown, KnownThen, ChangesNoRead, LeavesOnly}
use Rattle.outside.proofs.Known.{known_on, known_as}
use Rattle.outside.proofs.Moments.{and_then}
use Rattle.card_record.proofs.FieldLaws.{bind_ok, ok_is}
use Rattle.tail_journal.specs.Groups.{Applied, Reading, reading}
use Rattle.tail_journal.specs.Tails.{ReadsAll}
use Rattle.tail_journal.specs.Read.{groups_of, SameReading, EndsThere}
use Rattle.tail_journal.proofs.CutLaws.{ends_in_bytes, same_when_partly_cut, reads_all_when_cut}

-- From the count reading ends at this offset.
abbrev pub EndsAtOffset : ℕ → ℕ → List ℕ → Type 0
EndsAtOffset count end bytes = (r : Reading) × (reading count bytes ≡ Ok r) × (r.end ≡ end)

pub ends_at : (count end : ℕ) (groups : List Applied) (bytes : List ℕ) → groups_of (reading count bytes) ≡ Ok (groups, end) → EndsAtOffset count end bytes
ends_at count end groups bytes e =
    let b = bind_ok (reading count bytes) (λ r. Ok (r.groups, r.end)) (groups, end) e in
    let is : (b.0.groups, b.0.end) ≡ (groups, end) = ok_is (b.0.groups, b.0.end) (groups, end) b.2 in
    (b.0, b.1, ap (λ (x : List Applied × ℕ). x.1) is)

pub within : (count end : ℕ) (bytes : List ℕ) → EndsAtOffset count end bytes → end ≤ length bytes
within count end bytes read = subst (λ (k : ℕ). k ≤ length bytes) read.2 (ends_in_bytes count bytes read.0 read.1)

pub partly_cut : (count end : ℕ) (bytes new : List ℕ) → EndsAtOffset count end bytes → PartlyCut end bytes new → SameReading (Some count) bytes new
partly_cut count end bytes new read cut = same_when_partly_cut count bytes new read.0 read.1 (subst (λ (k : ℕ). PartlyCut k bytes new) (sym read.2) cut) ∙ sym read.1

all_of : (count end : ℕ) (bytes : List ℕ) (read : EndsAtOffset count end bytes) → ReadsAll count (take end bytes) read.0
all_of count end bytes read = subst (λ (k : ℕ). ReadsAll count (take k bytes) read.0) read.2 (reads_all_when_cut count bytes read.0 read.1)

pub whole_cut : (count end : ℕ) (bytes new : List ℕ) → EndsAtOffset count end bytes → new ≡ take end bytes → SameReading (Some count) bytes new
whole_cut count end bytes new read is = ap (reading count) is ∙ (all_of count end bytes read).is ∙ sym read.1

pub comes_to_the_end : (count end : ℕ) (bytes new : List ℕ) → EndsAtOffset count end bytes → new ≡ take end bytes → EndsThere (Some count) new
comes_to_the_end count end bytes new read is = (read.0, subst (λ (l : List ℕ). ReadsAll count l read.0) (sym is) (all_of count end bytes read))

pub length_is : (count end : ℕ) (bytes new : List ℕ) → EndsAtOffset count end bytes → new ≡ take end bytes → length new ≡ end
length_is count end bytes new read is = let le = within count end bytes read in ap length is ∙ omega (arith, length-take end bytes, le)

-- ---- over a shelf

module _ {D : Type 0} (seen : D → Option Places) (may_leave : D → Places → Type 0) (moment : D → ℕ) (left_since : D → ℕ → Places → Type 0) (count end : ℕ) (old mid new : D)
    (nothing : ChangesNoRead seen may_leave moment left_since old mid) where
  pub others_stay : KnownThen (seen old) (seen mid) (OthersStay T)
  others_stay = known_as (seen old) (seen mid) (λ x y. y ≡ x) (OthersStay T) (λ x y is e. (ap (λ (p : Places). p.a) e, ap (λ (p : Places). p.b) e)) nothing.reads

  pub others_then : KnownThen (seen mid) (seen new) (OthersStay T) → KnownThen (seen old) (seen new) (OthersStay T)
  others_then more = known_on (seen old) (seen mid) (seen new) (OthersStay T) (OthersStay T) (OthersStay T) (λ x y z is p q. (q.0 ∙ p.0, q.1 ∙ p.1)) others_stay more

  -- where reading ends
  module _ (groups : List Applied) (gives : WhereKnown (seen old) (λ s. groups_of (reading count s.t) ≡ Ok (groups, end))) where
    read : WhereKnown (seen old) (λ s. EndsAtOffset count end s.t)
    read s is = ends_at count end groups s.t (gives s is)

    pub ends_after : WhereKnown (seen mid) (λ s. EndsAtOffset count end s.t)
    ends_after y is = let b = nothing.reads.back y is in subst (λ (p : Places). EndsAtOffset count end p.t) (sym b.holds) (read b.places b.is)

    pub cut_leaves : (s : Places) → seen old ≡ Some s → OnlyAt T s.t (may_leave mid) → LeavesOnly moment left_since mid new (Reached (may_leave mid) (Changes T (PartlyCut end))) → LeavesOnly moment left_since old new (Reached (may_leave old) (Changes T (SameReading (Some count))))
    cut_leaves s is settled run =
        let same = λ (d x : Places) (left : may_leave mid d) (cut : PartlyCut end d.t x.t). subst (λ (l : List ℕ). PartlyCut end l x.t → SameReading (Some count) l x.t) (sym (settled d left)) (partly_cut count end s.t x.t (read s is)) cut in
        and_then moment left_since old mid new (may_leave old) (Reached (may_leave mid) (Changes T (PartlyCut end))) (Reached (may_leave old) (Changes T (SameReading (Some count)))) nothing.any_moment run
        (λ x left. let step : Changes T (SameReading (Some count)) x x = (refl, refl, refl) in (x, left, step))
        (λ x r. let step : Changes T (SameReading (Some count)) r.0 x = (r.2.0, r.2.1, same r.0 x r.1 r.2.2) in (r.0, nothing.outcomes r.0 r.1, step))

    pub cut_keeps : KnownThen (seen mid) (seen new) (Changes T (λ before after. after ≡ take end before)) → KnownThen (seen old) (seen new) (Changes T (SameReading (Some count)))
    cut_keeps cut = known_on (seen old) (seen mid) (seen new) (λ x y. y ≡ x) (Changes T (λ before after. after ≡ take end before)) (Changes T (SameReading (Some count)))
        (λ x y z is e h. (h.0 ∙ ap (λ (p : Places). p.a) e, h.1 ∙ ap (λ (p : Places). p.b) e, subst (λ (p : Places). SameReading (Some count) p.t z.t) e (whole_cut count end y.t z.t (ends_after y is) h.2))) nothing.reads cut
