use Rattle.std.proofs.Common.{◌≡◌, List, ℕ, [], ◌∷◌, ◌++◌, ◌+◌, length, sym, ap, subst, arith, length-append}
use Rattle.outside.specs.declared.shelf.Place.TheVariants.{T}
use Rattle.outside.specs.Places.{Places, Changes}
use Rattle.outside.specs.Crash.{Holds, Torn, OnlyAt}
use Rattle.outside.specs.Moments.{Reached}
use Rattle.outside.proofs.Moments.{weaker, and_then}
use Rattle.outside.proofs.Known.{known_on, known_as}
use Rattle.tail_journal.specs.Tails.{MayGrow}
use Rattle.tail_journal.proofs.Growing.{torn_first, torn_rest, torn_gate, itself, stage, others_on, First, Second, first, second, third}
use Rattle.tail_journal.proofs.append.append_at.Goals as goal

pub returns-in_err-write_and_sync-clause-any_moment : goal.returns-in_err-write_and_sync-clause-any_moment
returns-in_err-write_and_sync-clause-any_moment g c s is =
    let m = g.H.Shelf.moment in
    let l = g.H.Shelf.left_since in
    let old = c.args.shelf.now in
    let start = g.H.Shelf.may_leave old in
    let rest = c.args.rest.now in
    let group : List ℕ = 1 ∷ rest in
    let h = c.requires.settled s is in
    let P = Reached start (Changes T (MayGrow group)) in
    let at_end : c.args.end ≡ length s.t = sym h.1 in
    let new1 = c.write_and_sync.new.shelf in
    let step1 = stage group s.t start start s.t c.args.end 1 h.0 (itself group start) h.0 (λ x torn. torn_first group s.t x (subst (λ (k : ℕ). Torn k 1 s.t x) at_end torn)) in
    let run1 = weaker m l old new1 (Reached start (Changes T (Torn c.args.end 1))) P c.write_and_sync.ensures.any_moment step1 in
    run1

pub returns-in_err-write_and_sync-2-clause-any_moment : goal.returns-in_err-write_and_sync-2-clause-any_moment
returns-in_err-write_and_sync-2-clause-any_moment g c s is =
    let m = g.H.Shelf.moment in
    let l = g.H.Shelf.left_since in
    let old = c.args.shelf.now in
    let start = g.H.Shelf.may_leave old in
    let rest = c.args.rest.now in
    let group : List ℕ = 1 ∷ rest in
    let h = c.requires.settled s is in
    let P = Reached start (Changes T (MayGrow group)) in
    let at_end : c.args.end ≡ length s.t = sym h.1 in
    let new1 = c.write_and_sync.new.shelf in
    let step1 = stage group s.t start start s.t c.args.end 1 h.0 (itself group start) h.0 (λ x torn. torn_first group s.t x (subst (λ (k : ℕ). Torn k 1 s.t x) at_end torn)) in
    let run1 = weaker m l old new1 (Reached start (Changes T (Torn c.args.end 1))) P c.write_and_sync.ensures.any_moment step1 in
    let told1 = c.in_ok-write_and_sync.ensures.holds.forth s is in
    let mid1 = g.H.Shelf.may_leave new1 in
    let back1 = λ (x : Places) (left : mid1 x). run1.each x (g.met.H.Shelf.counts_now new1 (m old) x run1.later left) in
    let one = first c.args.end s told1.places h.1 told1.holds in
    let only1 : OnlyAt T (s.t ++ 0 ∷ []) mid1 = subst (λ (x : List ℕ). OnlyAt T x mid1) one.1 (c.in_ok-write_and_sync.ensures.settled told1.places told1.is) in
    let next_end : c.args.end + 1 ≡ length s.t + 1 = ap (λ (k : ℕ). k + 1) at_end in
    let new2 = c.write_and_sync-2.new.shelf in
    let step2 = stage group s.t start mid1 (s.t ++ 0 ∷ []) (c.args.end + 1) (length rest) h.0 back1 only1 (λ x torn. torn_rest group s.t x (length rest) (subst (λ (k : ℕ). Torn k (length rest) (s.t ++ 0 ∷ []) x) next_end torn)) in
    let run2 = and_then m l old new1 new2 P (Reached mid1 (Changes T (Torn (c.args.end + 1) (length rest)))) P run1 c.write_and_sync-2.ensures.any_moment (λ x r. r) step2 in
    run2

pub returns-in_err-write_and_sync-3-clause-any_moment : goal.returns-in_err-write_and_sync-3-clause-any_moment
returns-in_err-write_and_sync-3-clause-any_moment g c s is =
    let m = g.H.Shelf.moment in
    let l = g.H.Shelf.left_since in
    let old = c.args.shelf.now in
    let start = g.H.Shelf.may_leave old in
    let rest = c.args.rest.now in
    let group : List ℕ = 1 ∷ rest in
    let h = c.requires.settled s is in
    let P = Reached start (Changes T (MayGrow group)) in
    let at_end : c.args.end ≡ length s.t = sym h.1 in
    let new1 = c.write_and_sync.new.shelf in
    let step1 = stage group s.t start start s.t c.args.end 1 h.0 (itself group start) h.0 (λ x torn. torn_first group s.t x (subst (λ (k : ℕ). Torn k 1 s.t x) at_end torn)) in
    let run1 = weaker m l old new1 (Reached start (Changes T (Torn c.args.end 1))) P c.write_and_sync.ensures.any_moment step1 in
    let told1 = c.in_ok-write_and_sync.ensures.holds.forth s is in
    let mid1 = g.H.Shelf.may_leave new1 in
    let back1 = λ (x : Places) (left : mid1 x). run1.each x (g.met.H.Shelf.counts_now new1 (m old) x run1.later left) in
    let one = first c.args.end s told1.places h.1 told1.holds in
    let only1 : OnlyAt T (s.t ++ 0 ∷ []) mid1 = subst (λ (x : List ℕ). OnlyAt T x mid1) one.1 (c.in_ok-write_and_sync.ensures.settled told1.places told1.is) in
    let next_end : c.args.end + 1 ≡ length s.t + 1 = ap (λ (k : ℕ). k + 1) at_end in
    let new2 = c.write_and_sync-2.new.shelf in
    let step2 = stage group s.t start mid1 (s.t ++ 0 ∷ []) (c.args.end + 1) (length rest) h.0 back1 only1 (λ x torn. torn_rest group s.t x (length rest) (subst (λ (k : ℕ). Torn k (length rest) (s.t ++ 0 ∷ []) x) next_end torn)) in
    let run2 = and_then m l old new1 new2 P (Reached mid1 (Changes T (Torn (c.args.end + 1) (length rest)))) P run1 c.write_and_sync-2.ensures.any_moment (λ x r. r) step2 in
    let told2 = c.in_ok-write_and_sync-2.ensures.holds.forth told1.places told1.is in
    let mid2 = g.H.Shelf.may_leave new2 in
    let back2 = λ (x : Places) (left : mid2 x). run2.each x (g.met.H.Shelf.counts_now new2 (m old) x run2.later left) in
    let two = second c.args.end rest s told1.places told2.places one told2.holds in
    let only2 : OnlyAt T (s.t ++ 0 ∷ rest) mid2 = subst (λ (x : List ℕ). OnlyAt T x mid2) two.1 (c.in_ok-write_and_sync-2.ensures.settled told2.places told2.is) in
    let new3 = c.write_and_sync-3.new.shelf in
    let step3 = stage group s.t start mid2 (s.t ++ 0 ∷ rest) c.args.end 1 h.0 back2 only2 (λ x torn. torn_gate s.t x rest (subst (λ (k : ℕ). Torn k 1 (s.t ++ 0 ∷ rest) x) at_end torn)) in
    and_then m l old new2 new3 P (Reached mid2 (Changes T (Torn c.args.end 1))) P run2 c.write_and_sync-3.ensures.any_moment (λ x r. r) step3

pub returns-clause-any_moment : goal.returns-clause-any_moment
returns-clause-any_moment g c s is =
    let m = g.H.Shelf.moment in
    let l = g.H.Shelf.left_since in
    let old = c.args.shelf.now in
    let start = g.H.Shelf.may_leave old in
    let rest = c.args.rest.now in
    let group : List ℕ = 1 ∷ rest in
    let h = c.requires.settled s is in
    let P = Reached start (Changes T (MayGrow group)) in
    let at_end : c.args.end ≡ length s.t = sym h.1 in
    let new1 = c.write_and_sync.new.shelf in
    let step1 = stage group s.t start start s.t c.args.end 1 h.0 (itself group start) h.0 (λ x torn. torn_first group s.t x (subst (λ (k : ℕ). Torn k 1 s.t x) at_end torn)) in
    let run1 = weaker m l old new1 (Reached start (Changes T (Torn c.args.end 1))) P c.write_and_sync.ensures.any_moment step1 in
    let told1 = c.in_ok-write_and_sync.ensures.holds.forth s is in
    let mid1 = g.H.Shelf.may_leave new1 in
    let back1 = λ (x : Places) (left : mid1 x). run1.each x (g.met.H.Shelf.counts_now new1 (m old) x run1.later left) in
    let one = first c.args.end s told1.places h.1 told1.holds in
    let only1 : OnlyAt T (s.t ++ 0 ∷ []) mid1 = subst (λ (x : List ℕ). OnlyAt T x mid1) one.1 (c.in_ok-write_and_sync.ensures.settled told1.places told1.is) in
    let next_end : c.args.end + 1 ≡ length s.t + 1 = ap (λ (k : ℕ). k + 1) at_end in
    let new2 = c.write_and_sync-2.new.shelf in
    let step2 = stage group s.t start mid1 (s.t ++ 0 ∷ []) (c.args.end + 1) (length rest) h.0 back1 only1 (λ x torn. torn_rest group s.t x (length rest) (subst (λ (k : ℕ). Torn k (length rest) (s.t ++ 0 ∷ []) x) next_end torn)) in
    let run2 = and_then m l old new1 new2 P (Reached mid1 (Changes T (Torn (c.args.end + 1) (length rest)))) P run1 c.write_and_sync-2.ensures.any_moment (λ x r. r) step2 in
    let told2 = c.in_ok-write_and_sync-2.ensures.holds.forth told1.places told1.is in
    let mid2 = g.H.Shelf.may_leave new2 in
    let back2 = λ (x : Places) (left : mid2 x). run2.each x (g.met.H.Shelf.counts_now new2 (m old) x run2.later left) in
    let two = second c.args.end rest s told1.places told2.places one told2.holds in
    let only2 : OnlyAt T (s.t ++ 0 ∷ rest) mid2 = subst (λ (x : List ℕ). OnlyAt T x mid2) two.1 (c.in_ok-write_and_sync-2.ensures.settled told2.places told2.is) in
    let new3 = c.write_and_sync-3.new.shelf in
    let step3 = stage group s.t start mid2 (s.t ++ 0 ∷ rest) c.args.end 1 h.0 back2 only2 (λ x torn. torn_gate s.t x rest (subst (λ (k : ℕ). Torn k 1 (s.t ++ 0 ∷ rest) x) at_end torn)) in
    and_then m l old new2 new3 P (Reached mid2 (Changes T (Torn c.args.end 1))) P run2 c.write_and_sync-3.ensures.any_moment (λ x r. r) step3

pub write_and_sync-requires-2 : goal.write_and_sync-requires-2
write_and_sync-requires-2 g c n is =
    let b = c.in_ok-write_and_sync.ensures.holds.back n is in
    let h = c.requires.settled b.places b.is in
    let one = first c.args.end b.places n h.1 b.holds in
    omega (arith, ap length one.1, length-append b.places.t (0 ∷ []), h.1)

pub write_and_sync-requires-3 : goal.write_and_sync-requires-3
write_and_sync-requires-3 g c n is =
    let b = c.in_ok-write_and_sync-2.ensures.holds.back n is in
    let a = c.in_ok-write_and_sync.ensures.holds.back b.places b.is in
    let h = c.requires.settled a.places a.is in
    let two = second c.args.end c.args.rest.now a.places b.places n (first c.args.end a.places b.places h.1 a.holds) b.holds in
    omega (arith, ap length two.1, length-append a.places.t (0 ∷ c.args.rest.now), h.1)

pub returns-clause-grown : goal.returns-clause-grown
returns-clause-grown g c =
    let seen = g.H.Shelf.seen in
    let end = c.args.end in
    let rest = c.args.rest.now in
    let s0 = seen c.args.shelf.now in
    let s1 = seen c.write_and_sync.new.shelf in
    let s2 = seen c.write_and_sync-2.new.shelf in
    let s3 = seen c.write_and_sync-3.new.shelf in
    let one = known_as s0 s1 (Changes T (Holds end (0 ∷ []))) (First end) (λ x y is p. first end x y (c.requires.settled x is).1 p) c.in_ok-write_and_sync.ensures.holds in
    let two = known_on s0 s1 s2 (First end) (Changes T (Holds (end + 1) rest)) (Second end rest) (λ x y z is p q. second end rest x y z p q) one c.in_ok-write_and_sync-2.ensures.holds in
    known_on s0 s2 s3 (Second end rest) (Changes T (Holds end (1 ∷ []))) (Changes T (λ (before after : List ℕ). after ≡ before ++ 1 ∷ rest)) (λ x y z is p q. third end rest x y z p q) two c.in_ok-write_and_sync-3.ensures.holds

pub returns-in_err-write_and_sync-2-clause-others : goal.returns-in_err-write_and_sync-2-clause-others
returns-in_err-write_and_sync-2-clause-others g c =
    let seen = g.H.Shelf.seen in
    others_on (seen c.args.shelf.now) (seen c.write_and_sync.new.shelf) (seen c.write_and_sync-2.new.shelf) c.write_and_sync.ensures.others c.write_and_sync-2.ensures.others

pub returns-in_err-write_and_sync-3-clause-others : goal.returns-in_err-write_and_sync-3-clause-others
returns-in_err-write_and_sync-3-clause-others g c =
    let seen = g.H.Shelf.seen in
    others_on (seen c.args.shelf.now) (seen c.write_and_sync-2.new.shelf) (seen c.write_and_sync-3.new.shelf)
    (others_on (seen c.args.shelf.now) (seen c.write_and_sync.new.shelf) (seen c.write_and_sync-2.new.shelf) c.write_and_sync.ensures.others c.write_and_sync-2.ensures.others) c.write_and_sync-3.ensures.others

pub returns-clause-others : goal.returns-clause-others
returns-clause-others g c =
    let seen = g.H.Shelf.seen in
    others_on (seen c.args.shelf.now) (seen c.write_and_sync-2.new.shelf) (seen c.write_and_sync-3.new.shelf)
    (others_on (seen c.args.shelf.now) (seen c.write_and_sync.new.shelf) (seen c.write_and_sync-2.new.shelf) c.write_and_sync.ensures.others c.write_and_sync-2.ensures.others) c.write_and_sync-3.ensures.others
