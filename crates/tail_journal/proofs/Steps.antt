-- One frame after the other.
use Rattle.std.proofs.Common.{◌≡◌, ℕ, ◌+◌, ◌<◌, ◌≤◌, List, [], ◌∷◌, ◌++◌, length, map, drop, true, false, nat_lt, eqb, Result, Ok, Err, refl, sym, subst, ◌∙◌, ap, arith, append_assoc, length-drop}
use Rattle.std.proofs.lemmas.Bool.Decides.{nat_tests}
use Rattle.std.proofs.lemmas.List.{append-nil, map-append}
use Rattle.outside.specs.declared.shelf.Place.{Place}
use Rattle.outside.specs.declared.faults.StateFault.{StateFault}
use Rattle.outside.specs.declared.faults.StateFault.TheVariants as fault
use Rattle.card_record.specs.Reading.{◌>>=◌}
use Rattle.tail_journal.specs.declared.group.Group.{Group}
use Rattle.tail_journal.specs.Frames.{Frame, frame_size, frames, IsFirst}
use Rattle.tail_journal.specs.Groups.{Applied, Reading, with_first, applied, reading_on}
use Rattle.tail_journal.specs.Read.{applied_of, groups_of, in_tail, after_groups, Fails, GoesOn, EndsAt}
use Rattle.tail_journal.proofs.FrameLaws.{drop_twice}
use Rattle.tail_journal.proofs.ReadingLaws.{skipped, applies, stops}

after_none : (x : Result Reading ℕ) → x ≡ (x >>= λ r. Ok (after_groups [] r))
after_none (Ok r) = refl
after_none (Err at) = refl

less_is : (m n : ℕ) → m < n → nat_lt m n ≡ true
less_is m n lt = grind (arith, nat_tests)

pub skips : (bytes : List ℕ) (at count base : ℕ) (body : List ℕ) → IsFirst base body (drop at bytes) → at ≤ length bytes → base < count → (old : List Group) → GoesOn bytes at count (at + (13 + length body)) count old old
skips bytes at count base body first le less old =
    let next = at + (13 + length body) in
    let frame : Frame = record { base = base; body = body } in
    let rest : drop (13 + length body) (drop at bytes) ≡ drop next bytes = drop_twice at (13 + length body) bytes in
    record {
      more = [];
      groups = sym (append-nil old);
      is = ap (reading_on at count) first.is ∙ skipped frame (frames (drop (13 + length body) (drop at bytes))) at count (less_is base count less)
          ∙ ap (λ (l : List ℕ). reading_on next count (frames l)) rest ∙ after_none (reading_on next count (frames (drop next bytes)));
      onward = omega arith;
      within = omega (arith, first.within, length-drop at bytes, le);
    }

-- where the first part fails the whole fails
pub fails_first : {X Y : Type 0} (why : StateFault) (x : Result X ℕ) (f : X → Result Y ℕ) → Fails why x → Fails why (x >>= f)
fails_first (fault.Damaged place at) (Ok x) f fails = absurd (cc)
fails_first (fault.Damaged place at) (Err n) f fails = let same : in_tail {X = Place} (Err n) ≡ Err (place, at) = cc in cc
fails_first fault.Disk x f fails = tt
fails_first fault.Memory x f fails = tt

not_less : (n : ℕ) → nat_lt n n ≡ false
not_less n = grind (arith, nat_tests)

same_count : (n : ℕ) → eqb n n ≡ true
same_count n = grind (arith, nat_tests)

module _ (bytes : List ℕ) (at base : ℕ) (body : List ℕ) (first : IsFirst base body (drop at bytes)) where
  abbrev frame : Frame
  frame = record { base = base; body = body }

  abbrev rest : List Frame
  rest = frames (drop (13 + length body) (drop at bytes))

  applied_first : reading_on at base (frames (drop at bytes)) ≡ (applied at frame >>= λ group. reading_on (at + frame_size frame) group.position.count rest >>= λ more. Ok (with_first group more))
  applied_first = ap (reading_on at base) first.is ∙ applies frame rest at base (not_less base) (same_count base)

  pub applies_one : (group : Group) (old new : List Group) → at ≤ length bytes → applied at frame ≡ Ok (applied_of group) → new ≡ old ++ group ∷ [] → GoesOn bytes at base (at + (13 + length body)) group.position.count old new
  applies_one group old new le read is =
      let next = at + (13 + length body) in
      let tail : drop (13 + length body) (drop at bytes) ≡ drop next bytes = drop_twice at (13 + length body) bytes in
      record {
        more = group ∷ [];
        groups = is;
        is = applied_first ∙ ap (λ (x : Result Applied ℕ). x >>= λ g. reading_on next g.position.count rest >>= λ more. Ok (with_first g more)) read
            ∙ ap (λ (l : List ℕ). reading_on next group.position.count (frames l) >>= λ more. Ok (with_first (applied_of group) more)) tail;
        onward = omega arith;
        within = omega (arith, first.within, length-drop at bytes, le);
      }

  pub fails_one : (why : StateFault) → Fails why (applied at frame) → Fails why (reading_on at base (frames (drop at bytes)))
  fails_one why h =
      subst (Fails why) (sym applied_first) (fails_first why (applied at frame) (λ g. reading_on (at + frame_size frame) g.position.count rest >>= λ more. Ok (with_first g more)) h)

less_not : (m n : ℕ) → n < m → nat_lt m n ≡ false
less_not m n lt = grind (arith, nat_tests)

not_same : (m n : ℕ) → n < m → eqb m n ≡ false
not_same m n lt = grind (arith, nat_tests)

pub ends_before : (bytes : List ℕ) (at count base : ℕ) (body : List ℕ) (groups : List Group) → IsFirst base body (drop at bytes) → count < base → EndsAt bytes at count groups groups
ends_before bytes at count base body groups first more = record {
  groups = refl;
  is = ap (reading_on at count) first.is ∙ stops (record { base = base; body = body }) (frames (drop (13 + length body) (drop at bytes))) at count (less_not base count more) (not_same base count more);
}

-- ---- the loop

abbrev pub so_far : List Group → Result Reading ℕ → Result Reading ℕ
so_far groups read = read >>= λ r. Ok (after_groups (map applied_of groups) r)

both : (old more : List Group) (x : Result Reading ℕ) → so_far old (so_far more x) ≡ so_far (old ++ more) x
both old more (Ok r) = ap (λ (gs : List Applied). Ok (record { groups = gs; count = r.count; end = r.end })) (sym (append_assoc (map applied_of old) (map applied_of more) r.groups) ∙ ap (λ (l : List Applied). l ++ r.groups) (sym (map-append applied_of old more)))
both old more (Err at) = refl

pub one_more : (all : Result Reading ℕ) (bytes : List ℕ) (at count next later : ℕ) (old new : List Group) → so_far old (reading_on at count (frames (drop at bytes))) ≡ all → GoesOn bytes at count next later old new
    → so_far new (reading_on next later (frames (drop next bytes))) ≡ all
one_more all bytes at count next later old new leads goes =
    ap (λ (gs : List Group). so_far gs (reading_on next later (frames (drop next bytes)))) goes.groups ∙ sym (both old goes.more (reading_on next later (frames (drop next bytes)))) ∙ ap (so_far old) (sym goes.is) ∙ leads

pub is_read : (all : Result Reading ℕ) (bytes : List ℕ) (at count : ℕ) (old new : List Group) → so_far old (reading_on at count (frames (drop at bytes))) ≡ all → EndsAt bytes at count old new → groups_of all ≡ Ok (map applied_of new, at)
is_read all bytes at count old new leads ends =
    ap groups_of (sym leads ∙ ap (so_far old) ends.is) ∙ ap (λ (gs : List Applied). Ok (gs, at)) (append-nil (map applied_of old) ∙ ap (map applied_of) (sym ends.groups))

pub fails_all : (all : Result Reading ℕ) (why : StateFault) (bytes : List ℕ) (at count : ℕ) (old : List Group) → so_far old (reading_on at count (frames (drop at bytes))) ≡ all → Fails why (reading_on at count (frames (drop at bytes))) → Fails why (groups_of all)
fails_all all why bytes at count old leads h =
    subst (λ (x : Result Reading ℕ). Fails why (groups_of x)) leads
    (fails_first why (so_far old (reading_on at count (frames (drop at bytes)))) (λ r. Ok (r.groups, r.end))
    (fails_first why (reading_on at count (frames (drop at bytes))) (λ r. Ok (after_groups (map applied_of old) r)) h))

pub at_start : (x : Result Reading ℕ) → so_far [] x ≡ x
at_start x = sym (after_none x)
