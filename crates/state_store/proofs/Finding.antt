-- What an opening finds.
use Rattle.std.proofs.Common.{◌≡◌, ℕ, List, length, Option, None, Some, Result, Ok, Err, refl, sym, ◌∙◌, ap, subst}
use Rattle.outside.specs.declared.shelf.Place.{Place}
use Rattle.outside.specs.declared.shelf.Place.TheVariants.{T}
use Rattle.outside.specs.Places.{Places, Changes}
use Rattle.outside.specs.StateFaults.{Fails}
use Rattle.outside.specs.declared.faults.StateFault.{StateFault}
use Rattle.outside.specs.declared.faults.StateFault.TheVariants as fault
use Rattle.outside.specs.Moments.{LeavesOnly, Reached, WhereKnown, KnownThen}
use Rattle.outside.proofs.Known.{known_on}
use Rattle.outside.proofs.Moments.{and_then}
use Rattle.mailbox_model.specs.Lists.{Bytes}
use Rattle.mailbox_model.specs.Mailbox.{Mailbox}
use Rattle.box_state.specs.Kept.{Kept}
use Rattle.state_image.specs.declared.position.Position.{Position}
use Rattle.checkpoint.specs.Kept.{kept_of, count_of, seen_kept}
use Rattle.checkpoint.specs.Saves.{AreSettled}
use Rattle.tail_journal.specs.Groups.{Applied}
use Rattle.tail_journal.specs.Read.{groups_from, in_tail, EndsThere, SameReading}
use Rattle.state_store.specs.States.{State}
use Rattle.state_store.specs.Stands.{Found, count_in, with_groups, with_tail, found_of, stand_of, stands}
use Rattle.state_store.specs.Stored.{SameFound, end_of, read_size}
use Rattle.state_store.proofs.Knowing.{same_found}

pub count_is : (kept : Option (Kept × Position)) → count_in (seen_kept kept) ≡ count_of kept
count_is None = refl
count_is (Some read) = refl

groups_are : (kept : Option (Mailbox × Position)) (groups : List Applied) (x : Result (List Applied) ℕ) → in_tail x ≡ Ok groups → with_groups kept x ≡ Ok (record { kept = kept; groups = groups })
groups_are kept groups (Ok g) e = let same : g ≡ groups = cc in ap (λ (l : List Applied). Ok (record { kept = kept; groups = l })) same
groups_are kept groups (Err at) e = absurd (cc)

none_are : (kept : Option (Mailbox × Position)) (why : StateFault) (x : Result (List Applied) ℕ) → Fails why (in_tail x) → Fails why (with_groups kept x)
none_are kept (fault.Damaged place at) (Ok g) e = absurd (cc)
none_are kept (fault.Damaged place at) (Err n) e = let same : (T, n) ≡ (place, at) = cc in ap (λ (p : Place × ℕ). Err p) same
none_are kept fault.Disk x e = tt
none_are kept fault.Memory x e = tt

module _ (kept : Option (Mailbox × Position)) (number : Option ℕ) (count : count_in kept ≡ number) (p : Places) (is : kept_of p ≡ Ok kept) where
  found_with : found_of p ≡ with_groups kept (groups_from number p.t)
  found_with = ap (with_tail p.t) is ∙ ap (λ (n : Option ℕ). with_groups kept (groups_from n p.t)) count

  pub finds : (groups : List Applied) → in_tail (groups_from number p.t) ≡ Ok groups → found_of p ≡ Ok (record { kept = kept; groups = groups })
  finds groups e = found_with ∙ groups_are kept groups (groups_from number p.t) e

  pub finds_none : (why : StateFault) → Fails why (in_tail (groups_from number p.t)) → Fails why (found_of p)
  finds_none why e = subst (Fails why) (sym found_with) (none_are kept why (groups_from number p.t) e)

  pub finds_same : (q : Places) → Changes T (SameReading number) p q → SameFound p q
  finds_same q changes = same_found p q kept is (subst (λ (n : Option ℕ). Changes T (SameReading n) p q) (sym count) changes)

-- ---- what stands

-- where nothing is found nothing stands
pub none_stands : (me : Bytes) (p : Places) (why : StateFault) → Fails why (found_of p) → Fails why (stands me p)
none_stands me p (fault.Damaged place at) e = ap (stand_of me) e
none_stands me p fault.Disk e = tt
none_stands me p fault.Memory e = tt

module _ (me : Bytes) (p : Places) (found : Found) (is : found_of p ≡ Ok found) where
  pub not_restored : (why : StateFault) → Fails why (stand_of me (Ok found)) → Fails why (stands me p)
  not_restored why e = subst (λ (x : Result Found (Place × ℕ)). Fails why (stand_of me x)) (sym is) e

  pub restored : (s : State) → stand_of me (Ok found) ≡ Ok s → stands me p ≡ Ok s
  restored s e = ap (stand_of me) is ∙ e

-- ---- over a shelf

module _ {D : Type 0} (seen : D → Option Places) (may_leave : D → Places → Type 0) (moment : D → ℕ) (left_since : D → ℕ → Places → Type 0) (old mid new : D)
    (kept : Option (Mailbox × Position)) (number : Option ℕ) (count : count_in kept ≡ number) (reads : KnownThen (seen old) (seen mid) (λ a b. b ≡ a)) (is : WhereKnown (seen old) (λ p. kept_of p ≡ Ok kept)) where
  kept_after : WhereKnown (seen mid) (λ p. kept_of p ≡ Ok kept)
  kept_after p known = let b = reads.back p known in ap kept_of b.holds ∙ is b.places b.is

  pub opens_same : KnownThen (seen mid) (seen new) (Changes T (SameReading number)) → KnownThen (seen old) (seen new) SameFound
  opens_same same = known_on (seen old) (seen mid) (seen new) (λ a b. b ≡ a) (Changes T (SameReading number)) SameFound
      (λ x y z known e h. finds_same kept number count y (kept_after y known) z h ∙ ap found_of e) reads same

  pub opens_leaving : (p : Places) → seen old ≡ Some p → ((c : Places) → may_leave mid c → may_leave old c) → WhereKnown (seen mid) (λ q. AreSettled q (may_leave mid)) → LeavesOnly moment left_since old mid (may_leave old)
      → WhereKnown (seen mid) (λ _. LeavesOnly moment left_since mid new (Reached (may_leave mid) (Changes T (SameReading number)))) → LeavesOnly moment left_since old new (Reached (may_leave old) SameFound)
  opens_leaving p known back settled first then_tail =
      let at = reads.forth p known in
      let s = settled at.places at.is in
      let all : (d : Places) → may_leave mid d → kept_of d ≡ Ok kept = λ d left. (λ i. kept_of (record { a = s.a d left i; b = s.b d left i; t = d.t })) ∙ kept_after at.places at.is in
      and_then moment left_since old mid new (may_leave old) (Reached (may_leave mid) (Changes T (SameReading number))) (Reached (may_leave old) SameFound) first (then_tail at.places at.is)
      (λ c left. let here : SameFound c c = refl in (c, left, here))
      (λ c r. (r.0, back r.0 r.1, finds_same kept number count r.0 (all r.0 r.1) c r.2))

-- ---- how full the store is

-- of a tail that ends where the same is read to its end
pub size_is : (number : Option ℕ) (old new : List ℕ) (size : ℕ) → SameReading number old new → EndsThere number new → length new ≡ size → size ≡ read_size number old
size_is None old new size same ends is = sym is ∙ ap length ends
size_is (Some count) old new size same (r, all) is = sym (ap end_of (sym same ∙ all.is) ∙ all.end ∙ is)
