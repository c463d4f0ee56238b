-- The parts of a save, one after the other.
use Rattle.std.proofs.Common.{◌≡◌, inl, inr, ⊎_elim, ℕ, List, nat_lt, Bool, true, false, Option, None, Some, refl, sym, ◌∙◌, ap}
use Rattle.std.proofs.lemmas.Bool.{cases_Bool}
use Rattle.outside.specs.declared.shelf.Place.{Place}
use Rattle.outside.specs.declared.shelf.Place.TheVariants.{A, B, T}
use Rattle.outside.specs.Places.{Places, OthersStay, content}
use Rattle.outside.specs.Moments.{Reached, KnownThen}
use Rattle.outside.proofs.Known.{known_on}
use Rattle.checkpoint.specs.Slots.{Slot, slot_of, is_closed, chosen, chosen_of, next_place, other_place}
use Rattle.checkpoint.specs.Saves.{SameOrNew}
use Rattle.checkpoint.specs.Parts.{IsTarget, SameChosen, StaysChosen}
use Rattle.checkpoint.proofs.Choice.{either, target_not_t}
use Rattle.checkpoint.proofs.Gates.{closed_slot}

pub as_new : (saved : Slot) (outcomes : Places → Type 0) (c : Places) → Reached outcomes SameChosen c → Reached outcomes (SameOrNew saved) c
as_new saved outcomes c r = (r.0, r.1, record { t = r.2.t; slot = inl r.2.slot })

pub same_same : (first mid : Places → Type 0) → ((c : Places) → mid c → Reached first SameChosen c) → (c : Places) → Reached mid SameChosen c → Reached first SameChosen c
same_same first mid back c r = let b = back r.0 r.1 in (b.0, b.1, record { t = r.2.t ∙ b.2.t; slot = r.2.slot ∙ b.2.slot })

pub same_new : (saved : Slot) (first mid : Places → Type 0) → ((c : Places) → mid c → Reached first SameChosen c) → (c : Places) → Reached mid (SameOrNew saved) c → Reached first (SameOrNew saved) c
same_new saved first mid back c r =
    let b = back r.0 r.1 in (
      b.0,
      b.1,
      record {
        t = r.2.t ∙ b.2.t;
        slot = ⊎_elim (λ e. inl (e ∙ b.2.slot)) (λ e. inr (e ∙ (λ i. Some (next_place (b.2.slot i), saved)))) r.2.slot;
      },
    )

pub still : (place : Place) (outcomes : Places → Type 0) (s : Places) → IsTarget place outcomes s → StaysChosen place outcomes s s
still place outcomes s is = record { settled = is.settled; same = refl; other = refl }

stay_on : (place : Place) (x y z : Places) → OthersStay place x y → OthersStay place y z → OthersStay place x z
stay_on A x y z p q = (q.0 ∙ p.0, q.1 ∙ p.1)
stay_on B x y z p q = (q.0 ∙ p.0, q.1 ∙ p.1)
stay_on T x y z p q = (q.0 ∙ p.0, q.1 ∙ p.1)

-- the other two places, call after call
pub others_on : (place : Place) (o m n : Option Places) → KnownThen o m (OthersStay place) → KnownThen m n (OthersStay place) → KnownThen o n (OthersStay place)
others_on place o m n p q = known_on o m n (OthersStay place) (OthersStay place) (OthersStay place) (λ x y z is. stay_on place x y z) p q

pub stays_target : (place : Place) (old new : Places → Type 0) (s n : Places) → IsTarget place old s → StaysChosen place new s n → IsTarget place new n
stays_target place old new s n is stays = record { settled = stays.settled; is = ap next_place stays.same ∙ is.is }

-- the gate of an open slot is open
open_of : (bytes : List ℕ) (saved : Slot) → slot_of bytes ≡ Some saved → is_closed bytes ≡ false
open_of bytes saved is = elim (cases_Bool (is_closed bytes)) [ inl closed ↦ absurd (let e = sym (closed_slot bytes closed) ∙ is in cc) | inr open_ ↦ open_ ]

abbrev slot_in : Option (Place × Slot) → Option Slot
slot_in None = None
slot_in (Some p) = Some p.1

chosen_at_a : (b : Bool) (s u n : Slot) → either b s u ≡ Some (A, n) → Some s ≡ Some n
chosen_at_a true s u n e = absurd (let h = ap next_place e in cc)
chosen_at_a false s u n e = ap slot_in e

chosen_at_b : (b : Bool) (s u n : Slot) → either b s u ≡ Some (B, n) → Some u ≡ Some n
chosen_at_b true s u n e = ap slot_in e
chosen_at_b false s u n e = absurd (let h = ap next_place e in cc)

slot_at_a : (x y : Option Slot) (n : Slot) → chosen x y ≡ Some (A, n) → x ≡ Some n
slot_at_a None None n e = absurd (cc)
slot_at_a None (Some u) n e = absurd (let h = ap next_place e in cc)
slot_at_a (Some s) None n e = ap slot_in e
slot_at_a (Some s) (Some u) n e = chosen_at_a (nat_lt s.number u.number) s u n e

slot_at_b : (x y : Option Slot) (n : Slot) → chosen x y ≡ Some (B, n) → y ≡ Some n
slot_at_b None None n e = absurd (cc)
slot_at_b None (Some u) n e = ap slot_in e
slot_at_b (Some s) None n e = absurd (let h = ap next_place e in cc)
slot_at_b (Some s) (Some u) n e = chosen_at_b (nat_lt s.number u.number) s u n e

-- where the place was the other one of before, and is chosen now
pub gate_of_chosen : (place : Place) (saved : Slot) (x y : Places) → next_place (chosen_of x) ≡ place → chosen_of y ≡ Some (place, saved) → is_closed (content y (other_place (other_place place))) ≡ false
gate_of_chosen A saved x y t is = open_of y.a saved (slot_at_a (slot_of y.a) (slot_of y.b) saved is)
gate_of_chosen B saved x y t is = open_of y.b saved (slot_at_b (slot_of y.a) (slot_of y.b) saved is)
gate_of_chosen T saved x y t is = absurd (target_not_t (chosen_of x) t)
