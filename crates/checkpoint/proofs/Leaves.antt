-- What a part of a save leaves of the chosen slot.
use Rattle.std.proofs.Common.{◌≡◌, ◌⊎◌, inl, inr, ⊎_elim, ℕ, List, None, Some, Result, Ok, Err, OnOk, sym, ◌∙◌, ap, subst}
use Rattle.outside.specs.declared.shelf.Place.{Place}
use Rattle.outside.specs.declared.shelf.Place.TheVariants.{A, B, T}
use Rattle.outside.specs.Places.{Places, Changes, OthersStay, content}
use Rattle.outside.specs.Moments.{Reached, IsSettled}
use Rattle.checkpoint.specs.Slots.{Slot, slot_of, chosen, chosen_of, other_place, next_place}
use Rattle.checkpoint.specs.Saves.{AreSettled, IsAbove, SameOrNew}
use Rattle.checkpoint.specs.Parts.{IsTarget, SameChosen, StaysChosen, IsChosen}
use Rattle.checkpoint.proofs.Writes.{change_at}
use Rattle.checkpoint.proofs.Choice.{same_at, new_at, target_not_t}

-- of two facts after an Ok
pub on_ok_both : {X E : Type 0} (r : Result X E) {P Q R : Type 0} → (P → Q → R) → OnOk r P → OnOk r Q → OnOk r R
on_ok_both (Ok x) f p q = f p q
on_ok_both (Err e) f p q = tt

-- an outcome of settled places has the same slots
pub chosen_same : (outcomes : Places → Type 0) (s d : Places) → AreSettled s outcomes → outcomes d → chosen_of d ≡ chosen_of s
chosen_same outcomes s d settled left i = chosen (slot_of (settled.a d left i)) (slot_of (settled.b d left i))

pub content_same : (place : Place) (outcomes : Places → Type 0) (s d : Places) → IsTarget place outcomes s → outcomes d → content d place ≡ content s place
content_same A outcomes s d is left = is.settled.a d left
content_same B outcomes s d is left = is.settled.b d left
content_same T outcomes s d is left = absurd (target_not_t (chosen_of s) is.is)

t_stays : (place : Place) (R : List ℕ → List ℕ → Type 0) (s d c : Places) → next_place (chosen_of s) ≡ place → Changes place R d c → c.t ≡ d.t
t_stays A R s d c is step = step.2
t_stays B R s d c is step = step.2
t_stays T R s d c is step = absurd (target_not_t (chosen_of s) is)

-- the same where the other two stay
pub tail_stays : (place : Place) (s x y : Places) → next_place (chosen_of s) ≡ place → OthersStay place x y → y.t ≡ x.t
tail_stays A s x y is stay = stay.1
tail_stays B s x y is stay = stay.1
tail_stays T s x y is stay = absurd (target_not_t (chosen_of s) is)

other_stays : (place : Place) (R : List ℕ → List ℕ → Type 0) (s d c : Places) → next_place (chosen_of s) ≡ place → Changes place R d c → content c (other_place place) ≡ content d (other_place place)
other_stays A R s d c is step = step.1
other_stays B R s d c is step = step.0
other_stays T R s d c is step = absurd (target_not_t (chosen_of s) is)

settled_after : (place : Place) (R H : List ℕ → List ℕ → Type 0) (before after : Places → Type 0) (s n : Places) → IsTarget place before s → Changes place H s n → IsSettled place n after
    → ((c : Places) → after c → Reached before (Changes place R) c) → AreSettled n after
settled_after A R H before after s n is step only reach = record { a = only; b = λ c left. let r = reach c left in r.2.1 ∙ is.settled.b r.0 r.1 ∙ sym step.1 }
settled_after B R H before after s n is step only reach = record { a = λ c left. let r = reach c left in r.2.0 ∙ is.settled.a r.0 r.1 ∙ sym step.0; b = only }
settled_after T R H before after s n is step only reach = absurd (target_not_t (chosen_of s) is.is)

module _ (place : Place) (before : Places → Type 0) (s : Places) (is : IsTarget place before s) where
  -- of each outcome
  at_target : (d : Places) → before d → next_place (chosen_of d) ≡ place
  at_target d left = ap next_place (chosen_same before s d is.settled left) ∙ is.is

  pub same_reached : (R : List ℕ → List ℕ → Type 0) → ((old new : List ℕ) → old ≡ content s place → R old new → (slot_of new ≡ None) ⊎ (slot_of new ≡ slot_of old)) → (c : Places) → Reached before (Changes place R) c → Reached before SameChosen c
  same_reached R f c r =
      let d = r.0 in (
        d,
        r.1,
        record {
          t = t_stays place R s d c is.is r.2;
          slot = same_at place R d c (at_target d r.1) r.2 (f (content d place) (content c place) (content_same place before s d is r.1) (change_at place R d c r.2));
        },
      )

  new_place : (saved : Slot) (d c : Places) → before d → chosen_of c ≡ Some (place, saved) → chosen_of c ≡ Some (next_place (chosen_of d), saved)
  new_place saved d c left e = e ∙ (λ i. Some (sym (at_target d left) i, saved))

  pub new_reached : (R : List ℕ → List ℕ → Type 0) (saved : Slot) → IsAbove saved.number (chosen_of s) → ((old new : List ℕ) → old ≡ content s place → R old new → (slot_of new ≡ None) ⊎ (slot_of new ≡ Some saved)) → (c : Places) → Reached before (Changes place R) c → Reached before (SameOrNew saved) c
  new_reached R saved above f c r =
      let d = r.0 in
      let above_d = subst (IsAbove saved.number) (sym (chosen_same before s d is.settled r.1)) above in (
        d,
        r.1,
        record {
          t = t_stays place R s d c is.is r.2;
          slot = ⊎_elim (λ e. inl (same_at place R d c (at_target d r.1) r.2 (inl e))) (λ e. inr (new_place saved d c r.1 (new_at place R saved d c (at_target d r.1) above_d r.2 e)))
              (f (content d place) (content c place) (content_same place before s d is r.1) (change_at place R d c r.2));
        },
      )

  pub same_done : (R H : List ℕ → List ℕ → Type 0) (after : Places → Type 0) (n : Places) → Changes place H s n → IsSettled place n after → ((c : Places) → after c → Reached before (Changes place R) c)
      → (slot_of (content n place) ≡ None) ⊎ (slot_of (content n place) ≡ slot_of (content s place)) → StaysChosen place after s n
  same_done R H after n step only reach slot = record {
    settled = settled_after place R H before after s n is step only reach;
    same = same_at place H s n is.is step slot;
    other = other_stays place H s s n is.is step;
  }

  pub new_done : (R H : List ℕ → List ℕ → Type 0) (after : Places → Type 0) (saved : Slot) (n : Places) → IsAbove saved.number (chosen_of s) → Changes place H s n → IsSettled place n after → ((c : Places) → after c → Reached before (Changes place R) c)
      → slot_of (content n place) ≡ Some saved → IsChosen place saved after s n
  new_done R H after saved n above step only reach slot = record {
    settled = settled_after place R H before after s n is step only reach;
    is = new_at place H saved s n is.is above step slot;
    other = other_stays place H s s n is.is step;
  }
