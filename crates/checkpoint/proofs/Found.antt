-- What is found in the slots.
use Rattle.std.proofs.Common.{◌≡◌, ℕ, Bool, true, false, Option, None, Some, Result, Ok, Err, cond, eqb, refl, sym, ◌∙◌, ap, arith}
use Rattle.std.proofs.lemmas.Bool.Decides.{nat_tests}
use Rattle.outside.specs.declared.shelf.Place.{Place}
use Rattle.outside.specs.declared.shelf.Place.TheVariants.{A, B, T}
use Rattle.outside.specs.Places.{Places, content}
use Rattle.outside.specs.Crash.{WasOutcome}
use Rattle.mailbox_model.specs.Mailbox.{Mailbox}
use Rattle.box_state.specs.Kept.{Kept}
use Rattle.state_image.specs.declared.fault.ImageFault.{ImageFault}
use Rattle.state_image.specs.declared.fault.ImageFault.TheVariants.{Version, Malformed, Memory}
use Rattle.state_image.specs.declared.position.Position.{Position}
use Rattle.state_image.specs.Images.{image_of}
use Rattle.checkpoint.specs.declared.front.Front.{Front}
use Rattle.checkpoint.specs.declared.front.Stated.{Stated}
use Rattle.checkpoint.specs.declared.slots.Slots.{Slots}
use Rattle.checkpoint.specs.Slots.{Slot, chosen_of, next_place, other_place, is_closed}
use Rattle.checkpoint.specs.Kept.{numbered, slot_kept, at_place, chosen_kept, number_of, count_of, seen_kept}
use Rattle.checkpoint.specs.Saves.{AreSettled}
use Rattle.checkpoint.specs.Known.{Knows}
use Rattle.checkpoint.specs.Parts.{HasChosen, IsFront}
use Rattle.checkpoint.proofs.Choice.{target_not_t}

pub still_settled : (places : Places) (before after : Places → Type 0) → AreSettled places before → WasOutcome before after → AreSettled places after
still_settled places before after settled was = record { a = λ c left. settled.a c (was c left); b = λ c left. settled.b c (was c left) }

-- ---- the slots that are known

next_same : (places : Places) (s : Option (Place × Stated)) → HasChosen places s → next_place (chosen_of places) ≡ next_place s
next_same places None has = ap next_place has
next_same places (Some p) has = ap next_place has.0

module _ (places : Places) (outcomes : Places → Type 0) (slots : Slots) (s : Option (Place × Stated)) (a b : Front) (has : HasChosen places s) (front_a : IsFront a places.a) (front_b : IsFront b places.b) (next : slots.next ≡ next_place s)
    (in_a : slots.next ≡ A → (slots.closed ≡ a.closed) × (slots.other_closed ≡ b.closed)) (in_b : slots.next ≡ B → (slots.closed ≡ b.closed) × (slots.other_closed ≡ a.closed)) where
  next_is : next_place (chosen_of places) ≡ slots.next
  next_is = next_same places s has ∙ sym next

  gates : (p : Place) → slots.next ≡ p → (is_closed (content places slots.next) ≡ slots.closed) × (is_closed (content places (other_place slots.next)) ≡ slots.other_closed)
  gates A e = (ap (λ (p : Place). is_closed (content places p)) e ∙ sym front_a.closed ∙ sym (in_a e).0, ap (λ (p : Place). is_closed (content places (other_place p))) e ∙ sym front_b.closed ∙ sym (in_a e).1)
  gates B e = (ap (λ (p : Place). is_closed (content places p)) e ∙ sym front_b.closed ∙ sym (in_b e).0, ap (λ (p : Place). is_closed (content places (other_place p))) e ∙ sym front_a.closed ∙ sym (in_b e).1)
  gates T e = absurd (target_not_t (chosen_of places) (next_is ∙ e))

  pub knows : AreSettled places outcomes → Knows slots outcomes places
  knows settled = record { settled = settled; next = next_is; closed = (gates slots.next refl).0; other_closed = (gates slots.next refl).1 }

-- ---- what is kept

pub counted : (b : Bool) (x k : Mailbox × Position) → cond {A = Result (Mailbox × Position) ℕ} b (Ok x) (Err 1) ≡ Ok k → (b ≡ true) × (x ≡ k)
counted true x k e = (refl, cc)
counted false x k e = absurd (cc)

numbered_count : (n : ℕ) (r : Result (Mailbox × Position) ImageFault) (k : Mailbox × Position) → numbered n r ≡ Ok k → n ≡ k.1.count
numbered_count n (Ok x) k e = let h = counted (eqb x.1.count n) x k e in let same : x.1.count ≡ n = (let t = h.0 in grind (arith, nat_tests)) in sym same ∙ ap (λ (p : Mailbox × Position). p.1.count) h.1
numbered_count n (Err Version) k e = absurd (cc)
numbered_count n (Err (Malformed at)) k e = absurd (cc)
numbered_count n (Err Memory) k e = absurd (cc)

within : (b : Bool) (x : Result (Mailbox × Position) ℕ) (k : Mailbox × Position) → cond {A = Result (Mailbox × Position) ℕ} b (Err 9) x ≡ Ok k → x ≡ Ok k
within true x k e = absurd (cc)
within false x k e = e

slot_count : (place : Place) (number : ℕ) (r : Result (Mailbox × Position) ℕ) (kept : Option (Kept × Position)) → ((k : Mailbox × Position) → r ≡ Ok k → number ≡ k.1.count) → at_place place r ≡ Ok (seen_kept kept)
    → Some number ≡ count_of kept
slot_count place number (Ok x) None f e = absurd (cc)
slot_count place number (Ok x) (Some read) f e = let same : x ≡ (read.0.mailbox, read.1) = cc in ap Some (f x refl ∙ ap (λ (k : Mailbox × Position). k.1.count) same)
slot_count place number (Err at) kept f e = absurd (cc)

-- the number of the chosen slot is the count of what it keeps
pub number_is : (x : Option (Place × Slot)) (kept : Option (Kept × Position)) → chosen_kept x ≡ Ok (seen_kept kept) → number_of x ≡ count_of kept
number_is None None e = refl
number_is None (Some read) e = absurd (cc)
number_is (Some p) kept e = slot_count p.0 p.1.number (slot_kept p.1) kept (λ k is. numbered_count p.1.number (image_of p.1.image) k (within _ _ k is)) e
