-- What a store knows, where only T changes.
use Rattle.std.proofs.Common.{◌≡◌, ◌≢◌, ℕ, List, Option, None, Some, Result, Ok, is_some, refl, sym, ◌∙◌, ap}
use Rattle.outside.specs.declared.shelf.Place.{Place}
use Rattle.outside.specs.declared.shelf.Place.TheVariants.{A, B, T}
use Rattle.outside.specs.Places.{Places, content, Changes, OthersStay}
use Rattle.outside.specs.Moments.{Reached}
use Rattle.mailbox_model.specs.Mailbox.{Mailbox}
use Rattle.card_record.specs.Reading.{◌>>=◌}
use Rattle.state_image.specs.declared.position.Position.{Position}
use Rattle.checkpoint.specs.Slots.{Slot, slot_of, chosen, chosen_of, next_place, other_place, is_closed}
use Rattle.checkpoint.specs.Kept.{chosen_kept, kept_of, number_of}
use Rattle.checkpoint.specs.Known.{Knows}
use Rattle.checkpoint.specs.declared.slots.Slots.{Slots}
use Rattle.checkpoint.proofs.Choice.{target_not_t}
use Rattle.tail_journal.specs.Groups.{Reading}
use Rattle.tail_journal.specs.Read.{groups_from, SameReading}
use Rattle.state_store.specs.Stands.{count_in, with_groups, with_tail, found_of}
use Rattle.state_store.specs.Stored.{SameFound}

-- it comes of an outcome with the same A and B
abbrev pub OnlyTail : (Places → Type 0) → (Places → Type 0) → Type 0
OnlyTail before after = (c : Places) → after c → (d : Places) × before d × (c.a ≡ d.a) × (c.b ≡ d.b)

pub only_tail : (before after : Places → Type 0) (Q : List ℕ → List ℕ → Type 0) → ((c : Places) → after c → Reached before (Changes T Q) c) → OnlyTail before after
only_tail before after Q f c left = let r = f c left in (r.0, r.1, r.2.0, r.2.1)

pub same_chosen : (x y : Places) → OthersStay T x y → chosen_of y ≡ chosen_of x
same_chosen x y stay = λ i. chosen (slot_of (stay.0 i)) (slot_of (stay.1 i))

same_other : (x y : Places) (p : Place) → OthersStay T x y → content y (other_place p) ≡ content x (other_place p)
same_other x y A stay = stay.1
same_other x y B stay = stay.0
same_other x y T stay = stay.0

same_target : (x y : Places) (p : Place) → (p ≢ T) → OthersStay T x y → content y p ≡ content x p
same_target x y A ne stay = stay.0
same_target x y B ne stay = stay.1
same_target x y T ne stay = absurd (ne refl)

pub knows_on : (slots : Slots) (before after : Places → Type 0) (x y : Places) → Knows slots before x → OthersStay T x y → OnlyTail before after → Knows slots after y
knows_on slots before after x y k stay from = record {
  settled = record {
    a = λ c left. let d = from c left in d.2 ∙ k.settled.a d.0 d.1 ∙ sym stay.0;
    b = λ c left. let d = from c left in d.3 ∙ k.settled.b d.0 d.1 ∙ sym stay.1;
  };
  next = ap next_place (same_chosen x y stay) ∙ k.next;
  closed = ap is_closed (same_target x y slots.next (λ e. target_not_t (chosen_of x) (k.next ∙ e)) stay) ∙ k.closed;
  other_closed = ap is_closed (same_other x y slots.next stay) ∙ k.other_closed;
}

pub some_number : (p : Option (Place × Slot)) → is_some (number_of p) ≡ is_some p
some_number None = refl
some_number (Some p) = refl

-- ---- what is found

pub same_kept : (x y : Places) → OthersStay T x y → kept_of y ≡ kept_of x
same_kept x y stay = ap chosen_kept (same_chosen x y stay)

same_groups : (number : Option ℕ) (old new : List ℕ) → SameReading number old new → groups_from number new ≡ groups_from number old
same_groups None old new same = refl
same_groups (Some count) old new same = ap (λ (x : Result Reading ℕ). x >>= λ r. Ok r.groups) same

pub same_found : (x y : Places) (kept : Option (Mailbox × Position)) → kept_of x ≡ Ok kept → Changes T (SameReading (count_in kept)) x y → SameFound x y
same_found x y kept is changes =
    let here : found_of x ≡ with_groups kept (groups_from (count_in kept) x.t) = ap (with_tail x.t) is in
    let there : found_of y ≡ with_groups kept (groups_from (count_in kept) y.t) = ap (with_tail y.t) (same_kept x y (changes.0, changes.1) ∙ is) in
    there ∙ ap (with_groups kept) (same_groups (count_in kept) x.t y.t changes.2) ∙ sym here
