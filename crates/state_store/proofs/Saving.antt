-- The state after an image was saved, and while the tail is cleared.
use Rattle.std.proofs.Common.{◌≡◌, ℕ, List, [], length, take, slice_index_or, Fits, w8, Option, None, Some, Result, Ok, inl, inr, refl, sym, ◌∙◌, ap, subst, arith}
use Rattle.std.proofs.lemmas.List.{take_all}
use Rattle.std.proofs.Math.Seq.{take-nil}
use Rattle.outside.specs.declared.shelf.Place.{Place}
use Rattle.outside.specs.declared.shelf.Place.TheVariants.{T}
use Rattle.outside.specs.Places.{Places, Changes}
use Rattle.outside.specs.Moments.{Reached}
use Rattle.mailbox_model.specs.Lists.{Bytes}
use Rattle.card_record.specs.Reading.{◌>>=◌}
use Rattle.card_record.specs.Spelling.{IsBytes}
use Rattle.checkpoint.specs.Slots.{Slot, chosen_of, next_place}
use Rattle.checkpoint.specs.Kept.{slot_kept, at_place, chosen_kept, kept_of, number_of}
use Rattle.checkpoint.specs.Saves.{AreSettled, SameOrNew}
use Rattle.tail_journal.specs.Groups.{Reading, nothing_more, reading_on, reading}
use Rattle.tail_journal.specs.Tails.{IsPrefix, ReadsAll}
use Rattle.tail_journal.specs.Read.{groups_from, EndsThere}
use Rattle.tail_journal.proofs.Growing.{none_in_nothing}
use Rattle.tail_journal.proofs.JointLaw.{none_counts}
use Rattle.state_store.specs.States.{State}
use Rattle.state_store.specs.Stands.{with_tail, stand_of, stands}
use Rattle.state_store.specs.Stored.{IsStored}
use Rattle.state_store.specs.Commits.{OldOrNew, IsLater}
use Rattle.state_store.specs.declared.store.Store.{Store}
use Rattle.state_store.proofs.Knowing.{same_chosen}
use Rattle.state_store.proofs.Standing.{stands_on, kept_number}
use Rattle.state_store.proofs.Appending.{is_settled}

nothing_in_nothing : (number : ℕ) → reading number [] ≡ Ok (nothing_more 0 number)
nothing_in_nothing number = ap (reading_on 0 number) none_in_nothing

-- from a later number no group of a prefix of T is applied
none_from : (number size : ℕ) (x : Places) (n : Option ℕ) → number_of (chosen_of x) ≡ n → IsLater number x → EndsThere n x.t → groups_from (Some number) (take size x.t) ≡ Ok []
none_from number size x None e later ends =
    let none : take size x.t ≡ [] = ap (take size) ends ∙ take-nil size in
    ap (groups_from (Some number)) none ∙ ap (λ (q : Result Reading ℕ). q >>= λ r. Ok r.groups) (nothing_in_nothing number)
none_from number size x (Some count) e later ends =
    ap (λ (q : Result Reading ℕ). q >>= λ r. Ok r.groups) (none_counts count number size x.t ends.0 ends.1 (later.read count ends.0 e ends.1))

module _ (me : Bytes) (new : State) (slot : Slot) (kept : slot_kept slot ≡ Ok (new.mailbox, new.position)) (x : Places) (later : IsLater slot.number x) (ends : EndsThere (number_of (chosen_of x)) x.t) where
  -- with the new slot chosen and a prefix of T, the new state stands
  pub saved_stands : (place : Place) (size : ℕ) (y : Places) → chosen_of y ≡ Some (place, slot) → y.t ≡ take size x.t → stands me y ≡ Ok new
  saved_stands place size y is prefix =
      let kept_is : kept_of y ≡ Ok (Some (new.mailbox, new.position)) = ap chosen_kept is ∙ ap (at_place place) kept in
      let number : Some slot.number ≡ Some new.position.count = sym (ap number_of is) ∙ kept_number (chosen_of y) (Some (new.mailbox, new.position)) kept_is in
      stands_on me y new (record {
        kept = Some (new.mailbox, new.position);
        groups = [];
        kept_is = kept_is;
        groups_are = (λ i. groups_from (sym number i) (prefix i)) ∙ none_from slot.number size x (number_of (chosen_of x)) refl later ends;
        after = refl;
      })

  pub same_or_saved : (y : Places) → SameOrNew slot x y → OldOrNew me new x y
  same_or_saved y h = elim h.slot [
    | inl same ↦ inl (λ i. stand_of me (with_tail (h.t i) (chosen_kept (same i))))
    | inr is ↦ inr (saved_stands (next_place (chosen_of x)) (length x.t) y is (h.t ∙ sym (take_all (length x.t) x.t (omega arith))))
  ]

-- from any number reading nothing comes to the end
pub ends_at_once : (number : ℕ) (x : Places) → number_of (chosen_of x) ≡ Some number → x.t ≡ [] → EndsThere (number_of (chosen_of x)) x.t
ends_at_once number x is none =
    let all : ReadsAll number [] (nothing_more 0 number) = record { is = nothing_in_nothing number; end = refl } in
    let ends : EndsThere (Some number) [] = (nothing_more 0 number, all) in
    subst (λ (n : Option ℕ). EndsThere n x.t) (sym is) (subst (EndsThere (Some number)) (sym none) ends)

-- ---- what a crash may leave

-- T is as it was while the slot is saved
pub tail_after_save : (slot : Slot) (store : Store) (outcomes : Places → Type 0) (x : Places) → IsStored store outcomes x → (d : Places) → Reached outcomes (SameOrNew slot) d → d.t ≡ x.t
tail_after_save slot store outcomes x stored d reached = reached.2.t ∙ ap (λ (p : Places). p.t) (is_settled store outcomes x stored reached.0 reached.1)

-- where A and B are settled, the chosen slot is that of what the reads give
pub chosen_left : (outcomes : Places → Type 0) (p : Places) (chosen : Option (Place × Slot)) → AreSettled p outcomes → chosen_of p ≡ chosen → (d : Places) → outcomes d → chosen_of d ≡ chosen
chosen_left outcomes p chosen settled is d left = same_chosen p d (settled.a d left, settled.b d left) ∙ is

module _ (me : Bytes) (new : State) (slot : Slot) (kept : slot_kept slot ≡ Ok (new.mailbox, new.position)) (store : Store) (outcomes : Places → Type 0) (x : Places) (stored : IsStored store outcomes x) (later : IsLater slot.number x) where
  pub save_leaves : (c : Places) → Reached outcomes (SameOrNew slot) c → Reached outcomes (OldOrNew me new) c
  save_leaves c reached =
      let here = same_or_saved me new slot kept x later stored.ends c in
      let same = is_settled store outcomes x stored reached.0 reached.1 in
      let is : OldOrNew me new reached.0 c = subst (λ (d : Places). SameOrNew slot d c → OldOrNew me new d c) (sym same) here reached.2 in
      (reached.0, reached.1, is)

  pub clear_leaves : (mid : Places → Type 0) (place : Place) → ((d : Places) → mid d → Reached outcomes (SameOrNew slot) d) → ((d : Places) → mid d → chosen_of d ≡ Some (place, slot))
      → (c : Places) → Reached mid (Changes T IsPrefix) c → Reached outcomes (OldOrNew me new) c
  clear_leaves mid place back chosen c reached =
      let from = back reached.0 reached.1 in
      let prefix = reached.2.2 in
      let is : chosen_of c ≡ Some (place, slot) = same_chosen reached.0 c (reached.2.0, reached.2.1) ∙ chosen reached.0 reached.1 in
      let one : OldOrNew me new from.0 c = inr (saved_stands me new slot kept x later stored.ends place prefix.size c is (prefix.is ∙ ap (take prefix.size) (tail_after_save slot store outcomes x stored reached.0 from))) in
      (from.0, from.1, one)

-- each element of a slice of bytes is a byte
pub are_bytes : (bytes : List ℕ) → ((i : ℕ) → Fits w8 (slice_index_or bytes i 0)) → IsBytes bytes
are_bytes bytes fits i = let fit = fits i in omega (arith, fit)
