use Rattle.std.proofs.Common.{◌≡◌, [], length, is_some, Some, Ok, sym, ◌∙◌, ap}
use Rattle.outside.specs.declared.shelf.Place.TheVariants.{T}
use Rattle.outside.specs.Places.{Places, Changes, OthersStay}
use Rattle.outside.specs.Moments.{Reached}
use Rattle.outside.proofs.Known.{known_on, known_with}
use Rattle.mailbox_model.specs.Lists.{Bytes}
use Rattle.state_image.specs.Images.{image, image_of}
use Rattle.state_store.specs.States.{State}
use Rattle.state_store.specs.Stands.{stands}
use Rattle.outside.proofs.Moments.{weaker, and_then}
use Rattle.checkpoint.specs.Slots.{Slot, chosen_of, next_place}
use Rattle.checkpoint.specs.Saves.{SameOrNew, IsNew}
use Rattle.checkpoint.specs.Kept.{slot_kept, number_of}
use Rattle.tail_journal.specs.Tails.{IsPrefix}
use Rattle.state_store.specs.Commits.{OldOrNew}
use Rattle.state_store.proofs.Knowing.{only_tail, same_chosen, knows_on}
use Rattle.state_store.proofs.Saving.{are_bytes, saved_stands, ends_at_once, tail_after_save, chosen_left, save_leaves, clear_leaves}
use Rattle.state_store.proofs.commit.checkpoint.Goals as goal

pub save-requires-clause-known : goal.save-requires-clause-known
save-requires-clause-known g c places is = (c.requires.stored places is).slots

pub returns-in_err-save-clause-any_moment : goal.returns-in_err-save-clause-any_moment
returns-in_err-save-clause-any_moment g c places is me new text read count =
    let H = g.H.Shelf in
    let start = H.may_leave c.args.shelf.now in
    let slot : Slot = record { number = c.args.number; image = c.args.bytes.now } in
    let has = c.each_mailbox_has_one_image.ensures.spelled c.args.bytes.now new.mailbox new.position (are_bytes c.args.bytes.now c.type_inv.bytes) read in
    let kept : slot_kept slot ≡ Ok (new.mailbox, new.position) = (λ i. slot_kept (record { number = sym count i; image = text i })) ∙ c.a_saved_image_is_kept.ensures new.mailbox new.position has.0 in
    weaker H.moment H.left_since c.args.shelf.now c.save.new.shelf (Reached start (SameOrNew slot)) (Reached start (OldOrNew me new)) (c.save.ensures.any_moment places is)
    (save_leaves me new slot kept c.args.store.now start places (c.requires.stored places is) (c.requires.later places is))

pub clear-requires : goal.clear-requires
clear-requires g c = record {
  known = λ p known.
      let H = g.H.Shelf in
      let slot : Slot = record { number = c.args.number; image = c.args.bytes.now } in
      let from = c.save.ensures.tail.back p known in
      let stored = c.requires.stored from.places from.is in
      let run = c.save.ensures.any_moment from.places from.is in
      record {
        settled = λ d left. tail_after_save slot c.args.store.now (H.may_leave c.args.shelf.now) from.places stored d (run.each d (g.met.H.Shelf.counts_now c.save.new.shelf (H.moment c.args.shelf.now) d run.later left)) ∙ sym from.holds;
        size = ap length from.holds ∙ stored.tail.size;
      };
}

pub returns-in_err-clear-clause-any_moment : goal.returns-in_err-clear-clause-any_moment
returns-in_err-clear-clause-any_moment g c places is me new text read count =
    let H = g.H.Shelf in
    let start = H.may_leave c.args.shelf.now in
    let mid = H.may_leave c.save.new.shelf in
    let slot : Slot = record { number = c.args.number; image = c.args.bytes.now } in
    let has = c.each_mailbox_has_one_image.ensures.spelled c.args.bytes.now new.mailbox new.position (are_bytes c.args.bytes.now c.type_inv.bytes) read in
    let kept : slot_kept slot ≡ Ok (new.mailbox, new.position) = (λ i. slot_kept (record { number = sym count i; image = text i })) ∙ c.a_saved_image_is_kept.ensures new.mailbox new.position has.0 in
    let stored = c.requires.stored places is in
    let later = c.requires.later places is in
    let place = next_place (chosen_of places) in
    let run = c.save.ensures.any_moment places is in
    let saved = c.in_ok-save.ensures.saved.forth places is in
    let slots = c.in_ok-save.ensures.known saved.places saved.is in
    and_then H.moment H.left_since c.args.shelf.now c.save.new.shelf c.clear.new.shelf (Reached start (SameOrNew slot)) (Reached mid (Changes T IsPrefix)) (Reached start (OldOrNew me new)) run c.clear.ensures.any_moment
    (save_leaves me new slot kept c.args.store.now start places stored later)
    (clear_leaves me new slot kept c.args.store.now start places stored later mid place (λ (d : Places) (left : mid d). run.each d (g.met.H.Shelf.counts_now c.save.new.shelf (H.moment c.args.shelf.now) d run.later left)) (chosen_left mid saved.places (Some (place, slot)) slots.settled saved.holds))

pub returns-clause-any_moment : goal.returns-clause-any_moment
returns-clause-any_moment g c places is me new text read count =
    let H = g.H.Shelf in
    let start = H.may_leave c.args.shelf.now in
    let mid = H.may_leave c.save.new.shelf in
    let slot : Slot = record { number = c.args.number; image = c.args.bytes.now } in
    let has = c.each_mailbox_has_one_image.ensures.spelled c.args.bytes.now new.mailbox new.position (are_bytes c.args.bytes.now c.type_inv.bytes) read in
    let kept : slot_kept slot ≡ Ok (new.mailbox, new.position) = (λ i. slot_kept (record { number = sym count i; image = text i })) ∙ c.a_saved_image_is_kept.ensures new.mailbox new.position has.0 in
    let stored = c.requires.stored places is in
    let later = c.requires.later places is in
    let place = next_place (chosen_of places) in
    let run = c.save.ensures.any_moment places is in
    let saved = c.in_ok-save.ensures.saved.forth places is in
    let slots = c.in_ok-save.ensures.known saved.places saved.is in
    and_then H.moment H.left_since c.args.shelf.now c.save.new.shelf c.clear.new.shelf (Reached start (SameOrNew slot)) (Reached mid (Changes T IsPrefix)) (Reached start (OldOrNew me new)) run c.clear.ensures.any_moment
    (save_leaves me new slot kept c.args.store.now start places stored later)
    (clear_leaves me new slot kept c.args.store.now start places stored later mid place (λ (d : Places) (left : mid d). run.each d (g.met.H.Shelf.counts_now c.save.new.shelf (H.moment c.args.shelf.now) d run.later left)) (chosen_left mid saved.places (Some (place, slot)) slots.settled saved.holds))

pub returns-clause-lasting : goal.returns-clause-lasting
returns-clause-lasting g c =
    let seen = g.H.Shelf.seen in
    let slot : Slot = record { number = c.args.number; image = c.args.bytes.now } in
    let old = c.args.shelf.now in
    let mid = c.save.new.shelf in
    let new = c.clear.new.shelf in
    let cleared = known_with (seen mid) (seen new) (OthersStay T) (λ (z : Places). z.t ≡ []) c.clear.ensures.others c.in_ok-clear.ensures.cleared in
    known_on (seen old) (seen mid) (seen new) (IsNew slot) (λ (y z : Places). OthersStay T y z × (z.t ≡ [])) (λ (x z : Places). (me : Bytes) (to : State) → c.args.bytes.now ≡ image to.mailbox to.position → image_of c.args.bytes.now ≡ Ok (to.mailbox, to.position) → to.position.count ≡ c.args.number → stands me z ≡ Ok to)
    (λ x y z known is h me to text read count.
    let has = c.each_mailbox_has_one_image.ensures.spelled c.args.bytes.now to.mailbox to.position (are_bytes c.args.bytes.now c.type_inv.bytes) read in
    let kept : slot_kept slot ≡ Ok (to.mailbox, to.position) = (λ i. slot_kept (record { number = sym count i; image = text i })) ∙ c.a_saved_image_is_kept.ensures to.mailbox to.position has.0 in
    let from = c.in_ok-save.ensures.saved.back y known in
    let w = from.places in
    saved_stands me to slot kept w (c.requires.later w from.is) (c.requires.stored w from.is).ends (next_place (chosen_of w)) 0 z (same_chosen y z h.0 ∙ from.holds) h.1)
    c.in_ok-save.ensures.saved cleared

pub returns-clause-stored : goal.returns-clause-stored
returns-clause-stored g c after known =
    let H = g.H.Shelf in
    let mid = c.clear.ensures.others.back after known in
    let from = c.in_ok-save.ensures.saved.back mid.places mid.is in
    let chosen = same_chosen mid.places after mid.holds ∙ from.holds in
    let before = H.may_leave c.save.new.shelf in
    let run = c.clear.ensures.any_moment in
    let left = only_tail before (H.may_leave c.clear.new.shelf) IsPrefix (λ (d : Places) (left : H.may_leave c.clear.new.shelf d). run.each d (g.met.H.Shelf.counts_now c.clear.new.shelf (H.moment c.save.new.shelf) d run.later left)) in
    record {
      slots = knows_on c.save.new.self before (H.may_leave c.clear.new.shelf) mid.places after (c.in_ok-save.ensures.known mid.places mid.is) mid.holds left;
      tail = c.in_ok-clear.ensures.known after known;
      chosen = sym (ap is_some chosen);
      ends = ends_at_once c.args.number after (ap number_of chosen) (c.in_ok-clear.ensures.cleared after known);
    }
