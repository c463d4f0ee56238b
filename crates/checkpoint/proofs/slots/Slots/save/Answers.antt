use Rattle.std.proofs.Common.{◌≡◌, Some, sym, ◌∙◌, ap}
use Rattle.outside.specs.declared.shelf.Place.{Place}
use Rattle.outside.specs.Places.{OthersStay, content}
use Rattle.outside.proofs.Known.{known_as}
use Rattle.checkpoint.specs.Slots.{Slot, is_closed, other_place, next_place}
use Rattle.checkpoint.specs.Saves.{IsNew}
use Rattle.checkpoint.specs.Parts.{IsChosen}
use Rattle.checkpoint.proofs.Leaves.{tail_stays}
use Rattle.checkpoint.proofs.Saved.{gate_of_chosen}
use Rattle.checkpoint.proofs.slots.Slots.save.Goals as goal

pub save_at-requires : goal.save_at-requires
save_at-requires g c s is = let h = c.requires.known s is in (record { settled = h.settled; is = h.next }, h.closed, c.requires.above s is)

pub returns-in-Ok-clause-saved : goal.returns-in-Ok-clause-saved
returns-in-Ok-clause-saved g c =
    let seen = g.H.Shelf.seen in
    let new = g.H.Shelf.may_leave c.save_at.new.shelf in
    let saved : Slot = record { number = c.args.number; image = c.args.image.now } in
    let place = c.args.self.now.next in
    known_as (seen c.args.shelf.now) (seen c.save_at.new.shelf) (IsChosen place saved new) (IsNew saved) (λ x y is h. h.is ∙ (λ i. Some (sym (c.requires.known x is).next i, saved))) c.in-Ok.ensures.done

pub returns-in-Ok-clause-known : goal.returns-in-Ok-clause-known
returns-in-Ok-clause-known g c y is =
    let saved : Slot = record { number = c.args.number; image = c.args.image.now } in
    let place = c.args.self.now.next in
    let from = c.in-Ok.ensures.done.back y is in
    let x = from.places in
    let h = from.holds in
    let k = c.requires.known x from.is in
    record {
      settled = h.settled;
      next = ap next_place h.is ∙ sym c.other.ensures;
      closed = ap (λ (p : Place). is_closed (content y p)) c.other.ensures ∙ ap is_closed h.other ∙ k.other_closed;
      other_closed = ap (λ (p : Place). is_closed (content y (other_place p))) c.other.ensures ∙ gate_of_chosen place saved x y k.next h.is;
    }

pub returns-in-Ok-clause-tail : goal.returns-in-Ok-clause-tail
returns-in-Ok-clause-tail g c =
    let seen = g.H.Shelf.seen in
    known_as (seen c.args.shelf.now) (seen c.save_at.new.shelf) (OthersStay c.args.self.now.next) (λ x y. y.t ≡ x.t) (λ x y is stay. tail_stays c.args.self.now.next x x y (c.requires.known x is).next stay) c.save_at.ensures.others

pub returns-in-Err-clause-tail : goal.returns-in-Err-clause-tail
returns-in-Err-clause-tail g c =
    let seen = g.H.Shelf.seen in
    known_as (seen c.args.shelf.now) (seen c.save_at.new.shelf) (OthersStay c.args.self.now.next) (λ x y. y.t ≡ x.t) (λ x y is stay. tail_stays c.args.self.now.next x x y (c.requires.known x is).next stay) c.save_at.ensures.others
