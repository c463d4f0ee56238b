use Rattle.std.proofs.Common.{refl, ap, ◌∙◌, ◌-◌, vec_capacity, vec_len, arith}
use Rattle.box_state.specs.declared.ready.Ready.TheVariants.{Unready, ForCard}
use Rattle.box_state.specs.Inside.{HasRoomFor}
use Rattle.box_state.proofs.Changed.{kept_as, mailbox_as}
use Rattle.box_state.proofs.Kept.{room_made}
use Rattle.box_state.proofs.mailbox.Mailbox.reserve_card.Goals as goal

pub invariant_of-self : goal.invariant_of-self
invariant_of-self c =
    kept_as _ _ (room_made c.self.inside c.self.invariant _ _ _ _ c.reserve.ensures.items refl (λ uid. refl) (λ id. refl) tt)

pub invariant_of-self-in_err-reserve-2 : goal.invariant_of-self-in_err-reserve-2
invariant_of-self-in_err-reserve-2 c =
    kept_as _ _ (room_made c.self.inside c.self.invariant _ _ _ _ c.reserve.ensures.items c.reserve-2.ensures.same (λ uid. refl) (λ id. refl) tt)

pub invariant_of-self-in_err-reserve-3 : goal.invariant_of-self-in_err-reserve-3
invariant_of-self-in_err-reserve-3 c =
    kept_as _ _ (room_made c.self.inside c.self.invariant _ _ _ _ c.reserve.ensures.items c.reserve-2.ensures.same c.reserve-3.ensures.spots c.reserve-3.ensures.copies tt)

pub invariant_of-self-2 : goal.invariant_of-self-2
invariant_of-self-2 c =
    let room : HasRoomFor (ForCard c.in_ok-copy.field-0) (vec_capacity c.reserve.new.self - vec_len c.reserve.new.self) c.reserve-2.new.self c.reserve-3.new.self =
    (omega (arith, c.in_ok-reserve.ensures.ok), omega (arith, c.in_ok-reserve-2.ensures.spare), rw c.in_ok-copy.ensures c.in_ok-reserve-3.ensures.room) in
    kept_as _ _ (room_made c.self.inside c.self.invariant _ _ _ _ c.reserve.ensures.items c.reserve-2.ensures.same c.reserve-3.ensures.spots c.reserve-3.ensures.copies room)

pub invariant_of-self-in_err-copy : goal.invariant_of-self-in_err-copy
invariant_of-self-in_err-copy c =
    kept_as _ _ (room_made c.self.inside c.self.invariant _ _ _ _ c.reserve.ensures.items c.reserve-2.ensures.same c.reserve-3.ensures.spots c.reserve-3.ensures.copies tt)

pub returns-clause-same : goal.returns-clause-same
returns-clause-same c =
    mailbox_as _ _ (room_made c.self.inside c.self.invariant c.reserve.new.self c.reserve-2.new.self c.reserve-3.new.self Unready c.reserve.ensures.items c.reserve-2.ensures.same c.reserve-3.ensures.spots c.reserve-3.ensures.copies tt)
    ∙ ap (λ k. k.mailbox) c.self.view_is
