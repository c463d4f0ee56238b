use Rattle.std.proofs.Common.{refl, ◌-◌, vec_capacity, vec_len, arith}
use Rattle.box_state.specs.declared.ready.Ready.TheVariants.{ForFault}
use Rattle.box_state.specs.Inside.{HasRoomFor}
use Rattle.box_state.proofs.Changed.{kept_as}
use Rattle.box_state.proofs.Kept.{room_made}
use Rattle.box_state.proofs.mailbox.Mailbox.reserve_fault.Goals as goal

pub invariant_of-self : goal.invariant_of-self
invariant_of-self c =
    kept_as _ _ (room_made c.self.inside c.self.invariant _ _ _ _ c.reserve.ensures.items refl (λ uid. refl) (λ id. refl) tt)

pub invariant_of-self-2 : goal.invariant_of-self-2
invariant_of-self-2 c =
    let room : HasRoomFor ForFault (vec_capacity c.reserve.new.self - vec_len c.reserve.new.self) c.self.inside.cards c.self.inside.spots = omega (arith, c.in_ok-reserve.ensures.ok) in
    kept_as _ _ (room_made c.self.inside c.self.invariant _ _ _ _ c.reserve.ensures.items refl (λ uid. refl) (λ id. refl) room)
