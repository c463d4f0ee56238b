use Rattle.std.proofs.Common.{refl}
use Rattle.box_state.proofs.Changed.{kept_as}
use Rattle.box_state.proofs.Kept.{room_made}
use Rattle.box_state.proofs.mailbox.Mailbox.make_room.Goals as goal

pub invariant_of-self : goal.invariant_of-self
invariant_of-self c =
    kept_as _ _ (room_made c.self.inside c.self.invariant _ _ _ _ c.reserve.ensures.items refl (λ uid. refl) (λ id. refl) tt)

pub invariant_of-self-2 : goal.invariant_of-self-2
invariant_of-self-2 c =
    kept_as _ _ (room_made c.self.inside c.self.invariant _ _ _ _ c.reserve.ensures.items c.reserve-2.ensures.same (λ uid. refl) (λ id. refl) tt)
