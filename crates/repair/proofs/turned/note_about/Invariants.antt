use Rattle.std.proofs.Common.{◌≡◌, ◌||◌, take}
use Rattle.card_type.specs.Effects.{is_among}
use Rattle.mailbox_model.specs.Lists.{Bytes}
use Rattle.repair.proofs.turned.note_about.Given as goal

-- those that are named so far are there
abbrev pub invariant-loop-id : goal.invariant-loop-id
invariant-loop-id l =
    (id : Bytes) → is_among l.ids.keys id ≡ (is_among l.initial.ids.keys id || is_among (take l.id-index l.id-items) id)
