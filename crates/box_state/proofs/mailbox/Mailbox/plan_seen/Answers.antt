use Rattle.std.proofs.Common.{◌≡◌, refl, sym, ap, ◌∙◌, ◌&&◌, is_some, Option, Some, None, Bor}
use Rattle.std.specs.Prelude.{if◌then◌else◌}
use Rattle.std.specs.Option.{option_copied}
use Rattle.card_type.specs.declared.spot.Spot.{Spot}
use Rattle.mailbox_model.specs.declared.turn.Turn.TheVariants.{Marked, Nothing}
use Rattle.box_state.proofs.Planned.{marked_if, not_marked}
use Rattle.box_state.proofs.mailbox.Mailbox.plan_seen.Goals as goal
use Rattle.box_state.proofs.mailbox.Mailbox.plan_seen.Goals.{else-is_present-via-then-is_present+else-is_unseen, else-is_present-via-else-is_present}

copied_some : (o : Option (Bor Spot)) → is_some (option_copied o) ≡ is_some o
copied_some None = refl
copied_some (Some x) = refl

pub returns-then-is_unseen : goal.returns-then-is_unseen
returns-then-is_unseen c =
    let there = copied_some c.present_spot.result ∙ sym c.is_some-is_present.ensures ∙ c.if-is_present.true in
    sym (marked_if c.args.self.now.mailbox c.present_spot.ensures.rules.uids c.args.uid (option_copied c.present_spot.result) c.is_unseen.result c.present_spot.ensures.spot c.is_unseen.ensures
    ∙ (λ i. if c.if-is_unseen.true i && there i then Marked c.args.uid else Nothing))

pub returns-else-is_present : goal.returns-else-is_present
returns-else-is_present c = elim c.else-is_present.branch [
  | else-is_present-via-then-is_present+else-is_unseen w ↦
      sym (marked_if c.args.self.now.mailbox c.present_spot.ensures.rules.uids c.args.uid (option_copied c.present_spot.result) w.is_unseen.result c.present_spot.ensures.spot w.is_unseen.ensures
      ∙ ap (λ b. if b && is_some (option_copied c.present_spot.result) then Marked c.args.uid else Nothing) w.if-is_unseen.false)
  | else-is_present-via-else-is_present w ↦
      let there = copied_some c.present_spot.result ∙ sym c.is_some-is_present.ensures ∙ w.if-is_present.false in
      sym (not_marked c.args.self.now.mailbox c.present_spot.ensures.rules.uids c.args.uid (option_copied c.present_spot.result) c.present_spot.ensures.spot there)
]
