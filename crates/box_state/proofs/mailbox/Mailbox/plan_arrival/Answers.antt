use Rattle.std.proofs.Common.{◌≡◌, refl, sym, ap, ◌∙◌, false, Option, Some, None}
use Rattle.std.specs.Prelude.{option_map, find}
use Rattle.std.specs.Ordering.{is_lt}
use Rattle.card_type.specs.declared.spot.Spot.{Spot}
use Rattle.card_type.specs.Spots.{spot_cmp}
use Rattle.mailbox_model.specs.Present.{Mail, spot, present, same_id}
use Rattle.mailbox_model.specs.Turns.{arriving, turn_in}
use Rattle.mailbox_model.specs.declared.turn.Turn.TheVariants.{Nothing}
use Rattle.box_state.proofs.mailbox.Mailbox.plan_arrival.Goals as goal

-- it gives way to a mail that does not come after it
gives_way : (t : Mail) (o : Option Mail) (there : Spot) → Some there ≡ option_map (λ u. spot u.placed) o
    → is_lt (spot_cmp (spot t.placed) there) ≡ false → Nothing ≡ turn_in t o
gives_way t None there h later = cc
gives_way t (Some u) there h later =
    let same : there ≡ spot u.placed = cc in
    let not_before : is_lt (spot_cmp (spot t.placed) (spot u.placed)) ≡ false = ap (λ s. is_lt (spot_cmp (spot t.placed) s)) (sym same) ∙ later in
    rw not_before refl

pub returns-in-Some-2 : goal.returns-in-Some-2
returns-in-Some-2 c =
    let t = arriving c.args.self.now.mailbox c.args.card.now in
    gives_way t (find (same_id t) (present c.args.self.now.mailbox)) c.in-Some.present.now c.in-Some.ensures
    (ap (λ s. is_lt (spot_cmp s c.in-Some.present.now)) (sym c.in_ok-arriving.ensures) ∙ sym c.lt.ensures ∙ c.if-lt.false)
