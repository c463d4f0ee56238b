use Rattle.std.proofs.Common.{sym, ap, ◌∙◌, Some}
use Rattle.std.specs.Prelude.{if◌then◌else◌}
use Rattle.std.specs.Option.{option_copied, option_map}
use Rattle.std.proofs.lemmas.Result.{on_ok_weaker}
use Rattle.card_type.specs.Keys.{key_eq}
use Rattle.mailbox_model.proofs.ListLaws.{key_turn}
use Rattle.chat_view.specs.Standing.{last_date}
use Rattle.indexes.specs.Kept.{date_at}
use Rattle.indexes.proofs.Ordered.{date_with}
use Rattle.repair.proofs.Places.{date_without}
use Rattle.repair.proofs.order.renew_place.Goals as goal

pub returns-in-Some : goal.returns-in-Some
returns-in-Some c =
    let date = c.last_date.ensures in
    let state = sym c.get.ensures ∙ ap option_copied c.in-Some.is in
    on_ok_weaker c.set.result (λ is other.
    ap (λ order. date_at order other) is
    ∙ date_with c.args.key.now c.last_date.result c.args.order.now other
    ∙ (λ i. if key_turn other c.args.key.now i then Some (date i) else date_at c.args.order.now other)
    ∙ ap (λ o. if key_eq c.args.key.now other then option_map last_date o else date_at c.args.order.now other) (sym state)) c.set.ensures.ok

pub returns-in-None : goal.returns-in-None
returns-in-None c other =
    let none = sym c.get.ensures ∙ ap option_copied c.in-None.is in
    ap (λ order. date_at order other) c.drop_key.ensures
    ∙ date_without c.args.key.now c.args.order.now other
    ∙ ap (λ o. if key_eq c.args.key.now other then option_map last_date o else date_at c.args.order.now other) (sym none)
