use Rattle.std.proofs.Common.{sym, ap, ◌∙◌, Some, None}
use Rattle.std.specs.Prelude.{option_map, find}
use Rattle.mailbox_model.specs.Present.{spot, present}
use Rattle.mailbox_model.specs.Turns.{is_mail, turn}
use Rattle.mailbox_model.specs.declared.change.Change.TheVariants.{Expunge}
use Rattle.mailbox_model.specs.declared.turn.Turn.TheVariants.{Remove, Replace}
use Rattle.box_state.specs.Inside.{mailbox_in}
use Rattle.box_state.proofs.Planned.{leaves}
use Rattle.box_state.proofs.mailbox.Mailbox.plan_expunge.Goals as goal

pub returns-in_ok-copy-in-None-second : goal.returns-in_ok-copy-in-None-second
returns-in_ok-copy-in-None-second c =
    let s = c.in-Some.spot.now in
    let there = ap (λ k. option_map (λ t. spot t.placed) (find (is_mail c.args.uid) (present k.mailbox))) c.self.view_is ∙ sym c.in-Some.ensures.spot in
    ap Remove c.in_ok-copy-in-None-second.ensures
    ∙ sym (leaves (mailbox_in c.self.inside) c.self.invariant.rules.uids c.self.inside.spots c.self.invariant.spots c.args.uid s None there c.in-None-second.ensures)
    ∙ ap (λ k. turn k.mailbox (Expunge c.args.uid)) c.self.view_is

pub returns-in_ok-copy-in-Some-second-2 : goal.returns-in_ok-copy-in-Some-second-2
returns-in_ok-copy-in-Some-second-2 c =
    let s = c.in-Some.spot.now in
    let n = c.in-Some-second.next.now in
    let there = ap (λ k. option_map (λ t. spot t.placed) (find (is_mail c.args.uid) (present k.mailbox))) c.self.view_is ∙ sym c.in-Some.ensures.spot in
    (λ i. Replace (c.in_ok-copy-in-Some-second.ensures i) (c.in_ok-copy-in-Some-second-2.ensures i))
    ∙ sym (leaves (mailbox_in c.self.inside) c.self.invariant.rules.uids c.self.inside.spots c.self.invariant.spots c.args.uid s (Some n) there c.in-Some-second.ensures)
    ∙ ap (λ k. turn k.mailbox (Expunge c.args.uid)) c.self.view_is
