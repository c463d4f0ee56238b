use Rattle.std.proofs.Common.{sym, ap, ◌∙◌, Some, None}
use Rattle.std.specs.Prelude.{if◌then◌else◌, ◌==◌, option_map, find}
use Rattle.std.specs.Option.{option_copied}
use Rattle.std.proofs.lemmas.Bool.{eq-eqb, ne_eqb}
use Rattle.kit.specs.Options.{◌>>=◌}
use Rattle.mailbox_model.specs.Present.{spot, spot_of, present}
use Rattle.mailbox_model.specs.Turns.{is_mail}
use Rattle.box_state.specs.Inside.{mailbox_in}
use Rattle.box_state.proofs.Planned.{no_spot_present, spot_present}
use Rattle.box_state.proofs.mailbox.Mailbox.present_spot.Goals as goal

pub returns-in_err-own-clause-spot : goal.returns-in_err-own-clause-spot
returns-in_err-own-clause-spot c =
    ap option_copied c.from_residual.ensures
    ∙ sym (no_spot_present (mailbox_in c.self.inside) c.self.invariant.rules.uids c.self.inside.spots c.self.invariant.spots c.args.uid (sym c.in_err-own.ensures))
    ∙ ap (λ k. option_map (λ t. spot t.placed) (find (is_mail c.args.uid) (present k.mailbox))) c.self.view_is

pub returns-in_err-present-clause-spot : goal.returns-in_err-present-clause-spot
returns-in_err-present-clause-spot c =
    let own = c.in_ok-own.own.now in
    let none = c.in_err-present.ensures ∙ ap (λ k. spot_of k.mailbox own.id) (sym c.self.view_is) in
    ap option_copied c.from_residual-in_err-present.ensures
    ∙ ap (λ o. o >>= λ p. if p.uid == c.args.uid then Some p else None) none
    ∙ sym (spot_present (mailbox_in c.self.inside) c.self.invariant.rules.uids c.self.inside.spots c.self.invariant.spots c.args.uid own (sym c.in_ok-own.ensures))
    ∙ ap (λ k. option_map (λ t. spot t.placed) (find (is_mail c.args.uid) (present k.mailbox))) c.self.view_is

pub returns-then-present-uid-clause-spot : goal.returns-then-present-uid-clause-spot
returns-then-present-uid-clause-spot c =
    let own = c.in_ok-own.own.now in
    let p = c.in_ok-present.present.now in
    let first = c.in_ok-present.ensures ∙ ap (λ k. spot_of k.mailbox own.id) (sym c.self.view_is) in
    ap (λ b. if b then Some p else None) (sym (eq-eqb p.uid c.args.uid c.if-present-uid.true))
    ∙ ap (λ o. o >>= λ p. if p.uid == c.args.uid then Some p else None) first
    ∙ sym (spot_present (mailbox_in c.self.inside) c.self.invariant.rules.uids c.self.inside.spots c.self.invariant.spots c.args.uid own (sym c.in_ok-own.ensures))
    ∙ ap (λ k. option_map (λ t. spot t.placed) (find (is_mail c.args.uid) (present k.mailbox))) c.self.view_is

pub returns-else-present-uid-clause-spot : goal.returns-else-present-uid-clause-spot
returns-else-present-uid-clause-spot c =
    let own = c.in_ok-own.own.now in
    let p = c.in_ok-present.present.now in
    let first = c.in_ok-present.ensures ∙ ap (λ k. spot_of k.mailbox own.id) (sym c.self.view_is) in
    ap (λ b. if b then Some p else None) (sym (ne_eqb p.uid c.args.uid c.if-present-uid.false))
    ∙ ap (λ o. o >>= λ p. if p.uid == c.args.uid then Some p else None) first
    ∙ sym (spot_present (mailbox_in c.self.inside) c.self.invariant.rules.uids c.self.inside.spots c.self.invariant.spots c.args.uid own (sym c.in_ok-own.ensures))
    ∙ ap (λ k. option_map (λ t. spot t.placed) (find (is_mail c.args.uid) (present k.mailbox))) c.self.view_is
