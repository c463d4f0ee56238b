use Rattle.std.proofs.Common.{ap, sym, ◌∙◌, ◌++◌, ◌+◌, ◌<◌, ◌≤◌, length, subst}
use Rattle.std.proofs.lemmas.List.{append-nil}
use Rattle.std.proofs.lemmas.Result.{on_ok_weaker}
use Rattle.card_type.specs.Effects.{effect_of}
use Rattle.chat_view.specs.Makers.{MakesRow}
use Rattle.indexes.specs.Kept.{present_at}
use Rattle.indexes.proofs.Acts.{acts, acts_not}
use Rattle.indexes.proofs.Mails.{one_of, card_lent, same_card, spot_lent, same_spot}
use Rattle.indexes.proofs.rows.add_act.Goals as goal

pub unwrap-e-requires : goal.unwrap-e-requires
unwrap-e-requires g c =
    let m = c.args.view.now in
    let p = one_of (present_at m c.args.uid) c.requires.there in
    card_lent m c.me-me.ensures.rules c.args.uid p.0 p.1 c.card.result c.card.ensures.card

pub unwrap-spot-requires : goal.unwrap-spot-requires
unwrap-spot-requires g c =
    let m = c.args.view.now in
    let p = one_of (present_at m c.args.uid) c.requires.there in
    let same = same_card m c.me-me.ensures.rules c.args.uid p.0 p.1 c.card.result c.unwrap-e.result c.card.ensures.card c.unwrap-e.ensures in
    spot_lent m c.me-me.ensures.rules c.args.uid p.0 p.1 c.spot_of.result c.unwrap-e.result.now same c.spot_of.ensures

pub add-requires : goal.add-requires
add-requires g c =
    let m = c.args.view.now in
    let p = one_of (present_at m c.args.uid) c.requires.there in
    let same = same_card m c.me-me.ensures.rules c.args.uid p.0 p.1 c.card.result c.unwrap-e.result c.card.ensures.card c.unwrap-e.ensures in
    subst (λ card. length c.args.maker.now.row.updates + length card.updates < 4294967296) (sym same) (c.requires.room p.0 p.1)

pub returns-in-Some-clause-stands : goal.returns-in-Some-clause-stands
returns-in-Some-clause-stands g c =
    let m = c.args.view.now in
    let e = c.unwrap-e.result.now in
    let does = ap (effect_of e c.args.card.now) (sym c.me-me.ensures.value) ∙ sym c.effect_of.ensures.value ∙ c.in-Some.is in
    on_ok_weaker c.add.result (λ stands p t so_far here is made.
    let same = same_card m c.me-me.ensures.rules c.args.uid p here c.card.result c.unwrap-e.result c.card.ensures.card c.unwrap-e.ensures in
    let at = same_spot m c.me-me.ensures.rules c.args.uid p here c.spot_of.result c.unwrap-spot.result e same c.spot_of.ensures c.unwrap-spot.ensures in
    subst (λ more. MakesRow m.me t (so_far ++ more) c.add.new.self)
    (sym (acts m.me c.args.card.now p e same c.unwrap-spot.result.now c.in-Some.effect at does))
    (stands m.me t so_far made)) c.add.ensures.stands

pub returns-in-Some-clause-updates : goal.returns-in-Some-clause-updates
returns-in-Some-clause-updates g c =
    on_ok_weaker c.add.result (λ few p here.
    let same = same_card c.args.view.now c.me-me.ensures.rules c.args.uid p here c.card.result c.unwrap-e.result c.card.ensures.card c.unwrap-e.ensures in
    subst (λ card. length c.add.new.self.row.updates ≤ length c.args.maker.now.row.updates + length card.updates) same few) c.add.ensures.updates

pub returns-in-None-clause-stands : goal.returns-in-None-clause-stands
returns-in-None-clause-stands g c p t so_far here is made =
    let m = c.args.view.now in
    let e = c.unwrap-e.result.now in
    let does = ap (effect_of e c.args.card.now) (sym c.me-me.ensures.value) ∙ sym c.effect_of.ensures.value ∙ c.in-None.is in
    let same = same_card m c.me-me.ensures.rules c.args.uid p here c.card.result c.unwrap-e.result c.card.ensures.card c.unwrap-e.ensures in
    subst (λ more. MakesRow m.me t (so_far ++ more) c.args.maker.now)
    (sym (acts_not m.me c.args.card.now p e same does))
    (subst (λ all. MakesRow m.me t all c.args.maker.now) (sym (append-nil so_far)) made)
