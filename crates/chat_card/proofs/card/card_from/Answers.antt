use Rattle.std.proofs.Common.{◌∙◌, ap, not, sym}
use Rattle.card_type.specs.Rules.{fits_weight, keeps_bounds}
use Rattle.chat_card.proofs.CardLemmas.{bounds-kept, put-together, some-named}
use Rattle.chat_card.proofs.card.card_from.Goals as goal

pub returns-clause-card : goal.returns-clause-card
returns-clause-card c =
    let fields = c.in_ok-fields.fields in
    c.card_by.ensures
    ∙ put-together c.args.uid c.args.header.now c.args.from c.args.body.now fields c.in_ok-requests.requests _ c.in_ok-contents.contents c.in_ok-text.text
    c.in_ok-fields.ensures.value c.in_ok-requests.ensures (ap not c.is_empty.ensures ∙ some-named fields.replies) c.in_ok-contents.ensures.value c.in_ok-text.ensures.value

pub returns-clause-bounds : goal.returns-clause-bounds
returns-clause-bounds c =
    let fields = c.in_ok-fields.ensures in
    let is = c.card_by.ensures in
    ap keeps_bounds is
    ∙ bounds-kept _ fields.moment c.in_ok-text.ensures.room c.in_ok-contents.ensures.reaction c.in_ok-contents.ensures.updates fields.to fields.cc ∙ ap fits_weight (sym is)
