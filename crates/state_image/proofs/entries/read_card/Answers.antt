use Rattle.std.proofs.Common.{◌≡◌, ℕ, List, ◌++◌, ◌+◌, refl, sym, ap, ◌∙◌, length, length-append, arith}
use Rattle.card_type.specs.declared.card.Card.{Card}
use Rattle.card_type.specs.Records.{record_of, weight}
use Rattle.state_image.proofs.Limits.{too_heavy, light_enough}
use Rattle.state_image.proofs.entries.read_card.Goals as goal

-- the bytes of a card are those before it but for those after it
bytes_are : (card : Card) (bytes rest : List ℕ) (left after : ℕ) → left ≡ length bytes → bytes ≡ record_of card ++ rest → after ≡ length rest
    → left ≡ weight card + after
bytes_are card bytes rest left after at spelled at_end =
    at ∙ ap length spelled ∙ length-append (record_of card) rest ∙ ap (λ n. weight card + n) (sym at_end)

pub returns-then-saturating_add-gt-MAX_TOTAL_WEIGHT-clause-card : goal.returns-then-saturating_add-gt-MAX_TOTAL_WEIGHT-clause-card
returns-then-saturating_add-gt-MAX_TOTAL_WEIGHT-clause-card c =
    let is = bytes_are c.in_ok-card.card c.args.rest.now c.read_record.new.rest _ _ c.len-left.ensures.value c.in_ok-card.ensures.spelled c.len.ensures.value in
    let heavy = too_heavy c.args.before _ _ _ _ is c.saturating_add.ensures c.if-saturating_add-gt-MAX_TOTAL_WEIGHT.true in
    rw (c.in_ok-card.ensures.card, heavy, c.len-left.ensures.value) refl

pub returns-clause-card : goal.returns-clause-card
returns-clause-card c =
    let is = bytes_are c.in_ok-card.card c.args.rest.now c.read_record.new.rest _ _ c.len-left.ensures.value c.in_ok-card.ensures.spelled c.len.ensures.value in
    let light = light_enough c.args.before _ _ _ _ is c.saturating_add.ensures (omega (arith, c.if-saturating_add-gt-MAX_TOTAL_WEIGHT.false)) in
    rw (c.in_ok-card.ensures.card, light) refl
