use Rattle.std.proofs.Common.{◌≡◌, refl, sym, ◌∙◌, true, List, ℕ, Ok}
use Rattle.card_type.specs.declared.card.Card.{Card}
use Rattle.card_type.specs.Rules.{fits_weight}
use Rattle.card_record.specs.Cards.{fields_at, record_at}
use Rattle.card_record.proofs.CardLaws.{card_taken}
use Rattle.card_record.proofs.card.read_record.Goals as goal

-- fields of a card that is light enough are its record
whole : (bytes rest : List ℕ) (card : Card) → fields_at bytes ≡ Ok (card, rest) → fits_weight card ≡ true → record_at bytes ≡ Ok (card, rest)
unfolding record_at
whole bytes rest card fields light = rw (fields, light) refl

read : (c : goal.Else-not-fits_weight) → record_at c.args.rest.now ≡ Ok (c.in_ok-card.card, c.read_fields.new.rest)
read c =
    whole c.args.rest.now c.read_fields.new.rest c.in_ok-card.card c.in_ok-card.ensures (sym c.fits_weight.ensures.value ∙ c.if-not-fits_weight.false)

pub returns-clause-spelled : goal.returns-clause-spelled
returns-clause-spelled c = (card_taken c.args.rest.now c.in_ok-card.card c.read_fields.new.rest c.len-left.ensures.bytes (read c)).1

pub returns-clause-valid : goal.returns-clause-valid
returns-clause-valid c = (card_taken c.args.rest.now c.in_ok-card.card c.read_fields.new.rest c.len-left.ensures.bytes (read c)).0
