use Rattle.std.proofs.Common.{sym, ◌∙◌, refl}
use Rattle.card_type.proofs.KeyBytes.{capital_no_addr, lowered-small}
use Rattle.card_record.proofs.field.as_addr.Goals as goal

pub returns-then-has_capital : goal.returns-then-has_capital
returns-then-has_capital c = rw (capital_no_addr c.args.bytes.now (sym c.has_capital.ensures ∙ c.if-has_capital.true)) refl

pub returns : goal.returns
returns c =
    let small = lowered-small c.args.bytes.now (sym c.has_capital.ensures ∙ c.if-has_capital.false) in
    rw small at c.read.ensures
