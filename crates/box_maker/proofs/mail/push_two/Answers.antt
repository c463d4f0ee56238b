use Rattle.std.proofs.Common.{◌++◌, ◌∙◌, ap, string_bytes}
use Rattle.std.specs.Fmt.{styled_decimal}
use Rattle.box_maker.proofs.DigitLaws.{padded-two}
use Rattle.box_maker.proofs.mail.push_two.Goals as goal

pub returns : goal.returns
returns c =
    let digits = ap (λ layout. styled_decimal layout c.args.number) c.laid_out.ensures ∙ padded-two c.args.number c.requires in
    c.in_ok-write.ensures.bytes ∙ ap (λ bytes. string_bytes c.args.text.now ++ bytes) digits
