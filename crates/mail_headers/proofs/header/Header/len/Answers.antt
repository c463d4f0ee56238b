use Rattle.std.proofs.Common.{length, ap, arith}
use Rattle.mail_headers.proofs.Layouts.{length-fields_in}
use Rattle.mail_headers.proofs.header.Header.len.Goals as goal

pub returns : goal.returns
returns c =
    let fields = c.self.inside.fields in
    omega (arith, fields.lengths.ok, length-fields_in fields.lengths.items fields.bytes.items, ap (λ head. length head.fields) c.self.view_is)
