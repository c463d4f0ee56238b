use Rattle.std.proofs.Common.{◌≡◌, ◌++◌, ◌≤◌, ◌∙◌, ap, arith, length, length-append, rules, subst, sym, take}
use Rattle.std.specs.Str.{IsUtf8}
use Rattle.std.proofs.lemmas.List.{take_at}
use Rattle.std.proofs.lemmas.Str.{IsCharBoundary-from_take}
use Rattle.mime_fields.specs.RawParams.{name_of}
use Rattle.mime_fields.specs.Views.{names_text, params_in}
use Rattle.mime_fields.proofs.named.NamedParams.split_first.Goals as goal

pub split_at-requires : goal.split_at-requires
split_at-requires c =
    let names = c.args.self.names.now in
    let name = name_of c.in-Some.raw_param.name.now in
    let more = names_text (params_in c.in-Some.left) in
    let len = c.in_ok-len.len in
    let seam : names ≡ name ++ more = c.requires ∙ ap names_text c.in-Some.ensures in
    let within : len ≤ length names = omega (arith, ap length seam, length-append name more, c.in_ok-len.ensures.len) in
    let front : take len names ≡ name = ap (take len) seam ∙ take_at name more len (sym c.in_ok-len.ensures.len) in
    IsCharBoundary-from_take names len (search rules) within (subst IsUtf8 (sym front) c.in_ok-len.ensures.utf8)
