use Rattle.std.proofs.Common.{◌∙◌, ap, length, subst, sym}
use Rattle.std.specs.Char.{to_ascii_lowercase}
use Rattle.std.specs.Str.{IsUtf8}
use Rattle.std.specs.Str.Lossy.{utf8_lossy}
use Rattle.std.proofs.lemmas.List.{length-map}
use Rattle.std.proofs.lemmas.Str.{IsUtf8-from_ascii, utf8_lossy-IsUtf8}
use Rattle.std.proofs.lemmas.Str.Ascii.{IsAscii-map, lowercase_ascii}
use Rattle.kit.specs.Letters.{lowered}
use Rattle.mime_fields.proofs.named.name_len.Goals as goal

pub returns-then-is_ascii-clause-len : goal.returns-then-is_ascii-clause-len
returns-then-is_ascii-clause-len c =
    let name = c.trim-name.result.now in
    let text : IsUtf8 (lowered name) = IsUtf8-from_ascii (lowered name) (IsAscii-map to_ascii_lowercase name lowercase_ascii c.if-is_ascii.ensures.cases) in
    sym (length-map name to_ascii_lowercase)
    ∙ ap length (sym (utf8_lossy-IsUtf8 (lowered name) text))
    ∙ ap (λ bytes. length (utf8_lossy (lowered bytes))) c.trim-name.ensures

pub returns-then-is_ascii-clause-utf8 : goal.returns-then-is_ascii-clause-utf8
returns-then-is_ascii-clause-utf8 c =
    let name = c.trim-name.result.now in
    let text : IsUtf8 (lowered name) = IsUtf8-from_ascii (lowered name) (IsAscii-map to_ascii_lowercase name lowercase_ascii c.if-is_ascii.ensures.cases) in
    subst IsUtf8 (sym (utf8_lossy-IsUtf8 (lowered name) text) ∙ ap (λ bytes. utf8_lossy (lowered bytes)) c.trim-name.ensures) text
