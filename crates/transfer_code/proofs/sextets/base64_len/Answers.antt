use Rattle.std.proofs.Common.{ap, sym, ◌∙◌}
use Rattle.std.specs.List.{count_by}
use Rattle.transfer_code.specs.Base64.{is_symbol}
use Rattle.transfer_code.proofs.Groups.{length-decode_base64, whole}
use Rattle.transfer_code.proofs.sextets.base64_len.Goals as goal

pub returns : goal.returns
returns c =
    c.whole_bytes.ensures
    ∙ ap whole (c.count_symbols.ensures ∙ ap (count_by is_symbol) c.before_padding.ensures)
    ∙ sym (length-decode_base64 c.args.bytes.now)
