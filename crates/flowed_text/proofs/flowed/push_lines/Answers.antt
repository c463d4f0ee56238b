use Rattle.std.proofs.Common.{◌++◌, ap}
use Rattle.std.specs.Prelude.{map, string_bytes}
use Rattle.flowed_text.specs.Flowed.{line_texts, quoted_line}
use Rattle.flowed_text.proofs.WrittenLemmas.{written_from-begun}
use Rattle.flowed_text.proofs.flowed.push_lines.Goals as goal

pub loop-line-init : goal.loop-line-init
loop-line-init c = record {
  utf8 = search;
  so_far = ap (λ t. string_bytes c.args.out.now ++ t) (written_from-begun c.args.delsp (map quoted_line (line_texts c.args.text.now)));
}
