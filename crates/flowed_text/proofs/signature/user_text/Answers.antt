use Rattle.std.proofs.Common.{◌++◌, ap, ◌∙◌, true}
use Rattle.std.specs.Prelude.{not, take_while}
use Rattle.flowed_text.specs.Flowed.{is_signature, line_texts, user_text}
use Rattle.flowed_text.proofs.AboveLemmas.{text_after, text_after-first}
use Rattle.flowed_text.proofs.signature.user_text.Goals as goal

pub loop-line-init : goal.loop-line-init
loop-line-init c =
    let above = take_while (λ line. not (is_signature line)) (line_texts c.as_str-left.result.now) in
    record {
      utf8 = c.as_str-left.utf8;
      so_far = ap (λ t. t ++ text_after true above) c.new-above.ensures.bytes ∙ text_after-first above ∙ ap user_text c.as_str-left.ensures;
    }
