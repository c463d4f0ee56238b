use Rattle.std.proofs.Common.{◌++◌, ◌∙◌, ap, codes, decimal, string_bytes}
use Rattle.std.specs.List.{join_by}
use Rattle.card_type.specs.KeyTexts.{key_text}
use Rattle.mailbox_model.specs.Printed.{field}
use Rattle.chat_print.proofs.Heads.{in_turn}
use Rattle.chat_print.proofs.chat.push_head.Goals as goal

pub returns : goal.returns
returns c =
    let page = c.args.page.now in
    let key = ap (λ value. string_bytes c.args.text.now ++ (codes "chat " ++ field value ++ codes "\n")) (c.as_str.ensures ∙ c.in_ok-key.ensures) in
    let name = ap (λ value. string_bytes c.push_line.new.text ++ (codes "name " ++ field value ++ codes "\n")) c.as_str-2.ensures in
    let members = ap (λ value. string_bytes c.push_line-2.new.text ++ (codes "members " ++ field (join_by (λ addr. addr) (codes ", ") value) ++ codes "\n")) c.as_slice.ensures in
    in_turn (string_bytes c.args.text.now) (string_bytes c.push_line.new.text) (string_bytes c.push_line-2.new.text) (string_bytes c.push_member_line.new.text) (string_bytes c.write.new.self)
    (codes "chat ") (field (key_text page.key)) (codes "name ") (field page.name) (codes "members ") (field (join_by (λ addr. addr) (codes ", ") page.members)) (codes "timer ") (decimal page.timer) (codes "\n")
    (c.in_ok-push_line.ensures ∙ key) (c.in_ok-push_line-2.ensures ∙ name) (c.in_ok-push_member_line.ensures ∙ members) c.in_ok-write.ensures.bytes
