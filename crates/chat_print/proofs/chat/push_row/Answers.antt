use Rattle.std.proofs.Common.{ap, codes, decimal, flat_map, length, string_bytes, ◌∙◌, ◌++◌}
use Rattle.mailbox_model.specs.Bodies.{where_true}
use Rattle.mailbox_model.specs.Printed.{file_line, reaction_line, reader_line, row_line}
use Rattle.chat_print.proofs.Lines.{four_put}
use Rattle.chat_print.proofs.chat.push_row.Goals as goal

pub returns-else-row : goal.returns-else-row
returns-else-row c =
    let row = c.args.row.now in
    four_put (string_bytes c.args.text.now) (row_line row) (flat_map file_line row.attachments) (flat_map reader_line row.readers) (flat_map reaction_line row.reactions) _
    (string_bytes c.push_row_line.new.text) (string_bytes c.push_files.new.text) (string_bytes c.push_readers.new.text) (string_bytes c.push_reactions.new.text)
    c.in_ok-push_row_line.ensures
    (c.in_ok-push_files.ensures ∙ ap (λ files. string_bytes c.push_row_line.new.text ++ flat_map file_line files) c.as_slice.ensures)
    (c.in_ok-push_readers.ensures ∙ ap (λ readers. string_bytes c.push_files.new.text ++ flat_map reader_line readers) c.as_slice-2.ensures)
    (c.in_ok-push_reactions.ensures ∙ ap (λ reactions. string_bytes c.push_readers.new.text ++ flat_map reaction_line reactions) c.as_slice-3.ensures)
    (ap (λ app. where_true app (codes "  updates " ++ decimal (length row.updates) ++ codes "\n")) c.if-row.false)
