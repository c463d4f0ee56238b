use Rattle.std.proofs.Common.{List, Bor, ap, map, sym, ◌∙◌}
use Rattle.std.specs.List.{filter_map, join_with_byte, list_any}
use Rattle.chat_card.specs.declared.leaf.Kept as Borrowed
use Rattle.chat_card.specs.Parts.{Part}
use Rattle.chat_card.specs.Files.{attachment, is_app}
use Rattle.chat_card.specs.Shown.{file_of, text_of}
use Rattle.chat_card.specs.Views.{kept}
use Rattle.chat_card.proofs.ContentsLemmas.{put-together}
use Rattle.chat_card.proofs.FileLemmas.{any-map}
use Rattle.chat_card.proofs.contents.contents_with.Goals as goal

pub returns-clause-value : goal.returns-clause-value
returns-clause-value c =
    let now : Bor Part → Part = λ f. f.now in
    let found = c.in_ok-files.files.items in
    put-together c.args.parts.now (map now found) (map now c.take_updates.new.files.items) (map kept c.in_ok-kept.kept.items) _ _ _ _ _ _
    c.in_ok-kept.ensures
    (c.in_ok-files.ensures ∙ ap (λ (ks : List Borrowed.Kept). filter_map file_of (map kept ks)) c.deref.ensures.value)
    c.in_ok-updates.ensures.files
    (c.in_ok-shown_text.ensures ∙ ap (λ (ks : List Borrowed.Kept). join_with_byte 10 (filter_map text_of (map kept ks))) c.deref-3.ensures.value)
    (c.in_ok-attachments.ensures ∙ ap (λ (fs : List (Bor Part)). map attachment (map now fs)) c.deref-4.ensures.value)
    (c.has_app-app.ensures ∙ ap (list_any (λ (f : Bor Part). is_app f.now)) c.deref-2.ensures.value ∙ sym (any-map now is_app found))
    c.in_ok-updates.ensures.updates
