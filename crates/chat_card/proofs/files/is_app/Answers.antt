use Rattle.std.proofs.Common.{◌-◌, List, ℕ, ap, codes, drop, length, ◌∙◌}
use Rattle.std.proofs.lemmas.List.{take_rest}
use Rattle.kit.specs.Letters.{same_name}
use Rattle.chat_card.specs.Files.{is_app}
use Rattle.chat_card.proofs.FileLemmas.{ends-lowered}
use Rattle.chat_card.proofs.files.is_app.Goals as goal

pub returns : goal.returns
returns c =
    let name = c.bytes-name.result.now in
    c.same_name.ensures
    ∙ ap (same_name (codes ".xdc")) (take_rest name c.saturating_sub.result)
    ∙ ap (λ n. same_name (codes ".xdc") (drop n name)) c.saturating_sub.ensures
    ∙ ap (λ (bytes : List ℕ). same_name (codes ".xdc") (drop (length bytes - 4) bytes)) c.bytes-name.ensures.same
    ∙ ends-lowered c.file.inside.node.name
    ∙ ap is_app c.file.view_is
