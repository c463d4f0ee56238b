use Rattle.std.proofs.Common.{◌≡◌, ℕ, List, ap, subst, ◌∙◌}
use Rattle.std.specs.Prelude.{IfOk}
use Rattle.kit.specs.declared.charset.Charset.TheVariants.{Ascii}
use Rattle.kit.specs.Charsets.{to_text}
use Rattle.mime_fields.proofs.Ascii.{lowered_text}
use Rattle.mime_fields.proofs.content_type.lowered_text.Goals as goal

pub returns : goal.returns
returns c =
    let P : List ℕ → Type 0 = λ bytes. IfOk c.to_text.result (λ text. text ≡ bytes) in
    subst P (ap (to_text Ascii) (c.deref.ensures.value ∙ c.in_ok-lowered.ensures) ∙ lowered_text c.args.word.now c.requires) c.to_text.ensures
