use Rattle.std.proofs.Common.{◌∙◌, List, ap, Some}
use Rattle.std.specs.Prelude.{ℕ, ◌==◌, option_map}
use Rattle.std.specs.List.{before_first}
use Rattle.kit.specs.White.{trim}
use Rattle.part_read.proofs.receipt.disposition_type.Goals as goal

-- what precedes the modifiers
abbrev named : List ℕ → List ℕ
named rest = trim (before_first (λ b. b == 44) (before_first (λ b. b == 47) rest))

pub returns : goal.returns
returns c =
    ap Some (c.trim.ensures ∙ ap trim (c.before_first-2.ensures ∙ ap (before_first (λ b. b == 44)) c.before_first.ensures))
    ∙ ap (option_map (λ (p : List ℕ × List ℕ). named p.1)) c.in_ok-_mode.ensures.parts
