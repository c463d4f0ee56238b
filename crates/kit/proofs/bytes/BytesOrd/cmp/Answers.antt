use Rattle.std.proofs.Common.{◌∙◌, ap₂}
use Rattle.std.specs.Cmp.Lexicographic.{slice_cmp}
use Rattle.std.specs.Ordering.{nat_cmp}
use Rattle.kit.proofs.FrontLaws.{by_front}
use Rattle.kit.proofs.bytes.BytesOrd.cmp.Goals as goal

pub returns-in_default : goal.returns-in_default
returns-in_default c =
    by_front c.cmp.result c.self.inside.items.value.items c.other.inside.items.value.items c.self.invariant.fit c.other.invariant.fit
    (c.cmp.ensures ∙ ap₂ nat_cmp c.self.invariant.is c.other.invariant.is) (λ e. c.in_default.not-Equal e)
    ∙ ap₂ (slice_cmp nat_cmp) c.self.view_is c.other.view_is
