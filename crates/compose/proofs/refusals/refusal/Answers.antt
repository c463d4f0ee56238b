use Rattle.std.proofs.Common.{refl, sym, ◌∙◌}
use Rattle.compose.proofs.refusals.refusal.Goals as goal

pub returns-then-not-branch-2-clause-value : goal.returns-then-not-branch-2-clause-value
returns-then-not-branch-2-clause-value c =
    rw (
      sym c.is_empty.ensures ∙ c.if-is_empty.false,
      sym c.lacks_group.ensures ∙ c.if-lacks_group.false,
      sym c.lacks_target.ensures ∙ c.if-lacks_target.false,
      sym c.has_brackets.ensures ∙ c.if-has_brackets.false,
      sym c.in_ok-is_fine_text.ensures ∙ c.if-not-branch.false,
      sym c.in_ok-fits.ensures.value ∙ c.if-not-branch-2.true,
    ) refl

pub returns-clause-value : goal.returns-clause-value
returns-clause-value c =
    rw (
      sym c.is_empty.ensures ∙ c.if-is_empty.false,
      sym c.lacks_group.ensures ∙ c.if-lacks_group.false,
      sym c.lacks_target.ensures ∙ c.if-lacks_target.false,
      sym c.has_brackets.ensures ∙ c.if-has_brackets.false,
      sym c.in_ok-is_fine_text.ensures ∙ c.if-not-branch.false,
      sym c.in_ok-fits.ensures.value ∙ c.if-not-branch-2.false,
    ) refl
