-- Whether a clock was asked, and a steps file given.
use Rattle.std.proofs.Common.{◌≡◌, ℕ, Bool, true, false, Option, None, Some, inl, inr, refl}
use Rattle.mailbox_model.specs.Lists.{Bytes}
use Rattle.follow.specs.Outcome.{AsksClock, TellsSteps}

module _ {C : Type 0} (asked : C → C → ℕ → Type 0) where
  -- a run that ended before it came to the clock
  pub ended_before : (needed : Bool) (clock : C) (ended : Type 0) → ended → AsksClock asked needed clock clock ended
  ended_before false clock ended is = refl
  ended_before true clock ended is = inr (refl, is)

  -- what has become of a clock is so too where a weaker statement says what ended the run
  pub AsksClock-weaker : (needed : Bool) (before after : C) (P Q : Type 0) → (P → Q) → AsksClock asked needed before after P → AsksClock asked needed before after Q
  AsksClock-weaker false before after P Q f is = is
  AsksClock-weaker true before after P Q f (inl once) = inl once
  AsksClock-weaker true before after P Q f (inr ended) = inr (ended.0, f ended.1)

-- whether a steps file is given, and what it tells
pub told_lines : (told lines : Option Bytes) (P : Option Bytes → Type 0) → TellsSteps true told lines → ((steps : Bytes) → told ≡ Some steps → P (Some steps)) → P lines
told_lines told None P tells f = absurd tells
told_lines told (Some steps) P tells f = f steps tells

pub no_lines : (told lines : Option Bytes) (P : Option Bytes → Type 0) → TellsSteps false told lines → P None → P lines
no_lines told None P tells p = p
no_lines told (Some steps) P tells p = absurd tells
