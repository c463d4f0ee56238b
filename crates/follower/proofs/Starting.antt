-- A reader that was passed over the bytes that were followed stands after them.
use Rattle.std.proofs.Common.{◌≡◌, ℕ, ◌+◌, ◌<◌, false, List, [], ◌++◌, length, take, drop, Option, Some, None, refl, sym, ap, subst, ◌∙◌, arith, length-append}
use Rattle.kit.specs.Chains.{Cut, StandsFor, no_cut}
use Rattle.kit.proofs.ChainLaws.{stands_none}
use Rattle.mboxrd.specs.Mails.{mails_from}
use Rattle.mboxrd.specs.Reading as mbox
use Rattle.source_buffer.specs.Buffered.{Drops}
use Rattle.source_buffer.specs.Known.{IfKnown}
use Rattle.steps_file.specs.Lines.{ended_lines}
use Rattle.steps_file.specs.Reading as steps
use Rattle.follower.specs.Following.{Following}
use Rattle.follower.specs.Opening.{StandsAtLines, StandsAtMails}

-- the trace of no bytes
stands_at_none : (c : Cut) (place : ℕ) (file : List ℕ) → c ≡ no_cut → place ≡ 0 → StandsFor c (take place file)
stands_at_none c place file none start =
    subst (λ (d : Cut). StandsFor d (take place file)) (sym none) (subst (λ (n : ℕ). StandsFor no_cut (take n file)) (sym start) stands_none)

-- ---- an input that is short

-- it gave fewer bytes than were followed, where all were dropped that it gave
pub short_taken : (held bytes passed rest : List ℕ) (dropped place before after : ℕ) → held ≡ [] → before ≡ 0 → after ≡ before + length bytes → held ++ bytes ≡ passed ++ rest
    → length passed ≡ dropped → rest ≡ [] → dropped < place → after < place
short_taken held bytes passed rest dropped place before after none first took is count left few =
    omega (arith, first, took, ap length is, ap length none, ap length left, count, few, length-append held bytes, length-append passed rest)

-- ---- the mbox

-- nothing was taken yet
abbrev pub IsFreshMbox : mbox.Reading → Type 0
IsFreshMbox r = (r.held ≡ []) × (r.taken ≡ 0) × (r.at_separator ≡ false) × (r.place ≡ 0) × (r.trace ≡ no_cut)

module _ (r : mbox.Reading) (fresh : IsFreshMbox r) (file : List ℕ) where
  mbox_position : mbox.position r ≡ 0
  mbox_position = omega (arith, fresh.1)

  mbox_at : (bytes : List ℕ) → file ≡ bytes → mbox.IsAt file bytes r
  mbox_at bytes is = ap (λ (h : List ℕ). h ++ bytes) fresh.0 ∙ sym is ∙ sym (ap (λ (n : ℕ). drop n file) mbox_position)

  mbox_traced : mbox.IsTraced file r
  mbox_traced = record { place = fresh.3 ∙ sym mbox_position; trace = stands_at_none r.trace r.place file fresh.4 fresh.3 }

pub mbox_starts : (l m : Option (List ℕ)) (old new : Following) (dropped : ℕ) → IsFreshMbox old.mbox → dropped ≡ old.keeper.state.position.mbox
    → (bytes : List ℕ) × mbox.Takes l m old.mbox new.mbox bytes × Drops old.mbox.trace new.mbox.trace old.mbox.held bytes dropped new.mbox.held
    → mbox.position new.mbox ≡ mbox.position old.mbox + dropped → new.mbox.place ≡ mbox.position new.mbox
    → IfKnown l m (λ before after. (file : List ℕ) → mbox.IsAt file before old.mbox → mbox.IsAt file after new.mbox)
    → IfKnown l m (λ before after. (file : List ℕ) → mbox.IsAt file before old.mbox → mbox.IsTraced file old.mbox → mbox.IsTraced file new.mbox)
    → IfKnown l m (λ before after. StandsAtMails old before new after)
mbox_starts None m old new dropped fresh is took moved placed at traced = tt
mbox_starts (Some b) None old new dropped fresh is took moved placed at traced = absurd at
mbox_starts (Some b) (Some a) old new dropped fresh is (bytes, takes, (passed, held, len, adds)) moved placed at traced =
    let here : mbox.position new.mbox ≡ old.keeper.state.position.mbox = omega (arith, moved, mbox_position old.mbox fresh b, is) in
    record {
      within = omega (arith, is, len, ap length held, ap length fresh.0, ap length takes.left, length-append old.mbox.held bytes, length-append passed new.mbox.held, length-append bytes a);
      ahead = ap (mails_from (mbox.position new.mbox)) (at b (mbox_at old.mbox fresh b b refl)) ∙ ap (λ (n : ℕ). mails_from n (drop n b)) here;
      place = placed ∙ here;
      stands = λ files same. record {
        at = at files.mbox (mbox_at old.mbox fresh files.mbox b same);
        traced = traced files.mbox (mbox_at old.mbox fresh files.mbox b same) (mbox_traced old.mbox fresh files.mbox);
      };
    }

-- ---- the steps file

abbrev pub AreFreshLines : steps.Reading → Type 0
AreFreshLines r = (r.held ≡ []) × (r.taken ≡ 0) × (r.place ≡ 0) × (r.trace ≡ no_cut)

module _ (r : steps.Reading) (fresh : AreFreshLines r) (file : List ℕ) where
  steps_position : steps.position r ≡ 0
  steps_position = omega (arith, fresh.1)

  steps_at : (bytes : List ℕ) → file ≡ bytes → steps.IsAt file bytes r
  steps_at bytes is = ap (λ (h : List ℕ). h ++ bytes) fresh.0 ∙ sym is ∙ sym (ap (λ (n : ℕ). drop n file) steps_position)

  steps_traced : steps.IsTraced file r
  steps_traced = record { place = fresh.2 ∙ sym steps_position; trace = stands_at_none r.trace r.place file fresh.3 fresh.2 }

pub lines_start : (l m : Option (List ℕ)) (old new : Following) (dropped : ℕ) → AreFreshLines old.lines → dropped ≡ old.keeper.state.position.steps
    → (bytes : List ℕ) × steps.Takes l m old.lines new.lines bytes × Drops old.lines.trace new.lines.trace old.lines.held bytes dropped new.lines.held
    → steps.position new.lines ≡ steps.position old.lines + dropped → new.lines.place ≡ steps.position new.lines
    → IfKnown l m (λ before after. (file : List ℕ) → steps.IsAt file before old.lines → steps.IsAt file after new.lines)
    → IfKnown l m (λ before after. (file : List ℕ) → steps.IsAt file before old.lines → steps.IsTraced file old.lines → steps.IsTraced file new.lines)
    → IfKnown l m (λ before after. StandsAtLines old before new after)
lines_start None m old new dropped fresh is took moved placed at traced = tt
lines_start (Some b) None old new dropped fresh is took moved placed at traced = absurd at
lines_start (Some b) (Some a) old new dropped fresh is (bytes, takes, (passed, held, len, adds)) moved placed at traced =
    let here : steps.position new.lines ≡ old.keeper.state.position.steps = omega (arith, moved, steps_position old.lines fresh b, is) in
    record {
      within = omega (arith, is, len, ap length held, ap length fresh.0, ap length takes.left, length-append old.lines.held bytes, length-append passed new.lines.held, length-append bytes a);
      ahead = ap ended_lines (at b (steps_at old.lines fresh b b refl)) ∙ ap (λ (n : ℕ). ended_lines (drop n b)) here;
      place = placed ∙ here;
      stands = λ files same. record {
        at = at files.steps (steps_at old.lines fresh files.steps b same);
        traced = traced files.steps (steps_at old.lines fresh files.steps b same) (steps_traced old.lines fresh files.steps);
      };
    }
