-- Inputs stay the same as they are followed, and as they grow.
use Rattle.std.proofs.Common.{◌≡◌, ℕ, ◌+◌, ◌≤◌, Bool, true, false, ◌||◌, List, ◌++◌, length, take, Option, Some, None, refl, sym, ap, ◌∙◌, rules, bytes_eq, if◌then◌else◌}
use Rattle.std.proofs.lemmas.List.{take-append-le}
use Rattle.std.proofs.lemmas.Slice.Eq.{bytes_eq-Decides}
use Rattle.std.specs.Prelude.{IfSome, is_some}
use Rattle.kit.specs.Chains.{StandsFor, chain, value_of}
use Rattle.kit.proofs.ChainLaws.{chain_is}
use Rattle.mailbox_model.specs.Lists.{Bytes}
use Rattle.state_image.specs.Images.{no_trace}
use Rattle.state_image.specs.declared.position.Position.{Position}
use Rattle.follower.specs.declared.fault.Input.{Input}
use Rattle.follower.specs.declared.fault.Input.TheVariants.{Mbox, Steps}
use Rattle.follower.specs.Feed.{at_line, counted, files_of, mbox_at}
use Rattle.follower.specs.Following.{Following}
use Rattle.follower.specs.Inputs.{AreSame, IsPassedOver, is_same, other_of, other_steps}
use Rattle.follower.specs.Resuming.{LiesWithin, MboxGrows, StepsGrow}

-- ---- files that have grown begin as they were

pub trace_grows : (n : ℕ) (old new more : Bytes) → new ≡ old ++ more → n ≤ length old → chain (take n new) ≡ chain (take n old)
trace_grows n old new more is within = ap chain (ap (take n) is ∙ take-append-le n old more within)

-- ---- the parts of what is tested

same_bytes : (a : Bytes) → bytes_eq a a ≡ true
same_bytes a = search (rules, bytes_eq-Decides)

or_true : (a b : Bool) → b ≡ true → (a || b) ≡ true
or_true true b e = refl
or_true false b e = e

same_self : (t : List ℕ) → is_same t t ≡ true
same_self t = or_true (bytes_eq t no_trace) (bytes_eq t t) (same_bytes t)

parts : (b : Bool) (o : Option Input) → (if b then o else Some Mbox) ≡ None → (b ≡ true) × (o ≡ None)
parts true o e = (refl, e)
parts false o e = absurd cc

whole : (b : Bool) (o : Option Input) → b ≡ true → o ≡ None → (if b then o else Some Mbox) ≡ None
whole b o is none = ap (λ (b : Bool). if b then o else Some Mbox) is ∙ none

same_steps : (p q : Position) (steps : Option Bytes) → q.steps ≡ p.steps → q.steps_trace ≡ p.steps_trace → other_steps q steps ≡ other_steps p steps
same_steps p q None place trace = refl
same_steps p q (Some steps) place trace = λ i. if is_same (trace i) (chain (take (place i) steps)) then None else Some Steps

-- ---- they stay the same

-- after a mail
pub mail_known : (p : Position) (mbox : Bytes) (steps : Option Bytes) (place : ℕ) → AreSame p mbox steps → AreSame (mbox_at (files_of mbox steps) (counted p) place) mbox steps
mail_known p mbox steps place same =
    let q = mbox_at (files_of mbox steps) (counted p) place in
    whole (is_same q.mbox_trace (chain (take place mbox))) (other_steps q steps) (same_self (chain (take place mbox)))
    (same_steps p q steps refl refl ∙ (parts (is_same p.mbox_trace (chain (take p.mbox mbox))) (other_steps p steps) same).1)

-- after a line
pub line_known : (p : Position) (mbox steps : Bytes) (raw : List ℕ) → AreSame p mbox (Some steps) → AreSame (at_line (files_of mbox (Some steps)) p raw) mbox (Some steps)
line_known p mbox steps raw same =
    let q = at_line (files_of mbox (Some steps)) p raw in
    whole (is_same p.mbox_trace (chain (take p.mbox mbox))) (other_steps q (Some steps)) (parts (is_same p.mbox_trace (chain (take p.mbox mbox))) (other_steps p (Some steps)) same).0
    (ap (λ (b : Bool). if b then None else Some Steps) (same_self (chain (take (p.steps + length raw) steps))))

-- and where the files have grown
grown_steps : (p : Position) (steps more : Option Bytes) (mbox : Bytes) (moment : Option ℕ) → StepsGrow steps more moment → LiesWithin p mbox steps → other_steps p more ≡ other_steps p steps
grown_steps p None None mbox moment grown within = refl
grown_steps p None (Some more) mbox moment grown within = absurd grown
grown_steps p (Some steps) None mbox moment grown within = absurd grown
grown_steps p (Some steps) (Some more) mbox None grown within =
    ap (λ (t : List ℕ). if is_same p.steps_trace t then None else Some Steps) (trace_grows p.steps steps more grown.0 grown.1 within.1)
grown_steps p (Some steps) (Some more) mbox (Some moment) same within = ap (λ (bytes : Bytes). other_steps p (Some bytes)) same

lies : (p : Position) (mbox : Bytes) (steps : Option Bytes) → LiesWithin p mbox steps → p.mbox ≤ length mbox
lies p mbox None within = within
lies p mbox (Some steps) within = within.0

pub inputs_grown : (p : Position) (mbox longer : Bytes) (steps more : Option Bytes) (moment : Option ℕ) → MboxGrows mbox longer → StepsGrow steps more moment → LiesWithin p mbox steps
    → AreSame p mbox steps → AreSame p longer more
inputs_grown p mbox longer steps more moment grows grown within same =
    (λ i. if is_same p.mbox_trace (trace_grows p.mbox mbox longer grows.more grows.is (lies p mbox steps within) i) then grown_steps p steps more mbox moment grown within i else Some Mbox)
    ∙ same

-- ---- what the readers tell of them

module _ (f : Following) (mbox : Bytes) (steps : Option Bytes) (passed : IsPassedOver mbox steps f) where
  abbrev p : Position
  p = f.keeper.state.position

  mbox_trace : value_of f.mbox.trace ≡ chain (take p.mbox mbox)
  mbox_trace = chain_is f.mbox.trace (take p.mbox mbox) passed.mbox_stands

  pub mbox_is_other : is_same p.mbox_trace (value_of f.mbox.trace) ≡ false → Some Mbox ≡ other_of p mbox steps
  mbox_is_other is = sym (ap (λ (b : Bool). if b then other_steps p steps else Some Mbox) (ap (is_same p.mbox_trace) (sym mbox_trace) ∙ is))

  pub mbox_is_same : is_same p.mbox_trace (value_of f.mbox.trace) ≡ true → other_steps p steps ≡ other_of p mbox steps
  mbox_is_same is = sym (ap (λ (b : Bool). if b then other_steps p steps else Some Mbox) (ap (is_same p.mbox_trace) (sym mbox_trace) ∙ is))

  by_steps : (o : Option Bytes) → IfSome o (λ bytes. StandsFor f.lines.trace (take p.steps bytes)) → true ≡ is_some o → (b : Bool) → is_same p.steps_trace (value_of f.lines.trace) ≡ b
      → (if b then None else Some Steps) ≡ other_steps p o
  by_steps None stands given b is = absurd cc
  by_steps (Some bytes) stands given b is =
      sym (ap (λ (b : Bool). if b then None else Some Steps) (ap (is_same p.steps_trace) (sym (chain_is f.lines.trace (take p.steps bytes) stands)) ∙ is))

  pub steps_are_other : true ≡ is_some steps → is_same p.steps_trace (value_of f.lines.trace) ≡ false → Some Steps ≡ other_steps p steps
  steps_are_other given is = by_steps steps passed.steps_stand given false is

  pub steps_are_same : true ≡ is_some steps → is_same p.steps_trace (value_of f.lines.trace) ≡ true → None ≡ other_steps p steps
  steps_are_same given is = by_steps steps passed.steps_stand given true is

pub steps_not_given : (p : Position) (steps : Option Bytes) → false ≡ is_some steps → None ≡ other_steps p steps
steps_not_given p None given = refl
steps_not_given p (Some bytes) given = absurd cc
