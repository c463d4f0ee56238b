-- A run that goes on where another one was stopped answers the same.
use Rattle.std.proofs.Common.{◌≡◌, ℕ, ◌≤◌, Bool, true, false, length, Option, Some, None, Result, Ok, Err, if◌then◌else◌, refl, sym, ap, ◌∙◌, bytes_eq, nat_lt, option_map, length-append, arith}
use Rattle.std.proofs.lemmas.Bool.{le-ltb}
use Rattle.std.specs.Result.{result_map_both}
use Rattle.mailbox_model.specs.Lists.{Bytes}
use Rattle.mailbox_model.specs.Mailbox.{Mailbox}
use Rattle.state_image.specs.declared.position.Position.{Position}
use Rattle.state_store.specs.States.{State}
use Rattle.answers.specs.Answers.{answer_of}
use Rattle.answers.specs.declared.question.Question.{Question}
use Rattle.follower.specs.declared.fault.Input.TheVariants.{Mbox, Steps}
use Rattle.follower.specs.Reached.{Reached, Stop, reached}
use Rattle.follower.specs.Resuming.{LiesWithin, MboxGrows, ReachSame, StepsGrow}
use Rattle.follower.proofs.Going.{same_me}
use Rattle.follower.proofs.Inputs.{inputs_grown}
use Rattle.follower.proofs.Resuming.{goes_on}
use Rattle.follow.specs.declared.status.Refusal.{Refusal}
use Rattle.follow.specs.declared.status.Refusal.TheVariants as refusal
use Rattle.follow.specs.Outcome.{Given, answer_at, changes, followed_from, replied, result, short_of, short_steps, unfit_files}
use Rattle.follow.specs.Rest.{TheRest}
use Rattle.follow.specs.Statuses.{answer_refusal}

-- ---- files that have grown are not short

mbox_fits : (p : ℕ) (mbox longer : Bytes) (steps : Option Bytes) (at : ℕ) → MboxGrows mbox longer → p ≤ length mbox
    → (if nat_lt (length longer) p then Some Mbox else short_steps at steps) ≡ short_steps at steps
mbox_fits p mbox longer steps at grows within =
    let fits : p ≤ length longer = omega (arith, within, ap length grows.is, length-append mbox grows.more) in
    ap (λ (b : Bool). if b then Some Mbox else short_steps at steps) (le-ltb (length longer) p fits)

steps_fit : (p : ℕ) (steps more : Bytes) (moment : Option ℕ) → StepsGrow (Some steps) (Some more) moment → p ≤ length steps → p ≤ length more
steps_fit p steps more None grown within = omega (arith, within, ap length grown.1, length-append steps grown.0)
steps_fit p steps more (Some moment) same within = omega (arith, within, ap length same)

long_enough : (p : Position) (mbox longer : Bytes) (steps more : Option Bytes) (moment : Option ℕ) → MboxGrows mbox longer → StepsGrow steps more moment → LiesWithin p mbox steps
    → short_of p longer more ≡ None
long_enough p mbox longer None None moment grows grown within = mbox_fits p.mbox mbox longer None p.steps grows within
long_enough p mbox longer None (Some more) moment grows grown within = absurd grown
long_enough p mbox longer (Some steps) None moment grows grown within = absurd grown
long_enough p mbox longer (Some steps) (Some more) moment grows grown within =
    mbox_fits p.mbox mbox longer (Some more) p.steps grows within.0
    ∙ ap (λ (b : Bool). if b then Some Steps else None) (le-ltb (length more) p.steps (steps_fit p.steps steps more moment grown within.1))

-- ---- answers

same_answer : (q : Question) (a b : Reached) → ReachSame a b → replied q (Ok a) ≡ replied q (Ok b)
same_answer q a b same = ap (λ (stop : Option Stop). answer_at q stop a.state) same.stop ∙ by b.stop
  where
    by : (stop : Option Stop) → answer_at q stop a.state ≡ answer_at q stop b.state
    by None = ap (λ (m : Mailbox). result_map_both (λ text. text) answer_refusal (answer_of m q)) same.mailbox
    by (Some why) = refl

-- what is answered from a state on, of the address and of what is wrong with the files
abbrev answered : Question → Given → State → Bool → Option Refusal → Result Bytes Refusal
answered q g s own files = replied q (followed_from g s (if own then files else Some (refusal.OtherMe s.mailbox.me g.me)))

same_if : (q : Question) (g : Given) (s t : State) (own : Bool) → t.mailbox.me ≡ s.mailbox.me → ReachSame (reached t (changes g t)) (reached s (changes g s))
    → answered q g t own None ≡ answered q g s own None
same_if q g s t true me same = same_answer q (reached t (changes g t)) (reached s (changes g s)) same
same_if q g s t false me same = ap (λ (me : Bytes). Err (refusal.OtherMe me g.me)) me

pub the_rest : TheRest
unfolding result
the_rest q g s t mbox steps others grows grown within same leads on_s on_t =
    let h = goes_on s t mbox g.mbox steps g.steps g.moment others grows grown within leads on_s on_t in
    let me : t.mailbox.me ≡ s.mailbox.me = ap (λ (s : State). s.mailbox.me) leads.state ∙ same_me s leads.done in
    let new : unfit_files g t (short_of t.position g.mbox g.steps) ≡ None =
    ap (unfit_files g t) (long_enough t.position mbox g.mbox steps g.steps g.moment grows grown h.0)
    ∙ ap (option_map refusal.OtherFiles) (inputs_grown t.position mbox g.mbox steps g.steps g.moment grows grown h.0 (h.1 same)) in
    let old : unfit_files g s (short_of s.position g.mbox g.steps) ≡ None =
    ap (unfit_files g s) (long_enough s.position mbox g.mbox steps g.steps g.moment grows grown within)
    ∙ ap (option_map refusal.OtherFiles) (inputs_grown s.position mbox g.mbox steps g.steps g.moment grows grown within same) in
    ap (answered q g t (bytes_eq t.mailbox.me g.me)) new
    ∙ ap (λ (me : Bytes). answered q g t (bytes_eq me g.me) None) me
    ∙ same_if q g s t (bytes_eq s.mailbox.me g.me) me h.2
    ∙ ap (answered q g s (bytes_eq s.mailbox.me g.me)) (sym old)
