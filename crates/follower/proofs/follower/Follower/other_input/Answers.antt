use Rattle.std.proofs.Common.{ap, sym, ◌∙◌}
use Rattle.kit.specs.Chains.{value_of}
use Rattle.follower.specs.Following.{Following}
use Rattle.follower.specs.Inputs.{is_same}
use Rattle.follower.proofs.Inputs.{mbox_is_other, mbox_is_same, steps_are_other, steps_are_same, steps_not_given}
use Rattle.follower.proofs.follower.Follower.other_input.Goals.{else-steps_given-via-then-steps_given+else-not-is_same-2, else-steps_given-via-else-steps_given}
use Rattle.follower.proofs.follower.Follower.other_input.Goals as goal

pub returns-then-not-is_same : goal.returns-then-not-is_same
returns-then-not-is_same c = λ mbox steps given passed.
    let f = c.args.self.now in
    let position = c.position-position.ensures.value ∙ ap (λ (f : Following). f.keeper.state.position) c.self.view_is in
    let trace = c.trace.ensures.value ∙ ap (λ (f : Following). value_of f.mbox.trace) c.self.view_is in
    mbox_is_other f mbox steps passed (sym (c.is_same.ensures ∙ (λ i. is_same (position i).mbox_trace (trace i))) ∙ c.if-not-is_same.true)

pub returns-then-not-is_same-2 : goal.returns-then-not-is_same-2
returns-then-not-is_same-2 c = λ mbox steps given passed.
    let f = c.args.self.now in
    let position = c.position-position.ensures.value ∙ ap (λ (f : Following). f.keeper.state.position) c.self.view_is in
    let trace = c.trace.ensures.value ∙ ap (λ (f : Following). value_of f.mbox.trace) c.self.view_is in
    let steps_trace = c.trace-then-steps_given.ensures.value ∙ ap (λ (f : Following). value_of f.lines.trace) c.self.view_is in
    steps_are_other f mbox steps passed (sym c.if-steps_given.true ∙ given) (sym (c.is_same-then-steps_given.ensures ∙ (λ i. is_same (position i).steps_trace (steps_trace i))) ∙ c.if-not-is_same-2.true)
    ∙ mbox_is_same f mbox steps passed (sym (c.is_same.ensures ∙ (λ i. is_same (position i).mbox_trace (trace i))) ∙ c.if-not-is_same.false)

pub returns : goal.returns
returns c = λ mbox steps given passed.
    let f = c.args.self.now in
    let position = c.position-position.ensures.value ∙ ap (λ (f : Following). f.keeper.state.position) c.self.view_is in
    let trace = c.trace.ensures.value ∙ ap (λ (f : Following). value_of f.mbox.trace) c.self.view_is in
    let mbox_same = mbox_is_same f mbox steps passed (sym (c.is_same.ensures ∙ (λ i. is_same (position i).mbox_trace (trace i))) ∙ c.if-not-is_same.false) in
    elim c.else-steps_given.branch [
      | else-steps_given-via-then-steps_given+else-not-is_same-2 w ↦
          let steps_trace = w.trace-then-steps_given.ensures.value ∙ ap (λ (f : Following). value_of f.lines.trace) c.self.view_is in
          steps_are_same f mbox steps passed (sym w.if-steps_given.true ∙ given) (sym (w.is_same-then-steps_given.ensures ∙ (λ i. is_same (position i).steps_trace (steps_trace i))) ∙ w.if-not-is_same-2.false)
          ∙ mbox_same
      | else-steps_given-via-else-steps_given w ↦ steps_not_given f.keeper.state.position steps (sym w.if-steps_given.false ∙ given) ∙ mbox_same
    ]
