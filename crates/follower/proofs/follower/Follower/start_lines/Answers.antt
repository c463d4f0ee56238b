use Rattle.std.proofs.Common.{◌≡◌, false, ap, subst, sym, arith}
use Rattle.source_buffer.specs.Known.{IfKnown}
use Rattle.state_image.specs.declared.position.Position.{Position}
use Rattle.follower.specs.Following.{Following}
use Rattle.follower.specs.Opening.{StandsAtLines}
use Rattle.follower.proofs.Starting.{AreFreshLines, lines_start, short_taken}
use Rattle.follower.proofs.follower.Follower.start_lines.Goals as goal

pub returns-clause-starts : goal.returns-clause-starts
returns-clause-starts g c =
    let old : Following = record { keeper = c.self.inside.keeper; mbox = c.self.inside.mbox; lines = c.self.inside.lines; failed = c.self.inside.failed } in
    let new : Following = record { keeper = c.self.inside.keeper; mbox = c.self.inside.mbox; lines = c.skip.new.self; failed = false } in
    let fresh = subst (λ (f : Following). AreFreshLines f.lines) (sym c.self.view_is) c.requires.first in
    let skipped = c.in_ok-skip.ensures in
    let all : c.in_ok-skip.field-0 ≡ old.keeper.state.position.steps = omega (arith, skipped.count, c.if-branch-place.false, ap (λ (p : Position). p.steps) c.position-place.ensures.value) in
    subst (λ (f : Following). IfKnown (g.S.Source.left c.args.steps_file.now) (g.S.Source.left c.skip.new.source) (λ before after. StandsAtLines f before new after)) c.self.view_is
    (lines_start _ _ old new c.in_ok-skip.field-0 fresh all skipped.took skipped.moved skipped.place skipped.position skipped.traced)

pub returns-then-branch-place-clause-cause : goal.returns-then-branch-place-clause-cause
returns-then-branch-place-clause-cause g c =
    let old = c.self.inside.lines in
    let new = c.skip.new.self in
    let fresh = subst (λ (f : Following). AreFreshLines f.lines) (sym c.self.view_is) c.requires.first in
    let skipped = c.in_ok-skip.ensures in
    let took = skipped.took in
    let few = c.if-branch-place.true in
    short_taken old.held took.0 took.2.0 new.held c.in_ok-skip.field-0 c.self.inside.keeper.state.position.steps old.taken new.taken fresh.0 fresh.1 took.1.taken took.2.1 took.2.2
    (skipped.end few).1 (omega (arith, few, ap (λ (p : Position). p.steps) c.position-place.ensures.value))
