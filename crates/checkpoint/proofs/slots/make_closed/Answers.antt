use Rattle.std.proofs.Common.{◌≡◌, true, Some, ◌∙◌}
use Rattle.outside.specs.Places.{Places, content}
use Rattle.checkpoint.specs.Slots.{is_closed}
use Rattle.checkpoint.specs.Parts.{StaysChosen}
use Rattle.checkpoint.proofs.Saved.{still}
use Rattle.checkpoint.proofs.slots.make_closed.Goals as goal

pub returns-then-closed-clause-done : goal.returns-then-closed-clause-done
returns-then-closed-clause-done g c =
    let left = g.H.Shelf.may_leave c.args.shelf.now in
    let all : (s : Places) → g.H.Shelf.seen c.args.shelf.now ≡ Some s → StaysChosen c.args.place left s s × (is_closed (content s c.args.place) ≡ true) =
    λ s is. let h = c.requires s is in (still c.args.place left s h.0, h.1 ∙ c.if-closed.true) in
    record {
      forth = λ s is. record { places = s; is = is; holds = all s is };
      back = λ s is. record { places = s; is = is; holds = all s is };
    }

pub close_gate-requires : goal.close_gate-requires
close_gate-requires g c s is = let h = c.requires s is in (h.0, h.1 ∙ c.if-closed.false)
