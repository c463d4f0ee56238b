use Rattle.std.proofs.Common.{inl, inr, subst}
use Rattle.mailbox_model.specs.declared.turn.Turn.{Turn}
use Rattle.mailbox_model.specs.Present.{present}
use Rattle.mailbox_model.specs.Turns.{Turns}
use Rattle.repair.proofs.Turns.{all_stay, one_marked}
use Rattle.repair.proofs.reindex.follow.Goals as goal

pub returns-in-Nothing-2-clause-cards : goal.returns-in-Nothing-2-clause-cards
returns-in-Nothing-2-clause-cards g c =
    let m = c.args.mailbox.now.mailbox in
    let n = c.args.view.now in
    let x = c.args.indexes.now in
    let turns = λ (turn : Turn). Turns (present m) (present n) m.now turn in
    elim c.in-Nothing.is [
      | inl e ↦ all_stay m n c.requires.me x c.requires.kept (subst turns e c.requires.turn.present)
      | inr (inl e) ↦ let marked = subst turns e.1 c.requires.turn.present in one_marked m n c.requires.me x c.requires.kept e.0 m.now marked.4
      | inr (inr e) ↦ all_stay m n c.requires.me x c.requires.kept (subst turns e.1 c.requires.turn.present)
    ]
