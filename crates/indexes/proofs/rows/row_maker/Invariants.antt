use Rattle.std.proofs.Common.{◌≡◌, ◌≤◌, ◌+◌, Some, length, take}
use Rattle.std.specs.Prelude.{sum_by}
use Rattle.mailbox_model.specs.Present.{Mail, mail_at, present_cards}
use Rattle.mailbox_model.specs.Rows.{acts_on, naming}
use Rattle.chat_view.specs.Makers.{MakesRow}
use Rattle.indexes.proofs.rows.row_maker.Given as goal

-- the maker has what those that name the card so far do to it
abbrev pub invariant-loop-uid : goal.invariant-loop-uid
invariant-loop-uid g l =
    let m = l.view in
    let so_far = take l.uid-index (naming l.spot.id (present_cards m)) in
    record {
      made : (t : Mail) → mail_at m l.spot.uid ≡ Some t → MakesRow m.me t (acts_on m.me t.placed.card so_far) l.maker;
      few : length l.maker.row.updates ≤ sum_by (λ p. length p.card.updates) so_far;
      read : l.steps ≤ l.fn.steps + l.uid-index;
    }
