use Rattle.std.proofs.Common.{◌≡◌, sym, ap, ◌∙◌, subst, Some}
use Rattle.std.specs.Prelude.{IfSome}
use Rattle.std.specs.Option.{option_and_then}
use Rattle.std.proofs.lemmas.Result.{IfOk-weaker}
use Rattle.mailbox_model.specs.Present.{Mail, mail_at}
use Rattle.mailbox_model.specs.Rows.{row}
use Rattle.indexes.specs.Kept.{spot_at}
use Rattle.indexes.proofs.Paged.{row_there, one_row}
use Rattle.indexes.proofs.pages.last_row.Goals as goal

pub returns-in-Some-clause-row : goal.returns-in-Some-clause-row
returns-in-Some-clause-row g c =
    let m = c.args.mailbox.now.mailbox in
    let s = c.in-Some.spot in
    let there = subst (λ o. IfSome o (λ s. spot_at m s.uid ≡ Some s)) c.in-Some.is c.requires.there in
    IfOk-weaker c.row_at.result (λ shown. (t : Mail) → mail_at m s.uid ≡ Some t → shown ≡ row m t) (λ shown. shown ≡ option_and_then (row_there m) c.args.last.now) (λ shown f. one_row m s there shown f ∙ sym (ap (option_and_then (row_there m)) c.in-Some.is)) c.row_at.ensures.row
