use Rattle.std.proofs.Common.{◌≡◌, sym, ap, ◌∙◌, Bool, true, false, Option, Some, None, length}
use Rattle.std.specs.Prelude.{if◌then◌else◌}
use Rattle.std.specs.List.{list_any}
use Rattle.card_type.specs.Keys.{key_eq}
use Rattle.card_type.specs.declared.key.ChatKey.{ChatKey}
use Rattle.mailbox_model.specs.Mailbox.{Mailbox}
use Rattle.mailbox_model.specs.Pages.{keys, page, page_of, shown_rows}
use Rattle.mailbox_model.specs.declared.page.ChatPage.{ChatPage}
use Rattle.trial.proofs.summary.shown_in.Goals as goal

-- the page of a chat has the rows that are shown in it
its_rows : (m : Mailbox) (key : ChatKey) (found : ChatPage) → page m key ≡ Some found → length found.rows ≡ length (shown_rows m key)
its_rows m key found is = by (list_any (key_eq key) (keys m)) is
  where
    by : (b : Bool) → (if b then Some (page_of m key) else None) ≡ Some found → length found.rows ≡ length (shown_rows m key)
    by true e = let same : page_of m key ≡ found = cc in ap (λ p. length p.rows) (sym same)
    by false e = cc

pub returns-in-Ok-clause-count : goal.returns-in-Ok-clause-count
returns-in-Ok-clause-count g c = c.len.ensures ∙ its_rows c.args.engine.now.mailbox c.args.key.now c.in-Ok.page c.in-Ok.ensures.page
