-- The pages of the chats in the list.
use Rattle.std.proofs.Common.{◌≡◌, ℕ, ◌<◌, Bool, true, false, Option, Some, None, List, length, get_or, if◌then◌else◌, ap, sym, ◌∙◌}
use Rattle.std.specs.Prelude.{is_some}
use Rattle.std.specs.List.{list_any}
use Rattle.std.proofs.lemmas.List.Folds.{list_any_at}
use Rattle.card_type.specs.declared.key.ChatKey.{ChatKey}
use Rattle.card_type.specs.Keys.{key_eq}
use Rattle.mailbox_model.specs.declared.list.ListRow.{ListRow}
use Rattle.mailbox_model.specs.declared.page.ChatPage.{ChatPage}
use Rattle.mailbox_model.specs.Mailbox.{Mailbox}
use Rattle.mailbox_model.specs.Pages.{keys, page, page_of}
use Rattle.mailbox_model.proofs.ListLaws.{key_self}

-- a row of a list has a key that is found in it
pub has_key_at : (rows : List ListRow) (i : ℕ) (row : ListRow) → i < length rows → row ≡ get_or rows i row → list_any (λ r. key_eq row.key r.key) rows ≡ true
has_key_at rows i row within at =
    list_any_at (λ r. key_eq row.key r.key) rows i row within (ap (λ (r : ListRow). key_eq row.key r.key) (sym at) ∙ key_self row.key)

-- the page of a chat that is there
pub page_is : (m : Mailbox) (key : ChatKey) (found : ChatPage) → page m key ≡ Some found → found ≡ page_of m key
page_is m key found = by (list_any (key_eq key) (keys m))
  where
    by : (b : Bool) → (if b then Some (page_of m key) else None) ≡ Some found → found ≡ page_of m key
    by true e = cc
    by false e = absurd cc

pub page_is_there : (o : Option ChatPage) → is_some o ≡ true → o ≡ None → ⊥
page_is_there None there none = absurd cc
page_is_there (Some p) there none = absurd cc
