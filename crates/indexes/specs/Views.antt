-- A mailbox as it is, or as a change will leave it.
use Rattle.std.specs.Prelude.{◌≡◌, ℕ, false, Option, Some, None, IfSome}
use Rattle.std.specs.Result.{result_ok}
use Rattle.kit.specs.Options.{◌>>=◌}
use Rattle.card_type.specs.declared.card.Card.{Card}
use Rattle.mailbox_model.specs.declared.change.Change.{Change}
use Rattle.mailbox_model.specs.declared.turn.Turn.{Turn}
use Rattle.mailbox_model.specs.Mailbox.{Mailbox, Entry, after, entry_at, full, IsMailbox, IsValidChange}
use Rattle.mailbox_model.specs.Turns.{turn}
use Rattle.indexes.specs.declared.view.Coming.{Coming}

-- a change that a mailbox allows, with the turn that it makes
pub record IsComing (m : Mailbox) (change : Change) (turns : Turn) : Type 0 where
  pub rules : IsMailbox m
  pub valid : IsValidChange change
  pub room : full m change ≡ false
  pub turn : turns ≡ turn m change

-- the mailbox that is seen
abbrev pub seen_with : Mailbox → Option Coming → Mailbox
seen_with m None = m
seen_with m (Some coming) = after m coming.change.now

abbrev pub AllowsComing : Mailbox → Option Coming → Type 0
AllowsComing m coming = IfSome coming (λ c. IsComing m c.change.now c.turn.now)

-- ---- what an entry has

abbrev pub card_of : Option Entry → Option Card
card_of entry = entry >>= λ e. result_ok e.read

abbrev pub seen_of : Option Entry → Option ℕ
seen_of entry = entry >>= λ e. e.seen

-- when the mail with a uid was seen
abbrev pub seen_at : Mailbox → ℕ → Option ℕ
seen_at m uid = seen_of (entry_at m uid)
