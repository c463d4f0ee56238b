-- Where the clock goes on and no mail expires.
use Rattle.std.specs.Prelude.{ℕ, ◌≤◌, ◌<◌, ◌⊎◌, IfSome}
use Rattle.std.specs.List.{AllByRecursion}
use Rattle.mailbox_model.specs.Mailbox.{Mailbox}
use Rattle.mailbox_model.specs.Present.{contents}
use Rattle.mailbox_model.specs.Rows.{expiry}

-- each deadline is reached at the moment of the mailbox, or comes after this later one
abbrev pub NoneFallsDue : Mailbox → ℕ → Type 0
NoneFallsDue m later = AllByRecursion (λ t. IfSome (expiry m.me t) (λ end. (end ≤ m.now) ⊎ (later < end))) (contents m)
