-- What is read of the cards whose rows fall due.
use Rattle.std.specs.Prelude.{◌≡◌, ℕ, ◌+◌, ◌≤◌, true, nat_eq, List, length}
use Rattle.std.specs.List.{AllByRecursion, IsDistinct}
use Rattle.mailbox_model.specs.Mailbox.{Mailbox}
use Rattle.touched_chats.specs.Suspects.{uid_falls_due}

-- no more than one card for each of some different uids, whose rows all fall due
pub record ReadsDue (m : Mailbox) (now old new : ℕ) : Type 0 where
  pub uids : List ℕ
  pub once : IsDistinct nat_eq uids
  pub due : AllByRecursion (λ uid. uid_falls_due m now uid ≡ true) uids
  pub cost : new ≤ old + length uids
