-- The trial mailbox.
use Rattle.std.specs.Prelude.{ℕ, ◌-◌, ◌*◌, List, flat_map}
use Rattle.std.specs.List.{range_with_len}
use Rattle.box_maker.specs.Draws.{after, drawn, seeded}
use Rattle.box_maker.specs.Mails.{mail}

-- mail i of n, counted from 1: seven words are drawn for each mail before it
abbrev pub mail_of : ℕ → ℕ → List ℕ → ℕ → List ℕ
mail_of number n me i = mail me i (drawn n (after (7 * (i - 1)) (seeded number)))

-- the mails 1 to n of the trial mailbox with a number
unfoldable pub trial_box : ℕ → ℕ → List ℕ → List ℕ
trial_box number n me = flat_map (mail_of number n me) (range_with_len 1 n)
