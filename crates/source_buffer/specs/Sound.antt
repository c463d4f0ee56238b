-- The indices and counts of a buffer.
use Rattle.std.specs.Prelude.{ℕ, ◌≤◌, ◌<◌}

-- what holds of them
pub record IsSound (start end size taken budget : ℕ) : Type 0 where
  pub held : start ≤ end
  pub inside : end ≤ size
  pub some : 0 < size
  pub within : taken ≤ budget
  pub fewer : end ≤ taken
