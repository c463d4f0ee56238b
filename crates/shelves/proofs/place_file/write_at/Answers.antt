-- A write of a file that is not open fails since it can't be made, or is broken.
use Rattle.std.proofs.Common.{◌≡◌, ◌≢◌, ◌≤◌, inl, inr, ℕ, refl, rules, arith}
use Rattle.outside.specs.Causes.{Rose}
use Rattle.shelves.specs.declared.place_file.PlaceFile.{PlaceFile}
use Rattle.shelves.specs.declared.place_file.PlaceFile.TheVariants.{Unopened, Open, Absent, Broken}
use Rattle.shelves.specs.FileShelf.{FailsFor}
use Rattle.shelves.proofs.place_file.write_at.Goals as goal

rose_since : (first before now : ℕ) → first ≤ before → Rose before now → Rose first now
rose_since first before now le rose = omega arith

fails_for : {F : Type 0} (first before now : ℕ) (file : PlaceFile F) → first ≤ before → file ≢ Unopened
    → ((it : F) → file ≢ Open it) → (file ≡ Absent → Rose before now) → FailsFor first now file
fails_for first before now Unopened le opened closed why = absurd (opened refl)
fails_for first before now (Open file) le opened closed why = absurd (closed file refl)
fails_for first before now Absent le opened closed why = inl (rose_since first before now le (why refl))
fails_for first before now Broken le opened closed why = inr refl

pub returns-in_default : goal.returns-in_default
returns-in_default g c =
    let why = fails_for _ _ _ c.make_first.new.file c.open_first.ensures.later
    (c.make_first.ensures.opened c.open_first.ensures.opened) c.in_default.not-Open c.make_first.ensures.why in
    search rules
