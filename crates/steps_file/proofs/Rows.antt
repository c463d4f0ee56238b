-- Worked rows of the definitions, which compute.
use Rattle.std.proofs.Common.{◌≡◌, [], ◌∷◌, codes, Some, None, refl}
use Rattle.kit.specs.Lines.{content}
use Rattle.steps_file.specs.declared.step.Step.TheVariants.{Next, Expunge, Seen, At}
use Rattle.steps_file.specs.Lines.{ended_lines}
use Rattle.steps_file.specs.Steps.{step_of}

of_nothing : ended_lines [] ≡ []
of_nothing = refl

three_lines : ended_lines (codes "next\n\nat 5\r\n") ≡ codes "next\n" ∷ codes "\n" ∷ codes "at 5\r\n" ∷ []
three_lines = refl

last_line_open : ended_lines (codes "next\nseen 12") ≡ codes "next\n" ∷ []
last_line_open = refl

only_line_open : ended_lines (codes "next") ≡ []
only_line_open = refl

a_mail : step_of (content (codes "next\n")) ≡ Some Next
a_mail = refl

with_cr : step_of (content (codes "expunge 7\r\n")) ≡ Some (Expunge 7)
with_cr = refl

with_two_crs : step_of (content (codes "next\r\r\n")) ≡ None
with_two_crs = refl

-- 22 bytes, and 23
longest : step_of (content (codes "expunge 004294967295\r\n")) ≡ Some (Expunge 4294967295)
longest = refl

too_long : step_of (content (codes "expunge 0004294967295\r\n")) ≡ None
too_long = refl

uid_too_great : step_of (codes "seen 4294967296") ≡ None
uid_too_great = refl

last_uid_seen : step_of (codes "seen 4294967295") ≡ Some (Seen 4294967295)
last_uid_seen = refl

the_last_moment : step_of (codes "at 253402300799") ≡ Some (At 253402300799)
the_last_moment = refl

moment_too_great : step_of (codes "at 253402300800") ≡ None
moment_too_great = refl

thirteen_digits : step_of (codes "at 0000000000005") ≡ None
thirteen_digits = refl

twelve_digits : step_of (codes "at 000000000005") ≡ Some (At 5)
twelve_digits = refl

no_digits : step_of (codes "seen ") ≡ None
no_digits = refl

two_spaces : step_of (codes "seen  5") ≡ None
two_spaces = refl

space_after : step_of (codes "next ") ≡ None
space_after = refl

a_capital : step_of (codes "Next") ≡ None
a_capital = refl

empty_line : step_of (content (codes "\n")) ≡ None
empty_line = refl
