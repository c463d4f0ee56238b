-- Worked rows of the definitions, which compute.
use Rattle.std.proofs.Common.{◌≡◌, ℕ, List, [], ◌∷◌, ◌++◌, codes, refl}
use Rattle.mboxrd.specs.Mails.{Mail, mails_from, unquoted}

abbrev mail : List ℕ → ℕ → Mail
mail bytes end = record { bytes = bytes; end = end }

two_mails : mails_from 0 (codes "From -\nA: b\n\n>From x\nFrom y\n\nFrom -\nC: d\n")
    ≡ mail (codes "A: b\n\nFrom x\nFrom y\n") 29 ∷ mail (codes "C: d\n") 41 ∷ []
two_mails = refl

of_nothing : mails_from 7 [] ≡ []
of_nothing = refl

before_the_first : mails_from 0 (codes "x\n\nFrom -\na\n") ≡ mail (codes "a\n") 12 ∷ []
before_the_first = refl

no_separator : mails_from 0 (codes "x\nFrom -\na\n") ≡ []
no_separator = refl

from_another_place : mails_from 100 (codes "From -\na\n\n") ≡ mail (codes "a\n") 110 ∷ []
from_another_place = refl

ends_in_cr_lf : mails_from 0 (codes "From -\r\na\r\n\r\nFrom -\r\n>>From \r\n\r\n")
    ≡ mail (codes "a\r\n") 13 ∷ mail (codes ">From \r\n") 32 ∷ []
ends_in_cr_lf = refl

one_empty_line_closes : mails_from 0 (codes "From -\na\n\n\nFrom -\n\n") ≡ mail (codes "a\n\n") 11 ∷ mail [] 19 ∷ []
one_empty_line_closes = refl

nothing_closes : mails_from 0 (codes "From -\n\nFro") ≡ mail (codes "\nFro") 11 ∷ []
nothing_closes = refl

empty_mails : mails_from 0 (codes "From -\n\nFrom -") ≡ mail [] 8 ∷ mail [] 14 ∷ []
empty_mails = refl

-- neither is a quoted `From `
unquoted_rows : unquoted (codes "> From ") ≡ codes "> From "
unquoted_rows = refl

unquoted_prefix : unquoted (codes ">>From") ≡ codes ">>From"
unquoted_prefix = refl

-- mails that were added after an empty line, and bytes that were added after another line: these belong to the last mail
grown : mails_from 0 (codes "From -\na\n\n" ++ codes "From -\nb\n") ≡ mail (codes "a\n") 10 ∷ mail (codes "b\n") 19 ∷ []
grown = refl

grown_inside : mails_from 0 (codes "From -\na\n" ++ codes "From -\nb\n") ≡ mail (codes "a\nFrom -\nb\n") 18 ∷ []
grown_inside = refl
