-- Worked rows of the definitions, which compute.
use Rattle.std.proofs.Common.{◌≡◌, ℕ, List, [], ◌∷◌, ◌++◌, codes, Some, None, refl}
use Rattle.mail_headers.specs.Fields.{Field}
use Rattle.mail_headers.specs.Headers.{Head, header_of, first_of}
use Rattle.mail_headers.specs.Ids.{ids}

abbrev field : List ℕ → List ℕ → Field
field name body = record { name = name; body = body }

abbrev head : List Field → ℕ → Head
head fields body_at = record { fields = fields; body_at = body_at }

plain : header_of (codes "A: b\n\nC: d") ≡ head (field (codes "A") (codes "b") ∷ []) 6
plain = refl

ends_in_cr_lf : header_of (codes "A: b\r\n c\r\n\r\nd") ≡ head (field (codes "A") (codes "b c") ∷ []) 12
ends_in_cr_lf = refl

folded : header_of (codes "A: b\n\tc\n  d: e\nF: g\n") ≡ head (field (codes "A") (codes "b\tc  d: e") ∷ field (codes "F") (codes "g") ∷ []) 20
folded = refl

folded_after_nothing : header_of (codes "A:\n b\n") ≡ head (field (codes "A") (codes "b") ∷ []) 6
folded_after_nothing = refl

folded_by_white_space : header_of (codes "A: b\n \n c\n\nd") ≡ head (field (codes "A") (codes "b  c") ∷ []) 11
folded_by_white_space = refl

continues_nothing : header_of (codes " a: b\nC: d\n") ≡ head (field (codes "C") (codes "d") ∷ []) 11
continues_nothing = refl

no_colon : header_of (codes "a\n b: c\nD: e\n") ≡ head (field (codes "D") (codes "e") ∷ []) 13
no_colon = refl

colon_on_the_next_line : header_of (codes "A\n : b\n") ≡ head [] 7
colon_on_the_next_line = refl

white_before_colon : header_of (codes "A \t: b\n") ≡ head (field (codes "A") (codes "b") ∷ []) 7
white_before_colon = refl

white_in_name : header_of (codes "a b: c\n") ≡ head [] 7
white_in_name = refl

no_name : header_of (codes ": a\n") ≡ head [] 4
no_name = refl

name_of_signs : header_of (codes "A_b/c: d") ≡ head (field (codes "A_b/c") (codes "d") ∷ []) 8
name_of_signs = refl

colon_in_body : header_of (codes "A: b: c") ≡ head (field (codes "A") (codes "b: c") ∷ []) 7
colon_in_body = refl

empty_body : header_of (codes "A: \n\nb") ≡ head (field (codes "A") [] ∷ []) 5
empty_body = refl

nul_in_body : header_of (codes "A: b" ++ 0 ∷ codes "c") ≡ head (field (codes "A") (codes "b" ++ 0 ∷ codes "c") ∷ []) 6
nul_in_body = refl

empty_mail : header_of [] ≡ head [] 0
empty_mail = refl

no_header : header_of (codes "\nA: b") ≡ head [] 1
no_header = refl

last_line_keeps_its_cr : header_of (codes "A: b\n\r") ≡ head (field (codes "A") (codes "b") ∷ []) 6
last_line_keeps_its_cr = refl

first_of_two : first_of (header_of (codes "A: b\na: c\n")) (codes "a") ≡ Some (codes "b")
first_of_two = refl

first_of_none : first_of (header_of (codes "A: b\n\nC: d")) (codes "C") ≡ None
first_of_none = refl

ids_in_angles : ids (codes "<a@b> <c @d>") ≡ codes "a@b" ∷ codes "c@d" ∷ []
ids_in_angles = refl

ids_among_words : ids (codes "a@b see c@d") ≡ codes "a@b" ∷ codes "c@d" ∷ []
ids_among_words = refl

ids_between_commas : ids (codes "a@b,c@d,\te") ≡ codes "a@b" ∷ codes "c@d" ∷ []
ids_between_commas = refl

ids_open : ids (codes "<a@b") ≡ []
ids_open = refl

ids_of_open_and_words : ids (codes "a@b <c@d") ≡ []
ids_of_open_and_words = refl

ids_around_a_bad_one : ids (codes "<a@b><c<d><><e@f>") ≡ codes "a@b" ∷ codes "e@f" ∷ []
ids_around_a_bad_one = refl

ids_outside_angles : ids (codes "a@b <c> >d@e") ≡ codes "c" ∷ []
ids_outside_angles = refl

ids_twice : ids (codes "<a@b> <a@b>") ≡ codes "a@b" ∷ codes "a@b" ∷ []
ids_twice = refl

ids_of_nothing : ids [] ≡ []
ids_of_nothing = refl

ids_of_a_bad_word : ids (codes "a@b> c") ≡ []
ids_of_a_bad_word = refl
