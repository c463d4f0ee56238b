-- A field, character by character.
use Rattle.std.proofs.Common.{◌≡◌, ℕ, List, [], ◌∷◌, ◌++◌, if◌then◌else◌, encode_utf8_all, sym, ap, ◌∙◌, arith, append-nil, append_assoc}
use Rattle.std.specs.Char.{is_ascii_control}
use Rattle.std.proofs.lemmas.Bool.Decides.{nat_tests}
use Rattle.std.proofs.lemmas.List.{map-append}
use Rattle.std.proofs.lemmas.Str.{encodes-append}
use lib.Utf8.{encode}
use Rattle.mailbox_model.specs.Printed.{field}

-- what is printed of a character
abbrev pub spaced : ℕ → ℕ
spaced c = if is_ascii_control c then 32 else c

-- a control character has one byte, and no byte of a longer character is a control character
field_of_one : (c : ℕ) → field (encode c) ≡ encode (spaced c)
unfolding encode
field_of_one c = grind (arith, nat_tests)

field_more : (cs : List ℕ) (c : ℕ) → field (encode_utf8_all (cs ++ c ∷ [])) ≡ field (encode_utf8_all cs) ++ encode (spaced c)
field_more cs c =
    ap field (encodes-append cs (c ∷ []) ∙ ap (λ bs. encode_utf8_all cs ++ bs) (append-nil (encode c)))
    ∙ map-append spaced (encode_utf8_all cs) (encode c)
    ∙ ap (λ bs. field (encode_utf8_all cs) ++ bs) (field_of_one c)

-- one more character of a field
pub one_more : (old cs made after : List ℕ) (c printed : ℕ) → made ≡ old ++ field (encode_utf8_all cs)
    → printed ≡ spaced c → after ≡ made ++ encode printed → after ≡ old ++ field (encode_utf8_all (cs ++ c ∷ []))
one_more old cs made after c printed so_far is put =
    put ∙ (λ i. so_far i ++ encode (is i)) ∙ append_assoc old _ _ ∙ ap (λ bs. old ++ bs) (sym (field_more cs c))
