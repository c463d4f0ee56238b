-- The same people, in any order.
use Rattle.std.proofs.Common.{◌≡◌, refl, sym, subst, Bool, true, false, inl, inr, List, [], ◌∷◌}
use Rattle.std.specs.List.{list_all}
use Rattle.std.specs.Str.{bytes_eq}
use Rattle.std.specs.Cmp.Lexicographic.{bytes_decides}
use Rattle.std.proofs.lemmas.Bool.{and_parts, false≢true, or_cases}
use Rattle.card_type.specs.Effects.{is_among}
use Rattle.mailbox_model.specs.Lists.{Bytes}
use Rattle.group_roster.specs.Setters.{are_same_people}

-- who is among some is among those that hold them all
held : (xs ys : List Bytes) → list_all (is_among xs) ys ≡ true → (p : Bytes) → is_among ys p ≡ true → is_among xs p ≡ true
held xs [] h p k = absurd (false≢true k)
held xs (y ∷ ys) h p k =
    let parts = and_parts (is_among xs y) (list_all (is_among xs) ys) h in
    elim (or_cases (bytes_eq p y) (is_among ys p) k) [
      | inl e ↦ subst (λ q. is_among xs q ≡ true) (sym ((bytes_decides p y).0 e)) parts.0
      | inr later ↦ held xs ys parts.1 p later
    ]

both_or_neither : (b c : Bool) → (b ≡ true → c ≡ true) → (c ≡ true → b ≡ true) → b ≡ c
both_or_neither true c h k = sym (h refl)
both_or_neither false true h k = k refl
both_or_neither false false h k = refl

pub same_people : (xs ys : List Bytes) → are_same_people xs ys ≡ true → (p : Bytes) → is_among ys p ≡ is_among xs p
same_people xs ys h p =
    let parts = and_parts (list_all (is_among xs) ys) (list_all (is_among ys) xs) h in
    both_or_neither (is_among ys p) (is_among xs p) (held xs ys parts.0 p) (held ys xs parts.1 p)
