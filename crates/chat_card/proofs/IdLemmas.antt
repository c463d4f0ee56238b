-- The id of a mail without one is an id.
use Rattle.std.proofs.Common.{◌≡◌, ◌≤◌, ◌<◌, ◌+◌, ◌%◌, ◌^◌, ◌∙◌, ℕ, true, [], ◌∷◌, ◌++◌, length, codes, refl, arith}
use Rattle.std.specs.List.{list_all}
use Rattle.std.specs.Fmt.{decimal}
use Rattle.std.proofs.lemmas.Bool.{le-leb, ne_eqb}
use Rattle.std.proofs.lemmas.Fmt.{decimal_by_steps, length-decimal-le}
use Rattle.std.proofs.lemmas.List.{length-append}
use Rattle.std.proofs.lemmas.List.Folds.{list_all-append}
use Rattle.kit.specs.Ids.{is_id, is_id_byte}
use Rattle.chat_card.specs.Envelope.{stand_in_id}

digit-id : (b : ℕ) → 48 ≤ b → b ≤ 57 → is_id_byte b ≡ true
digit-id b low high =
    rw (le-leb 33 b (omega (arith, low)), le-leb b 126 (omega (arith, high)), ne_eqb 60 b (λ e. omega (arith, e, high)), ne_eqb 62 b (λ e. omega (arith, e, high))) refl

decimal-id : (n : ℕ) → n < 2 ^ 64 → list_all is_id_byte (decimal n) ≡ true
decimal-id = decimal_by_steps (λ m ds. list_all is_id_byte ds ≡ true)
    (λ m small. rw (digit-id (48 + m) (omega arith) (omega (arith, small))) refl)
    (λ m ds some all. rw (list_all-append is_id_byte ds ((48 + m % 10) ∷ []), all, digit-id (48 + m % 10) (omega arith) (omega arith)) refl)

pub stand_in_is_id : (uid : ℕ) → uid < 2 ^ 32 → is_id (stand_in_id uid) ≡ true
stand_in_is_id uid small =
    let first = codes "uid" ++ decimal uid in
    let few = length-decimal-le 10 uid (omega arith) (omega (arith, small)) (omega (arith, small)) in
    let long : length (stand_in_id uid) ≡ length (decimal uid) + 8 = length-append first (codes "@none") ∙ omega (arith, length-append (codes "uid") (decimal uid)) in
    let all : list_all is_id_byte (stand_in_id uid) ≡ true = rw (list_all-append is_id_byte (decimal uid) (codes "@none"), decimal-id uid (omega (arith, small))) refl in
    rw (le-leb 1 (length (stand_in_id uid)) (omega (arith, long)), le-leb (length (stand_in_id uid)) 998 (omega (arith, long, few)), all) refl
