-- The bytes of keys: they are ASCII, and small letters stay as they are when letters are made small.
use Rattle.std.proofs.Common.{◌≡◌, ℕ, ◌<◌, true, false, List, [], ◌∷◌, refl, sym, ◌∙◌, arith, inl, inr}
use Rattle.std.proofs.lemmas.Bool.{and_parts, or_parts, cases_Bool, false≢true}
use Rattle.std.proofs.lemmas.Bool.Decides.{nat_tests}
use Rattle.std.specs.Char.{to_ascii_lowercase, is_ascii_uppercase}
use Rattle.std.specs.List.{list_all, list_any}
use Rattle.std.specs.Str.{IsUtf8}
use Rattle.kit.specs.Addresses.{is_addr, is_addr_byte}
use Rattle.kit.specs.Letters.{lowered}
use Rattle.kit.proofs.Utf8Lemmas.{addr_bytes, utf8_from_all}
use Rattle.card_type.specs.Groups.{is_group, is_group_byte}

group_byte_ascii : (b : ℕ) → is_group_byte b ≡ true → b < 128
group_byte_ascii b h = grind (arith, nat_tests)

pub group_utf8 : (bs : List ℕ) → is_group bs ≡ true → IsUtf8 bs
group_utf8 bs h = let bytes = and_parts _ _ h in utf8_from_all is_group_byte group_byte_ascii bs bytes.1

small_byte : (b : ℕ) → is_ascii_uppercase b ≡ false → to_ascii_lowercase b ≡ b
small_byte b h = grind (arith, nat_tests)

-- bytes without a capital letter
pub lowered-small : (bs : List ℕ) → list_any is_ascii_uppercase bs ≡ false → lowered bs ≡ bs
lowered-small [] h = refl
lowered-small (b ∷ bs) h =
    let both = or_parts (is_ascii_uppercase b) (list_any is_ascii_uppercase bs) h in
    let first : to_ascii_lowercase b ≡ b = small_byte b both.0 in
    let rest : lowered bs ≡ bs = lowered-small bs both.1 in
    cc

no_capital_byte : (b : ℕ) → is_addr_byte b ≡ true → is_ascii_uppercase b ≡ false
no_capital_byte b h = grind (arith, nat_tests)

no_capitals : (bs : List ℕ) → list_all is_addr_byte bs ≡ true → list_any is_ascii_uppercase bs ≡ false
no_capitals [] h = refl
no_capitals (b ∷ bs) h =
    let both = and_parts (is_addr_byte b) (list_all is_addr_byte bs) h in
    rw (no_capital_byte b both.0) (no_capitals bs both.1)

-- an address has no capital letter
pub capital_no_addr : (bs : List ℕ) → list_any is_ascii_uppercase bs ≡ true → is_addr bs ≡ false
capital_no_addr bs some =
    elim (cases_Bool (is_addr bs)) [
      | inl is ↦ absurd (false≢true (sym (no_capitals bs (addr_bytes bs is)) ∙ some))
      | inr isnt ↦ isnt
    ]
