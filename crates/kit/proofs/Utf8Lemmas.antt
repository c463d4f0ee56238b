-- Bytes that are ASCII, and so UTF-8: those of addresses and ids among them.
use Rattle.std.proofs.Common.{◌≡◌, ℕ, ◌<◌, Bool, true, List, arith}
use Rattle.std.proofs.lemmas.Bool.{and_parts}
use Rattle.std.proofs.lemmas.Bool.Decides.{nat_tests}
use Rattle.std.proofs.lemmas.List.Sums.{AllPass-from_list_all}
use Rattle.std.proofs.lemmas.Str.{IsUtf8-from_ascii}
use Rattle.std.proofs.lemmas.Str.Ascii.{IsAscii-from_all}
use Rattle.std.specs.List.{list_all}
use Rattle.std.specs.Str.{IsUtf8}
use Rattle.kit.specs.Addresses.{is_addr, is_addr_byte}
use Rattle.kit.specs.Ids.{is_id, is_id_byte}

pub utf8_from_all : (test : ℕ → Bool) → ((b : ℕ) → test b ≡ true → b < 128) → (bs : List ℕ) → list_all test bs ≡ true → IsUtf8 bs
utf8_from_all test small bs all =
    let each = AllPass-from_list_all test bs all in
    IsUtf8-from_ascii bs (IsAscii-from_all bs (λ k d lt. small _ (each k d lt)))

addr_byte_ascii : (b : ℕ) → is_addr_byte b ≡ true → b < 128
addr_byte_ascii b h = grind (arith, nat_tests)

id_byte_ascii : (b : ℕ) → is_id_byte b ≡ true → b < 128
id_byte_ascii b h = grind (arith, nat_tests)

pub addr_bytes : (bs : List ℕ) → is_addr bs ≡ true → list_all is_addr_byte bs ≡ true
addr_bytes bs h =
    let colons = and_parts _ _ h in
    let inner = and_parts _ _ colons.0 in
    let bytes = and_parts _ _ inner.0 in
    bytes.1

pub addr_utf8 : (bs : List ℕ) → is_addr bs ≡ true → IsUtf8 bs
addr_utf8 bs h = utf8_from_all is_addr_byte addr_byte_ascii bs (addr_bytes bs h)

pub id_utf8 : (bs : List ℕ) → is_id bs ≡ true → IsUtf8 bs
id_utf8 bs h = let bytes = and_parts _ _ h in utf8_from_all is_id_byte id_byte_ascii bs bytes.1
