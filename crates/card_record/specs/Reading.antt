-- Reading a record from the left. A reader gives the value that is at the front and the bytes after it, or how many bytes
-- were left where the first field begins that is short or breaks its rule.
use Rattle.std.specs.Prelude.{◌≡◌, ℕ, zero, suc, ◌-◌, ◌^◌, Bool, true, false, not, ◌&&◌, List, [], ◌∷◌, ◌++◌, length, take, drop, Option, Some, None, Result, Ok, Err, nat_lt, nat_le, ◌==◌, if◌then◌else◌}
use Rattle.std.specs.Int.{Width, w32, w64, byte_len, from_be_bytes}
use Rattle.std.specs.Str.{is_utf8}
use Rattle.kit.specs.Addresses.{is_addr}
use Rattle.kit.specs.Moments.{last_moment}
use Rattle.card_type.specs.Effects.{is_among}
use Rattle.card_type.specs.declared.card.Attachment.{Attachment}
use Rattle.card_type.specs.declared.card.Payload.{Payload}
use Rattle.card_type.specs.declared.card.Payload.TheVariants.{Absent, Json, Hidden}
use Rattle.card_type.specs.declared.card.Update.{Update}
use Rattle.card_record.specs.declared.fault.ReadFault.{ReadFault}
use Rattle.card_record.specs.declared.fault.ReadFault.TheVariants as faults

infixl 10 ◌>>=◌
abbrev pub ◌>>=◌ : {A B : Type 0} → Result A ℕ → (A → Result B ℕ) → Result B ℕ
(Ok x) >>= f = f x
(Err left) >>= f = Err left

abbrev pub Read : Type 0 → Type 0
Read X = Result (X × List ℕ) ℕ

-- What a function answered, seen by view, and the rest that it left, is what reading gives, unless memory ran out.
abbrev pub Fails : {Y : Type 0} → ReadFault → Result Y ℕ → Type 0
Fails faults.Memory read = Unit {0}
Fails (faults.Malformed left) read = read ≡ Err left

abbrev pub Moves : {X Y : Type 0} → (X → Y) → Result X ReadFault → Read Y → List ℕ → Type 0
Moves view (Ok x) read rest = read ≡ Ok (view x, rest)
Moves view (Err fault) read rest = Fails fault read

-- what was answered, seen by view, is what reading bytes to their end gives
abbrev pub Gives : {X Y : Type 0} → (X → Y) → Result X ReadFault → Result Y ℕ → Type 0
Gives view (Ok x) read = read ≡ Ok (view x)
Gives view (Err fault) read = Fails fault read

-- ---- numbers and bytes

abbrev pub byte_at : List ℕ → Read ℕ
byte_at [] = Err 0
byte_at (b ∷ rest) = Ok (b, rest)

abbrev pub number_at : Width → List ℕ → Read ℕ
number_at w bytes = if nat_lt (length bytes) (byte_len w) then Err (length bytes) else Ok (from_be_bytes w (take (byte_len w) bytes), drop (byte_len w) bytes)

-- a field that keeps a rule
abbrev pub ruled : {X : Type 0} → (X → Bool) → (List ℕ → Read X) → List ℕ → Read X
ruled rule read bytes = read bytes >>= λ x. if rule x.0 then Ok x else Err (length bytes)

-- a run of so many bytes
abbrev pub run_at : ℕ → List ℕ → Read (List ℕ)
run_at n bytes = if nat_lt (length bytes) n then Err (length bytes) else Ok (take n bytes, drop n bytes)

-- bytes after their number are one field
unfoldable pub block_at : List ℕ → Read (List ℕ)
block_at bytes = do
  n ← number_at w32 bytes
  if nat_lt (length n.1) n.0 then Err (length bytes) else Ok (take n.0 n.1, drop n.0 n.1)

unfoldable pub block_of : (List ℕ → Bool) → List ℕ → Read (List ℕ)
block_of rule bytes = ruled rule block_at bytes

abbrev pub is_text_within : ℕ → ℕ → List ℕ → Bool
is_text_within least most bytes = is_utf8 bytes && nat_le least (length bytes) && nat_le (length bytes) most

unfoldable pub moment_at : List ℕ → Read ℕ
moment_at bytes = ruled (λ n. nat_le n last_moment) (number_at w64) bytes

-- ---- values that may be missing, and lists

unfoldable pub flag_at : List ℕ → Read Bool
flag_at bytes = do
  n ← byte_at bytes
  if n.0 == 0 then Ok (false, n.1) else if n.0 == 1 then Ok (true, n.1) else Err (length bytes)

unfoldable pub opt_of : {X : Type 0} → (List ℕ → Read X) → List ℕ → Read (Option X)
opt_of read bytes = do
  stands ← flag_at bytes
  if stands.0 then (read stands.1 >>= λ x. Ok (Some x.0, x.1)) else Ok (None, stands.1)

-- So many values after those of the front. How one reads may depend on those before it.
unfoldable pub times_of : {X : Type 0} → (List X → List ℕ → Read X) → List X → ℕ → List ℕ → Read (List X)
times_of read front zero bytes = Ok (front, bytes)
times_of read front (suc n) bytes = do
  x ← read front bytes
  times_of read (front ++ x.0 ∷ []) n x.1

unfoldable pub list_of : {X : Type 0} → (List X → List ℕ → Read X) → List ℕ → Read (List X)
list_of read bytes = do
  n ← number_at w32 bytes
  times_of read [] n.0 n.1

-- an address that is none of the known ones
unfoldable pub new_addr : List (List ℕ) → List ℕ → Read (List ℕ)
new_addr known bytes = ruled (λ addr. not (is_among known addr)) (block_of is_addr) bytes

-- ---- files and updates

unfoldable pub attachment_at : List ℕ → Read Attachment
attachment_at bytes = do
  kind ← block_of is_utf8 bytes
  name ← block_of is_utf8 kind.1
  size ← number_at w64 name.1
  Ok (record { kind = kind.0; name = name.0; size = size.0 }, size.1)

unfoldable pub payload_at : List ℕ → Read Payload
payload_at bytes = do
  n ← byte_at bytes
  if n.0 == 0 then Ok (Absent, n.1)
      else if n.0 == 1 then (block_of (is_text_within 1 (2 ^ 64 - 1)) n.1 >>= λ text. Ok (Json text.0, text.1))
      else if n.0 == 2 then Ok (Hidden, n.1)
      else Err (length bytes)

unfoldable pub update_at : List ℕ → Read Update
update_at bytes = do
  payload ← payload_at bytes
  info ← opt_of (block_of is_utf8) payload.1
  document ← opt_of (block_of is_utf8) info.1
  summary ← opt_of (block_of is_utf8) document.1
  Ok (record { payload = payload.0; info = info.0; document = document.0; summary = summary.0 }, summary.1)
