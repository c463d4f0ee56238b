-- Changes: how each is spelled, and how bytes are read as one.
use Rattle.std.specs.Prelude.{◌≡◌, ℕ, ◌+◌, ◌-◌, ◌^◌, ◌<◌, ◌≤◌, List, ◌++◌, length, drop, Option, Some, None, Result, Ok, Err, IsTrue, ◌==◌, if◌then◌else◌}
use Rattle.std.specs.Int.{w32}
use Rattle.kit.specs.Moments.{last_moment}
use Rattle.card_type.specs.Records as records
use Rattle.card_type.specs.Rules.{is_valid}
use Rattle.mailbox_model.specs.declared.change.Fault.{Fault}
use Rattle.mailbox_model.specs.declared.change.Change.{Change}
use Rattle.mailbox_model.specs.declared.change.Change.TheVariants.{Arrive, ArriveFault, Expunge, Seen, At}
use Rattle.card_record.specs.Reading.{◌>>=◌, Read, byte_at, number_at, moment_at}
use Rattle.card_record.specs.Cards.{record_at}
use Rattle.card_record.specs.declared.fault.ReadFault.{ReadFault}
use Rattle.card_record.specs.declared.fault.ReadFault.TheVariants as unread
use Rattle.state_image.specs.declared.fault.ImageFault.{ImageFault}
use Rattle.state_image.specs.declared.fault.ImageFault.TheVariants as faults
use Rattle.state_image.specs.Faults.{code_of, fault_of}

-- ---- spelling

abbrev pub change_spelled : Change → List ℕ
change_spelled (Arrive card) = records.b8 1 ++ records.record_of card
change_spelled (ArriveFault fault) = records.b8 2 ++ records.b8 (code_of fault)
change_spelled (Expunge uid) = records.b8 3 ++ records.b32 uid
change_spelled (Seen uid) = records.b8 4 ++ records.b32 uid
change_spelled (At moment) = records.b8 5 ++ records.b64 moment

-- what has a spelling: a valid change, of which each uid has 32 bits
abbrev pub FitsChange : Change → Type 0
FitsChange (Arrive card) = IsTrue (is_valid card)
FitsChange (ArriveFault fault) = Unit {0}
FitsChange (Expunge uid) = uid < 2 ^ 32
FitsChange (Seen uid) = uid < 2 ^ 32
FitsChange (At moment) = moment ≤ last_moment

-- From `at` on the bytes begin with this text, and `after` is the offset after it.
pub record IsSpelledAt (bytes : List ℕ) (at : ℕ) (text : List ℕ) (after : ℕ) : Type 0 where
  pub text_then : drop at bytes ≡ text ++ drop after bytes
  pub after_is : after ≡ at + length text

-- ---- reading

-- the value, where there is one; else the field is malformed at which so many bytes were left
abbrev pub or_malformed : {X : Type 0} → ℕ → Option X → List ℕ → Read X
or_malformed left (Some x) rest = Ok (x, rest)
or_malformed left None rest = Err left

unfoldable pub fault_at : List ℕ → Read Fault
fault_at bytes = do
  code ← byte_at bytes
  or_malformed (length bytes) (fault_of code.0) code.1

unfoldable pub change_at : List ℕ → Read Change
change_at bytes = do
  kind ← byte_at bytes
  if kind.0 == 1 then (record_at kind.1 >>= λ x. Ok (Arrive x.0, x.1))
      else if kind.0 == 2 then (fault_at kind.1 >>= λ x. Ok (ArriveFault x.0, x.1))
      else if kind.0 == 3 then (number_at w32 kind.1 >>= λ x. Ok (Expunge x.0, x.1))
      else if kind.0 == 4 then (number_at w32 kind.1 >>= λ x. Ok (Seen x.0, x.1))
      else if kind.0 == 5 then (moment_at kind.1 >>= λ x. Ok (At x.0, x.1))
      else Err (length bytes)

-- a reading of the last bytes among so many, told by offsets: the value and the offset after it, or the offset of the first
-- field that is malformed
abbrev pub placed : {X : Type 0} → ℕ → Read X → Result (X × ℕ) ℕ
placed size (Ok x) = Ok (x.0, size - length x.1)
placed size (Err left) = Err (size - left)

-- the change at an offset
abbrev pub change_from : List ℕ → ℕ → Result (Change × ℕ) ℕ
change_from bytes at = placed (length bytes) (change_at (drop at bytes))

-- a fault, told by its offset in so many bytes
abbrev pub fault_in : ℕ → ReadFault → ImageFault
fault_in size (unread.Malformed left) = faults.Malformed (size - left)
fault_in size unread.Memory = faults.Memory

-- What is answered is what is read, unless memory ran out.
abbrev pub GivesChange : Result (Change × ℕ) ImageFault → Result (Change × ℕ) ℕ → Type 0
GivesChange (Ok x) read = read ≡ Ok x
GivesChange (Err (faults.Malformed at)) read = read ≡ Err at
GivesChange (Err faults.Version) read = ⊥
GivesChange (Err faults.Memory) read = Unit {0}
