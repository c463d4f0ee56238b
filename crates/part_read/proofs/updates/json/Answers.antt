use Rattle.std.proofs.Common.{◌≡◌, ◌≢◌, ◌⊎◌, inl, inr, ℕ, List, Bool, true, false, Ok, Err, None, Result, IfErr, refl}
use Rattle.std.specs.Result.{IsErrAnd}
use Rattle.std.specs.Str.{IsUtf8, is_utf8}
use Rattle.std.proofs.lemmas.Str.{IsUtf8-from_is_utf8, is_utf8-from_IsUtf8}
use Rattle.serde_json.specs.Errors.{IsMemory}
use Rattle.serde_json.specs.Read.{read}
use Rattle.serde_json.specs.declared.error.Error.{Error}
use Rattle.serde_json.specs.declared.value.Value.{Value}
use Rattle.part_read.specs.declared.fault.UpdateFault.{UpdateFault}
use Rattle.part_read.specs.declared.fault.UpdateFault.TheVariants.{Memory, NoJson}
use Rattle.part_read.specs.Updates.{json}
use Rattle.part_read.proofs.updates.json.Goals as goal

no_value : (bytes : List ℕ) → (IsUtf8 bytes → read bytes ≡ None) → json bytes ≡ None
no_value bytes none = decided (is_utf8 bytes) refl
  where
    decided : (utf8 : Bool) → is_utf8 bytes ≡ utf8 → json bytes ≡ None
    decided true is = rw is (none (IsUtf8-from_is_utf8 bytes is))
    decided false is = rw is refl

refused : (error : Error) (bytes : List ℕ) → (¬ IsMemory error → IsUtf8 bytes → read bytes ≡ None) → (result : Result Value UpdateFault)
    → IsErrAnd result (λ fault. (IsMemory error × (fault ≡ Memory)) ⊎ (¬ IsMemory error × (fault ≡ NoJson)))
    → IfErr result (λ fault. fault ≢ Memory → (fault ≡ NoJson) × (json bytes ≡ None))
refused error bytes none (Ok value) h = tt
refused error bytes none (Err fault) (inl h) = λ other. absurd (other h.1)
refused error bytes none (Err fault) (inr h) = λ _. (h.1, no_value bytes (none h.0))

pub returns-in_err-from_slice-clause-err : goal.returns-in_err-from_slice-clause-err
returns-in_err-from_slice-clause-err c =
    refused c.in_err-from_slice.field-0.0 c.args.bytes.now c.in_err-from_slice.ensures.err c.from_residual.result c.from_residual.ensures.1

pub returns-clause-ok : goal.returns-clause-ok
returns-clause-ok c = let h = c.in_ok-from_slice.ensures.ok in rw (is_utf8-from_IsUtf8 c.args.bytes.now h.0) h.1
