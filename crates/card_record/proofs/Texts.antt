-- Bytes as a text.
use Rattle.std.proofs.Common.{◌≡◌, ℕ, List, Bool, true, false, cond, Some, None, refl, ap}
use Rattle.std.specs.Str.{IsUtf8, is_utf8}
use Rattle.std.proofs.lemmas.Str.{IsUtf8-from_is_utf8, is_utf8-from_IsUtf8}
use Rattle.kit.specs.Reading.{read_as}

pub read_as_text : (bytes : List ℕ) → IsUtf8 bytes → read_as is_utf8 bytes ≡ Some bytes
read_as_text bytes utf8 = ap (λ (b : Bool). cond b (Some bytes) None) (is_utf8-from_IsUtf8 bytes utf8)

not_true : (b : Bool) (bytes : List ℕ) → (b ≡ true → ⊥) → cond b (Some bytes) None ≡ None
not_true true bytes never = absurd (never refl)
not_true false bytes never = refl

pub read_as_none : (bytes : List ℕ) → (IsUtf8 bytes → ⊥) → read_as is_utf8 bytes ≡ None
read_as_none bytes never = not_true (is_utf8 bytes) bytes (λ e. never (IsUtf8-from_is_utf8 bytes e))
