-- Values with room at both ends, as contracts see them.
use Rattle.std.specs.Prelude.{Bool, List, refl}
use Rattle.std.specs.Coded.{Coded, code_by, coded×, coded_list, coded_bool}

-- values, and whether there is room for one more without memory
pub record Ends (T : Type 0) : Type 0 where
  pub values : List T
  pub has_room : Bool

-- how a proof tells two of them apart, where it can tell two values apart
abbrev pub ends_code : {T : Type 0} → Coded T → Coded (Ends T)
ends_code {T} code =
    code_by (List T × Bool) (coded× (coded_list code) coded_bool) (λ ends. (ends.values, ends.has_room))
    (λ p. record { values = p.0; has_room = p.1 }) (λ _. refl)
