-- What a clock of the system is taken to tell.
use Rattle.std.specs.Prelude.{◌≡◌, ℕ, ◌/◌, min, MatchResult}
use Rattle.std.specs.declared.time.Duration.{Duration}
use Rattle.std.specs.Duration.{as_nanos}
use Rattle.std.specs.declared.result.Result.{Result}
use Rattle.kit.specs.Moments.{last_moment}

-- the moment of what the clock tells: its seconds, but no more than the last moment; and 0 where it tells no time
abbrev pub IsMomentOf : {E : Type 0} → Result Duration E → ℕ → Type 0
IsMomentOf told moment = MatchResult told (λ time. moment ≡ min (as_nanos time / 1_000_000_000) last_moment) (λ _. moment ≡ 0)
