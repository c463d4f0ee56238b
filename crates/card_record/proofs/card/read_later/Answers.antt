use Rattle.std.proofs.Common.{◌≡◌, refl, ℕ, List, Ok}
use Rattle.std.proofs.lemmas.Result.{err_from_is_err_and}
use Rattle.card_record.specs.Reading.{Fails}
use Rattle.card_record.specs.Cards.{requests_at, shown_at, later_at}
use Rattle.card_record.specs.declared.card.Requests.{Requests}
use Rattle.card_record.specs.declared.fault.ReadFault.{ReadFault}
use Rattle.card_record.specs.declared.fault.ReadFault.TheVariants as faults
use Rattle.card_record.proofs.card.read_later.Goals as goal

-- where the second part fails, both fail
fails_then : (rest after : List ℕ) (requests : Requests) (fault : ReadFault) → requests_at rest ≡ Ok (requests, after)
    → Fails fault (shown_at after) → Fails fault (later_at rest)
unfolding later_at
fails_then rest after requests faults.Memory is fails = tt
fails_then rest after requests (faults.Malformed left) is fails = rw (is, fails) refl

pub returns-in_err-shown : goal.returns-in_err-shown
returns-in_err-shown c =
    let p = err_from_is_err_and c.from_residual-in_err-shown.result c.from_residual-in_err-shown.ensures.1 in
    let fails = fails_then c.args.rest.now c.read_requests.new.rest c.in_ok-requests.requests c.in_err-shown.field-0.0 c.in_ok-requests.ensures c.in_err-shown.ensures in
    rw (p.1, p.2) fails
