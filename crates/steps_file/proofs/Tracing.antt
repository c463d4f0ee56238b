-- What a reader adds to its trace.
use Rattle.std.proofs.Common.{◌≡◌, ℕ, ◌≤◌, List, length, take, sym, subst, Option, None, Some}
use Rattle.kit.specs.Chains.{Cut, StandsFor}
use Rattle.source_buffer.specs.Known.{IfKnown}
use Rattle.source_buffer.proofs.Traced.{stands_on}
use Rattle.steps_file.specs.declared.step.Step.{Step}
use Rattle.steps_file.specs.declared.taken.Taken.{Taken}
use Rattle.steps_file.specs.Reading.{Reading, IsAt, IsTraced, Takes, buffered, position}
use Rattle.steps_file.specs.Answers.{Goes, GoesBy, answer_of}

by_step : (o : Option Step) (old : Reading) (bytes : List ℕ) (new : Reading) → Goes old bytes new → GoesBy (answer_of o) old bytes new
by_step (Some s) old bytes new goes = goes
by_step None old bytes new goes = goes

pub goes_by : (o : Option Step) (answer : Taken) (old : Reading) (bytes : List ℕ) (new : Reading) → answer ≡ answer_of o → Goes old bytes new → GoesBy answer old bytes new
goes_by o answer old bytes new is goes = subst (λ (t : Taken). GoesBy t old bytes new) (sym is) (by_step o old bytes new goes)

abbrev pub StaysTraced : Reading → Reading → Option (List ℕ) → Option (List ℕ) → Type 0
StaysTraced old new l m = IfKnown l m (λ before after. (file : List ℕ) → IsAt file before old → IsTraced file old → IsTraced file new)

pub stays_traced : (l m : Option (List ℕ)) (old new : Reading) (bytes : List ℕ) → length old.held ≤ old.taken → length new.held ≤ new.taken → Takes l m old new bytes
    → Goes old bytes new → (old.place ≡ position old → new.place ≡ position new) → StaysTraced old new l m
stays_traced None m old new bytes a b takes goes place = tt
stays_traced (Some l) None old new bytes a b takes goes place = absurd takes.left
stays_traced (Some l) (Some m) old new bytes a b takes goes place = λ file at traced.
    let there = place traced.place in
    let before : StandsFor old.trace (take (position old) file) = subst (λ (k : ℕ). StandsFor old.trace (take k file)) traced.place traced.trace in
    let after = stands_on file l m (buffered old) (buffered new) old.trace new.trace bytes goes.0 a b takes goes.1 goes.2 at before in
    record { place = there; trace = subst (λ (k : ℕ). StandsFor new.trace (take k file)) (sym there) after }

pub traced_both : (E : Type 0) (l m : Option (List ℕ)) (old new : Reading) → StaysTraced old new l m
    → IfKnown l m (λ before after. (file : List ℕ) → IsAt file before old → IsTraced file old → StandsFor new.trace (take new.place file) × (E → IsTraced file new))
traced_both E None m old new stays = tt
traced_both E (Some l) None old new stays = absurd stays
traced_both E (Some l) (Some m) old new stays = λ file at traced. ((stays file at traced).trace, λ e. stays file at traced)

-- where nothing was added and the place is the old one
pub traced_stays : (E : Type 0) (l m : Option (List ℕ)) (old new : Reading) (bytes : List ℕ) → Takes l m old new bytes → new.trace ≡ old.trace → new.place ≡ old.place → (E → ⊥)
    → IfKnown l m (λ before after. (file : List ℕ) → IsAt file before old → IsTraced file old → StandsFor new.trace (take new.place file) × (E → IsTraced file new))
traced_stays E None m old new bytes takes trace place none = tt
traced_stays E (Some l) None old new bytes takes trace place none = absurd takes.left
traced_stays E (Some l) (Some m) old new bytes takes trace place none = λ file at traced. (
  subst (λ (k : ℕ). StandsFor new.trace (take k file)) (sym place) (subst (λ (x : Cut). StandsFor x (take old.place file)) (sym trace) traced.trace),
  λ e. absurd (none e),
)
