use Rattle.std.proofs.Common.{ℕ, Option, is_some, ◌∙◌, sym, ap, subst}
use Rattle.outside.specs.Places.{Places}
use Rattle.checkpoint.specs.Slots.{chosen_of}
use Rattle.checkpoint.specs.Kept.{number_of}
use Rattle.tail_journal.specs.Read.{EndsThere, SameReading}
use Rattle.state_store.specs.Stored.{read_size}
use Rattle.state_store.proofs.Finding.{size_is}
use Rattle.state_store.proofs.Knowing.{only_tail, same_chosen, knows_on, some_number}
use Rattle.state_store.proofs.opening.open_tail.Goals as goal

pub returns-clause-stored : goal.returns-clause-stored
returns-clause-stored g c places is =
    let H = g.H.Shelf in
    let new = c.read.new.shelf in
    let old = c.read.ensures.others.back places is in
    let run = c.read.ensures.any_moment old.places old.is in
    let same = same_chosen old.places places old.holds in
    let number = c.requires.number old.places old.is in
    let from = only_tail (H.may_leave c.args.shelf.now) (H.may_leave new) (SameReading c.args.number) (λ (x : Places) (left : H.may_leave new x). run.each x (g.met.H.Shelf.counts_now new (H.moment c.args.shelf.now) x run.later left)) in
    record {
      slots = knows_on c.args.slots (H.may_leave c.args.shelf.now) (H.may_leave new) old.places places (c.requires.known old.places old.is) old.holds from;
      tail = c.in_ok-tail.ensures.known places is;
      chosen = c.is_some.ensures ∙ ap is_some (sym number) ∙ some_number (chosen_of old.places) ∙ ap is_some (sym same);
      ends = subst (λ (n : Option ℕ). EndsThere n places.t) (sym number ∙ ap number_of (sym same)) (c.in_ok-tail.ensures.ends places is);
    }

pub returns-clause-fill : goal.returns-clause-fill
returns-clause-fill g c places is =
    let number = c.requires.number places is in
    let after = c.in_ok-tail.ensures.same.forth places is in
    let tail = size_is c.args.number places.t after.places.t _ after.holds.2 (c.in_ok-tail.ensures.ends after.places after.is) (c.in_ok-tail.ensures.known after.places after.is).size in
    let chosen = c.is_some.ensures ∙ ap is_some (sym number) ∙ some_number (chosen_of places) in
    λ i. record { chosen = chosen i; tail = (tail ∙ ap (λ (n : Option ℕ). read_size n places.t) (sym number)) i }
