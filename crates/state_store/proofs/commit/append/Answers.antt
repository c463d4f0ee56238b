use Rattle.std.proofs.Common.{◌≡◌, Ok, is_some, ◌∙◌, sym, ap}
use Rattle.outside.specs.declared.shelf.Place.TheVariants.{T}
use Rattle.outside.specs.Places.{Places, Changes, OthersStay}
use Rattle.outside.specs.Moments.{Reached}
use Rattle.outside.proofs.Moments.{weaker}
use Rattle.tail_journal.specs.Tails.{KeepsOrAdds, Adds}
use Rattle.mailbox_model.specs.Lists.{Bytes}
use Rattle.outside.proofs.Known.{known_as}
use Rattle.state_store.specs.States.{State}
use Rattle.state_store.specs.Stands.{stands}
use Rattle.state_store.specs.Commits.{Appends, OldOrNew}
use Rattle.state_store.proofs.Knowing.{only_tail, same_chosen, knows_on}
use Rattle.state_store.proofs.Appending.{new_stands, ends_again, read_from, append_leaves}
use Rattle.state_store.proofs.commit.append.Goals as goal

pub returns-in_err-append-clause-any_moment : goal.returns-in_err-append-clause-any_moment
returns-in_err-append-clause-any_moment g c places is me new a =
    let H = g.H.Shelf in
    let start = H.may_leave c.args.shelf.now in
    let group = c.args.group.now in
    weaker H.moment H.left_since c.args.shelf.now c.append.new.shelf (Reached start (Changes T (KeepsOrAdds group))) (Reached start (OldOrNew me new)) (c.append.ensures.any_moment places is)
    (append_leaves me new group c.args.store.now start places (c.requires.stored places is) c.requires.chosen a)

pub returns-clause-any_moment : goal.returns-clause-any_moment
returns-clause-any_moment g c places is me new a =
    let H = g.H.Shelf in
    let start = H.may_leave c.args.shelf.now in
    let group = c.args.group.now in
    weaker H.moment H.left_since c.args.shelf.now c.append.new.shelf (Reached start (Changes T (KeepsOrAdds group))) (Reached start (OldOrNew me new)) (c.append.ensures.any_moment places is)
    (append_leaves me new group c.args.store.now start places (c.requires.stored places is) c.requires.chosen a)

pub returns-clause-lasting : goal.returns-clause-lasting
returns-clause-lasting g c =
    let seen = g.H.Shelf.seen in
    let start = g.H.Shelf.may_leave c.args.shelf.now in
    let group = c.args.group.now in
    known_as (seen c.args.shelf.now) (seen c.append.new.shelf) (Changes T (Adds group)) (λ (x y : Places). (me : Bytes) (new : State) → Appends me new x group → stands me y ≡ Ok new)
    (λ x y is h me new a. let read = read_from c.args.store.now start x (c.requires.stored x is) c.requires.chosen in new_stands me new group x a read.count read.number read.r read.all y h) c.in_ok-append.ensures.added

pub returns-clause-stored : goal.returns-clause-stored
returns-clause-stored g c after known =
    let H = g.H.Shelf in
    let start = H.may_leave c.args.shelf.now in
    let new = c.append.new.shelf in
    let group = c.args.group.now in
    let from = c.in_ok-append.ensures.added.back after known in
    let x = from.places in
    let stored = c.requires.stored x from.is in
    let run = c.append.ensures.any_moment x from.is in
    let read = read_from c.args.store.now start x stored c.requires.chosen in
    let leads = c.requires.leads x from.is in
    let stay : OthersStay T x after = (from.holds.0, from.holds.1) in
    let left = only_tail start (H.may_leave new) (KeepsOrAdds group) (λ (d : Places) (left : H.may_leave new d). run.each d (g.met.H.Shelf.counts_now new (H.moment c.args.shelf.now) d run.later left)) in
    record {
      slots = knows_on c.args.store.now.slots start (H.may_leave new) x after stored.slots stay left;
      tail = c.in_ok-append.ensures.known after known;
      chosen = stored.chosen ∙ ap is_some (sym (same_chosen x after stay));
      ends = ends_again leads.0 leads.1 group x leads.2 read.count read.number read.r read.all after from.holds;
    }
