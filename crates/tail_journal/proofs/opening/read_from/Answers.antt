use Rattle.std.proofs.Common.{map}
use Rattle.tail_journal.specs.Read.{applied_of}
use Rattle.tail_journal.proofs.Opened.{within, comes_to_the_end, length_is, others_stay, others_then, ends_after, cut_leaves, cut_keeps}
use Rattle.tail_journal.proofs.opening.read_from.Goals as goal

pub returns-in_err-groups-clause-others : goal.returns-in_err-groups-clause-others
returns-in_err-groups-clause-others g c =
    let H = g.H.Shelf in
    others_stay H.seen H.may_leave H.moment H.left_since c.args.count 0 c.args.shelf.now c.read_synced.new.shelf c.read_synced.new.shelf c.read_synced.ensures.nothing

pub cut_and_sync-requires : goal.cut_and_sync-requires
cut_and_sync-requires g c places is =
    let H = g.H.Shelf in
    let end = c.in_ok-groups.end in
    let groups = map applied_of c.in_ok-groups.groups.items in
    within c.args.count end places.t (ends_after H.seen H.may_leave H.moment H.left_since c.args.count end c.args.shelf.now c.read_synced.new.shelf c.read_synced.new.shelf c.read_synced.ensures.nothing groups c.in_ok-groups.ensures.gives places is)

pub returns-in_err-cut_and_sync-clause-any_moment : goal.returns-in_err-cut_and_sync-clause-any_moment
returns-in_err-cut_and_sync-clause-any_moment g c places is =
    let H = g.H.Shelf in
    let end = c.in_ok-groups.end in
    let groups = map applied_of c.in_ok-groups.groups.items in
    cut_leaves H.seen H.may_leave H.moment H.left_since c.args.count end c.args.shelf.now c.read_synced.new.shelf c.cut_and_sync.new.shelf c.read_synced.ensures.nothing groups c.in_ok-groups.ensures.gives places is (c.in_ok-groups.ensures.settled places is) c.cut_and_sync.ensures.any_moment

pub returns-in_err-cut_and_sync-clause-others : goal.returns-in_err-cut_and_sync-clause-others
returns-in_err-cut_and_sync-clause-others g c =
    let H = g.H.Shelf in
    others_then H.seen H.may_leave H.moment H.left_since c.args.count 0 c.args.shelf.now c.read_synced.new.shelf c.cut_and_sync.new.shelf c.read_synced.ensures.nothing c.cut_and_sync.ensures.others

pub returns-clause-any_moment : goal.returns-clause-any_moment
returns-clause-any_moment g c places is =
    let H = g.H.Shelf in
    let end = c.in_ok-groups.end in
    let groups = map applied_of c.in_ok-groups.groups.items in
    cut_leaves H.seen H.may_leave H.moment H.left_since c.args.count end c.args.shelf.now c.read_synced.new.shelf c.cut_and_sync.new.shelf c.read_synced.ensures.nothing groups c.in_ok-groups.ensures.gives places is (c.in_ok-groups.ensures.settled places is) c.cut_and_sync.ensures.any_moment

pub returns-clause-same : goal.returns-clause-same
returns-clause-same g c =
    let H = g.H.Shelf in
    let end = c.in_ok-groups.end in
    let groups = map applied_of c.in_ok-groups.groups.items in
    cut_keeps H.seen H.may_leave H.moment H.left_since c.args.count end c.args.shelf.now c.read_synced.new.shelf c.cut_and_sync.new.shelf c.read_synced.ensures.nothing groups c.in_ok-groups.ensures.gives c.in_ok-cut_and_sync.ensures.cut

pub returns-clause-ends : goal.returns-clause-ends
returns-clause-ends g c places is =
    let H = g.H.Shelf in
    let end = c.in_ok-groups.end in
    let groups = map applied_of c.in_ok-groups.groups.items in
    let b = c.in_ok-cut_and_sync.ensures.cut.back places is in
    comes_to_the_end c.args.count end b.places.t places.t (ends_after H.seen H.may_leave H.moment H.left_since c.args.count end c.args.shelf.now c.read_synced.new.shelf c.read_synced.new.shelf c.read_synced.ensures.nothing groups c.in_ok-groups.ensures.gives b.places b.is) b.holds.2

pub returns-clause-size : goal.returns-clause-size
returns-clause-size g c places is =
    let H = g.H.Shelf in
    let end = c.in_ok-groups.end in
    let groups = map applied_of c.in_ok-groups.groups.items in
    let b = c.in_ok-cut_and_sync.ensures.cut.back places is in
    length_is c.args.count end b.places.t places.t (ends_after H.seen H.may_leave H.moment H.left_since c.args.count end c.args.shelf.now c.read_synced.new.shelf c.read_synced.new.shelf c.read_synced.ensures.nothing groups c.in_ok-groups.ensures.gives b.places b.is) b.holds.2

pub returns-clause-others : goal.returns-clause-others
returns-clause-others g c =
    let H = g.H.Shelf in
    others_then H.seen H.may_leave H.moment H.left_since c.args.count 0 c.args.shelf.now c.read_synced.new.shelf c.cut_and_sync.new.shelf c.read_synced.ensures.nothing c.cut_and_sync.ensures.others
