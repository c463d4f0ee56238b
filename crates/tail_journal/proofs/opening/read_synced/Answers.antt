use Rattle.std.proofs.Common.{◌≡◌}
use Rattle.outside.specs.Moments.{ChangesNoRead}
use Rattle.outside.proofs.Known.{from_known}
use Rattle.outside.proofs.Moments.{started, goes_on}
use Rattle.outside.proofs.Unchanged.{and_more}
use Rattle.tail_journal.proofs.opening.read_synced.Goals as goal

pub returns-clause-nothing : goal.returns-clause-nothing
returns-clause-nothing g c =
    let H = g.H.Shelf in
    let old = c.args.shelf.now in
    let mid = c.sync.new.self in
    let synced : ChangesNoRead H.seen H.may_leave H.moment H.left_since old mid = record {
      reads = from_known (H.seen old) (H.seen mid) (λ before after. after ≡ before) c.sync.ensures.reads;
      outcomes = c.sync.ensures.crash;
      any_moment = goes_on H.moment H.left_since old old mid (H.may_leave old) (H.may_leave mid) (started H.moment H.left_since old (H.may_leave old) (g.met.H.Shelf.only_now old)) c.sync.ensures.clock c.sync.ensures.crash;
    } in
    and_more H.seen H.may_leave H.moment H.left_since old mid c.read_bytes.new.shelf synced c.read_bytes.ensures.nothing
