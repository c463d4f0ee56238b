use Rattle.std.proofs.Common.{◌∙◌, sym, subst, List}
use Rattle.std.specs.BTreeSet.{contains}
use Rattle.lists.specs.Sorted.{insert_by}
use Rattle.card_type.specs.Spots.{spot_cmp}
use Rattle.mailbox_model.specs.declared.links.Cites.{Cites}
use Rattle.mailbox_model.specs.Chats.{cites_cmp, moves}
use Rattle.thread_links.specs.Kept.{cites_in}
use Rattle.thread_links.specs.Work.{IsBegun}
use Rattle.thread_links.proofs.ChangeLaws.{add_begun, add_there, settled_ok, cites_ok, told_ok}
use Rattle.thread_links.proofs.work.add.Goals as goal

pub work_off-requires-clause-there : goal.work_off-requires-clause-there
work_off-requires-clause-there c =
    let es = c.args.kept.now.entries in
    let fs = c.keep.new.kept.entries in
    let keeps = c.in_ok-keep.ensures in
    add_there es fs c.args.cited.now c.keep.new.cited c.requires.settled.index keeps.index c.args.cites c.requires.absent keeps.cites c.in_ok-spot.spot c.in_ok-spot.ensures (contains spot_cmp c.in_ok-work.work) (contains spot_cmp c.insert.new.self) c.in_ok-work.ensures c.in_ok-insert.ensures.updates.0

pub returns-clause-settled : goal.returns-clause-settled
returns-clause-settled c =
    let es = c.args.kept.now.entries in
    let fs = c.keep.new.kept.entries in
    let keeps = c.in_ok-keep.ensures in
    let begun = subst (IsBegun (cites_in fs) (cites_in es) fs (contains spot_cmp c.insert.new.self)) (sym c.new.ensures.items)
    (add_begun es fs c.args.cited.now c.keep.new.cited c.requires.settled.index keeps.index c.args.cites c.requires.absent keeps.cites c.in_ok-spot.spot c.in_ok-spot.ensures (contains spot_cmp c.in_ok-work.work) (contains spot_cmp c.insert.new.self) c.in_ok-work.ensures c.in_ok-insert.ensures.updates.0 (λ q. keeps.chats q ∙ c.requires.settled.chats q)) in
    settled_ok fs c.work_off.new.kept.entries c.keep.new.cited c.work_off.result keeps.index c.work_off.ensures.cites (c.work_off.ensures.chats (cites_in fs) (cites_in es) begun)

pub returns-clause-cites : goal.returns-clause-cites
returns-clause-cites c =
    let fs = c.keep.new.kept.entries in
    cites_ok fs c.work_off.new.kept.entries c.keep.new.cited c.work_off.result (insert_by cites_cmp c.args.cites (cites_in c.args.kept.now.entries)) c.in_ok-keep.ensures.cites c.work_off.ensures.cites

pub returns-clause-told : goal.returns-clause-told
returns-clause-told c =
    let es = c.args.kept.now.entries in
    let fs = c.keep.new.kept.entries in
    let keeps = c.in_ok-keep.ensures in
    let begun = subst (IsBegun (cites_in fs) (cites_in es) fs (contains spot_cmp c.insert.new.self)) (sym c.new.ensures.items)
    (add_begun es fs c.args.cited.now c.keep.new.cited c.requires.settled.index keeps.index c.args.cites c.requires.absent keeps.cites c.in_ok-spot.spot c.in_ok-spot.ensures (contains spot_cmp c.in_ok-work.work) (contains spot_cmp c.insert.new.self) c.in_ok-work.ensures c.in_ok-insert.ensures.updates.0 (λ q. keeps.chats q ∙ c.requires.settled.chats q)) in
    told_ok fs c.work_off.new.kept.entries c.keep.new.cited c.work_off.result (λ told. told.items) (λ (ts : List Cites). moves ts (cites_in es) ts) c.work_off.ensures.cites (c.work_off.ensures.moves (cites_in fs) (cites_in es) begun)
