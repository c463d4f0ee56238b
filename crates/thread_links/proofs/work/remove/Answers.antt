use Rattle.std.proofs.Common.{◌∙◌, sym, ap, subst, List}
use Rattle.std.specs.BTreeSet.{contains}
use Rattle.card_type.specs.declared.spot.Spot.{Spot}
use Rattle.card_type.specs.Spots.{spot_cmp}
use Rattle.mailbox_model.specs.declared.links.Cites.{Cites}
use Rattle.mailbox_model.specs.Chats.{moves}
use Rattle.thread_links.specs.declared.kept.Kept.{Kept}
use Rattle.thread_links.specs.Linked.{without_id}
use Rattle.thread_links.specs.Kept.{cites_in}
use Rattle.thread_links.specs.Work.{is_later_of, IsBegun}
use Rattle.thread_links.proofs.Turns.{later_there}
use Rattle.thread_links.proofs.ChangeLaws.{under_of, is_kept, removed_begun, settled_ok, cites_ok, told_ok}
use Rattle.thread_links.proofs.work.remove.Goals as goal

pub returns-in_default-clause-settled : goal.returns-in_default-clause-settled
returns-in_default-clause-settled c =
    let es = c.args.kept.now.entries in
    absurd (is_kept es (under_of es c.args.cited.now c.requires.settled.index) c.args.id.now c.requires.there (sym c.take_out.ensures.gone ∙ c.in_default.is))

pub returns-in_default-clause-told : goal.returns-in_default-clause-told
returns-in_default-clause-told c =
    let es = c.args.kept.now.entries in
    absurd (is_kept es (under_of es c.args.cited.now c.requires.settled.index) c.args.id.now c.requires.there (sym c.take_out.ensures.gone ∙ c.in_default.is))

pub work_off-requires-clause-there : goal.work_off-requires-clause-there
work_off-requires-clause-there c s h =
    let spot = c.in-Some.field-0.cites.spot in
    let fs = c.take_out.new.kept.entries in
    later_there (cites_in fs) spot.id spot s (ap (λ (ss : List Spot). is_later_of ss spot s) (sym (c.take_out.ensures.index.spots spot.id)) ∙ sym (c.in_ok-work.ensures s) ∙ h)

pub returns-clause-settled : goal.returns-clause-settled
returns-clause-settled c =
    let es = c.args.kept.now.entries in
    let fs = c.take_out.new.kept.entries in
    let k : Kept = c.in-Some.field-0 in
    let found = sym c.take_out.ensures.gone ∙ c.in-Some.is in
    let work = contains spot_cmp c.in_ok-work.work in
    let begun = subst (IsBegun (cites_in es) (cites_in es) fs work) (sym c.in_ok-told.ensures)
    (removed_begun es fs c.args.cited.now c.take_out.new.cited c.requires.settled.index c.take_out.ensures.index c.args.id.now k found c.take_out.ensures.cites c.requires.settled.chats c.take_out.ensures.chats work c.in_ok-work.ensures) in
    settled_ok fs c.work_off.new.kept.entries c.take_out.new.cited c.work_off.result c.take_out.ensures.index c.work_off.ensures.cites (c.work_off.ensures.chats (cites_in es) (cites_in es) begun)

pub returns-clause-cites : goal.returns-clause-cites
returns-clause-cites c =
    let fs = c.take_out.new.kept.entries in
    cites_ok fs c.work_off.new.kept.entries c.take_out.new.cited c.work_off.result (without_id c.args.id.now (cites_in c.args.kept.now.entries)) c.take_out.ensures.cites c.work_off.ensures.cites

pub returns-clause-told : goal.returns-clause-told
returns-clause-told c =
    let es = c.args.kept.now.entries in
    let fs = c.take_out.new.kept.entries in
    let k : Kept = c.in-Some.field-0 in
    let found = sym c.take_out.ensures.gone ∙ c.in-Some.is in
    let work = contains spot_cmp c.in_ok-work.work in
    let begun = subst (IsBegun (cites_in es) (cites_in es) fs work) (sym c.in_ok-told.ensures)
    (removed_begun es fs c.args.cited.now c.take_out.new.cited c.requires.settled.index c.take_out.ensures.index c.args.id.now k found c.take_out.ensures.cites c.requires.settled.chats c.take_out.ensures.chats work c.in_ok-work.ensures) in
    told_ok fs c.work_off.new.kept.entries c.take_out.new.cited c.work_off.result (λ told. told.items) (λ (ts : List Cites). moves (cites_in es) (cites_in es) ts) c.work_off.ensures.cites (c.work_off.ensures.moves (cites_in es) (cites_in es) begun)
