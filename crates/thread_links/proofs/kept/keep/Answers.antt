use Rattle.std.proofs.Common.{◌∙◌, ap}
use Rattle.std.specs.Prelude.{if◌then◌else◌}
use Rattle.std.specs.List.{list_any}
use Rattle.lists.specs.Sorted.{insert_by}
use Rattle.lists.specs.Ordered.{values_at}
use Rattle.card_type.specs.Effects.{is_among}
use Rattle.card_type.specs.Spots.{spot_cmp}
use Rattle.thread_links.specs.Kept.{cites_in}
use Rattle.thread_links.proofs.Citing.{ties}
use Rattle.thread_links.proofs.CitedLaws.{not_cited}
use Rattle.thread_links.proofs.ChangeLaws.{kept_index, kept_cites, kept_chats}
use Rattle.thread_links.proofs.kept.keep.Goals as goal

pub cite-requires : goal.cite-requires
cite-requires c =
    let s = c.args.cites.spot in
    record { absent = λ id. ap (list_any (ties s)) (c.requires.index.spots id) ∙ not_cited s (cites_in c.args.kept.now.entries) id c.requires.absent }

pub returns-clause-index : goal.returns-clause-index
returns-clause-index c =
    kept_index c.args.kept.now.entries c.insert.new.self.entries c.args.cited.now c.cite.new.cited c.requires.index c.in_ok-_before.ensures.ordered c.args.cites c.in_ok-id.id c.in_ok-id.ensures c.requires.absent c.in_ok-_before.ensures.updates.0
    (λ q. c.in_ok-cite.ensures q ∙ ap (λ ids. if is_among ids q then insert_by spot_cmp c.args.cites.spot (values_at c.args.cited.now q) else values_at c.args.cited.now q) c.as_slice.ensures)

pub returns-clause-cites : goal.returns-clause-cites
returns-clause-cites c =
    kept_cites c.args.kept.now.entries c.insert.new.self.entries c.args.cited.now c.cite.new.cited c.requires.index c.in_ok-_before.ensures.ordered c.args.cites c.in_ok-id.id c.in_ok-id.ensures c.requires.absent c.in_ok-_before.ensures.updates.0

pub returns-clause-chats : goal.returns-clause-chats
returns-clause-chats c =
    kept_chats c.args.kept.now.entries c.insert.new.self.entries c.args.cited.now c.cite.new.cited c.requires.index c.in_ok-_before.ensures.ordered c.args.cites c.in_ok-id.id c.in_ok-id.ensures c.requires.absent c.in_ok-_before.ensures.updates.0
