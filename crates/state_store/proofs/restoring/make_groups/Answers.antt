use Rattle.std.proofs.Common.{◌∷◌, [], suc, length, drop, map, ap, ◌∙◌, rules}
use Rattle.std.proofs.lemmas.Iterator.Adapters.{YieldsList-from_vec}
use Rattle.std.proofs.lemmas.Iterator.Consumers.{YieldsList-so_far, YieldsList-turn}
use Rattle.std.proofs.lemmas.List.{map-append}
use Rattle.std.proofs.lemmas.Result.{err_from_is_err_and}
use Rattle.tail_journal.specs.Read.{applied_of}
use Rattle.state_store.specs.Stands.{after_groups}
use Rattle.state_store.specs.States.{state_of}
use Rattle.state_store.proofs.Making.{group_fits, groups_next, groups_no_more, next_group}
use Rattle.state_store.proofs.restoring.make_groups.Goals as goal

pub make_changes-requires : goal.make_changes-requires
make_changes-requires c =
    let items = c.args.groups.items in
    let taken = c.loop-group.yielded in
    let road = YieldsList-from_vec {s = c.into_iter-group-iterator.result} items (search rules) (search rules) in
    let so_far = YieldsList-so_far road taken c.loop-group.group-iterator c.loop-group.yielded_by in
    let turn = YieldsList-turn road taken c.loop-group.group-iterator c.loop-group.yielded_by c.next.result c.next.new.self c.in-Some.group c.in-Some.is c.next.ensures.steps in
    record { fits = (group_fits items taken c.in-Some.group so_far turn c.requires.fit).changes }

pub returns-in_err-make_changes-clause-makes : goal.returns-in_err-make_changes-clause-makes
returns-in_err-make_changes-clause-makes c =
    let p = err_from_is_err_and c.from_residual.result c.from_residual.ensures.1 in
    let items = c.args.groups.items in
    let taken = c.loop-group.yielded in
    let road = YieldsList-from_vec {s = c.into_iter-group-iterator.result} items (search rules) (search rules) in
    let so_far = YieldsList-so_far road taken c.loop-group.group-iterator c.loop-group.yielded_by in
    let turn = YieldsList-turn road taken c.loop-group.group-iterator c.loop-group.yielded_by c.next.result c.next.new.self c.in-Some.group c.in-Some.is c.next.ensures.steps in
    rw (p.1, p.2) (groups_no_more (state_of (c.args.mailbox.now, c.args.position.now)) (state_of (c.loop-group.mailbox, c.loop-group.position)) (map applied_of items) (map applied_of taken)
    (applied_of c.in-Some.group) c.loop-group.invariant.made (map applied_of (drop (suc (length taken)) items)) (next_group items taken c.in-Some.group so_far turn)
    c.in_err-make_changes.field-0.0 c.in_err-make_changes.ensures.makes)

pub loop-group-preserved : goal.loop-group-preserved
loop-group-preserved c =
    let items = c.args.groups.items in
    let taken = c.loop-group.yielded in
    let group = c.in-Some.group in
    let start = state_of (c.args.mailbox.now, c.args.position.now) in
    let road = YieldsList-from_vec {s = c.into_iter-group-iterator.result} items (search rules) (search rules) in
    let so_far = YieldsList-so_far road taken c.loop-group.group-iterator c.loop-group.yielded_by in
    let turn = YieldsList-turn road taken c.loop-group.group-iterator c.loop-group.yielded_by c.next.result c.next.new.self group c.in-Some.is c.next.ensures.steps in
    let fit = group_fits items taken group so_far turn c.requires.fit in
    record {
      made =
          ap (after_groups start) (map-append applied_of taken (group ∷ []))
          ∙ groups_next start (state_of (c.loop-group.mailbox, c.loop-group.position)) (map applied_of items) (map applied_of taken) (applied_of group) c.loop-group.invariant.made
          c.make_changes.new.mailbox.mailbox c.in_ok-make_changes.ensures.makes;
      within = record { count = fit.count; lines = fit.lines };
    }
