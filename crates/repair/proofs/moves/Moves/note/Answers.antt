use Rattle.std.proofs.Common.{rules, ◌∙◌, sym, ap}
use Rattle.std.specs.Map.{lookup}
use Rattle.std.specs.Option.{option_or}
use Rattle.std.specs.Str.{bytes_eq}
use Rattle.std.proofs.lemmas.Iterator.Adapters.{YieldsList-from_vec}
use Rattle.std.proofs.lemmas.Iterator.Consumers.{YieldsList-end}
use Rattle.std.proofs.lemmas.List.{map-id}
use Rattle.repair.proofs.Noted.{noted_with, told_before, told_more, leads_back}
use Rattle.repair.proofs.moves.Moves.note.Goals as goal

pub loop-one-preserved : goal.loop-one-preserved
loop-one-preserved c id =
    let one = c.in-Some.one in
    let so_far = c.loop-one.yielded in
    c.in_ok-note_one.ensures id
    ∙ ap (λ p. noted_with p.0 p.1 id (lookup (bytes_eq id) c.loop-one.self)) c.told_before-id.ensures
    ∙ ap (noted_with one.id one.before id) (c.loop-one.invariant id)
    ∙ told_more so_far one id (lookup (bytes_eq id) c.args.self.now)

pub returns : goal.returns
returns c first before after told =
    let taken = c.loop-one.yielded in
    let road = YieldsList-from_vec {s = c.into_iter-one-iterator.result} c.args.moved.items c.into_iter-one-iterator.ensures.into_iter_gives.0 (search rules) in
    let all = (YieldsList-end road taken c.loop-one.one-iterator c.loop-one.yielded_by c.next.result c.next.new.self c.in-None.is c.next.ensures.steps).0 in
    leads_back c.args.self.now c.loop-one.self c.args.moved.items first before after told
    (λ id. c.loop-one.invariant id ∙ ap (λ moved. option_or (lookup (bytes_eq id) c.args.self.now) (told_before moved id)) (sym (map-id taken) ∙ all))
