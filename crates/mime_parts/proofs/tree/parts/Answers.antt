use Rattle.std.proofs.Common.{◌≡◌, ◌+◌, length, vec_len, rules, arith}
use Rattle.std.specs.Prelude.{Some}
use Rattle.std.proofs.lemmas.List.Elements.{All-pop}
use Rattle.mime_parts.specs.Walks.{IsWithin, coming}
use Rattle.mime_parts.proofs.WalkLemmas.{stack-first, stack-kept}
use Rattle.mime_parts.proofs.tree.parts.Goals as goal

pub loop-next-init : goal.loop-next-init
loop-next-init c =
    let read = c.in_ok-enter.ensures in
    record {
      few = read.few;
      some = omega (arith, read.more);
      nodes = read.nodes;
      work = read.work;
      coming = stack-first c.args.body.now c.args.header.now c.new.result.items (coming c.args.body.now c.enter.new.self.nodes.items c.enter.new.self.work.items) c.new-2.result.items _
          c.new.ensures.items c.new-2.ensures.items (omega (arith, c.new.ensures.len, c.new-2.ensures.len)) read.coming;
    }

pub read-requires-clause-work : goal.read-requires-clause-work
read-requires-clause-work c =
    (All-pop (λ w. IsWithin (length c.args.body.now) w.span) c.loop-next.walk.work.items c.pop.new.self.items (Some c.in-Some.next) c.in-Some.ensures.items c.loop-next.invariant.work).0

pub loop-next-preserved : goal.loop-next-preserved
loop-next-preserved c =
    let read = c.in_ok-read.ensures in
    let nodes : vec_len c.loop-next.walk.nodes ≡ length c.loop-next.walk.nodes.items = search rules in
    let work : vec_len c.pop.new.self ≡ length c.pop.new.self.items = search rules in
    record {
      few = read.few;
      some = omega (arith, read.more);
      nodes = read.nodes;
      work = read.work;
      coming = stack-kept c.args.body.now c.loop-next.walk.nodes.items c.read.new.self.nodes.items _ c.loop-next.walk.work.items c.pop.new.self.items c.read.new.self.work.items c.in-Some.next
          (vec_len c.loop-next.walk.nodes + vec_len c.pop.new.self + 1) c.in-Some.ensures.items (omega (arith, nodes, work)) read.coming c.loop-next.invariant.coming;
    }
