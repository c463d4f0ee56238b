use Rattle.std.proofs.Common.{◌≡◌, ◌+◌, ◌==◌, length, vec_len, rules, sym, ap, subst, ◌∙◌, arith}
use Rattle.std.proofs.lemmas.List.Elements.{All-push, All-same}
use Rattle.mime_parts.specs.Trees.{is_digest, kind_of, opened, part}
use Rattle.mime_parts.specs.Trees.{IsNodeWithin}
use Rattle.mime_parts.proofs.WalkLemmas.{stack-step, work-within}
use Rattle.mime_parts.proofs.tree.Walk.enter.Goals as goal

pub returns-clause-nodes : goal.returns-clause-nodes
returns-clause-nodes c =
    let len = length c.args.body.now in
    let is = c.in_ok-node.ensures c.args.next.digest c.in_ok-kind.ensures in
    All-same (IsNodeWithin len) c.push.new.self.items _ c.in_ok-push.ensures.items
    (All-push (IsNodeWithin len) c.args.self.now.nodes.items c.in_ok-node.node c.requires.nodes (subst (IsNodeWithin len) (sym is) c.requires.inside))

pub returns-clause-work : goal.returns-clause-work
returns-clause-work c =
    work-within (length c.args.body.now) c.saturating_sub.result c.is_digest.result c.args.self.now.work.items c.push_work.new.work.items c.in_ok-parts.parts.items
    c.in_ok-push_work.ensures.items c.requires.work c.in_ok-parts.ensures.within

pub returns-clause-coming : goal.returns-clause-coming
returns-clause-coming c =
    let body = c.args.body.now in
    let next = c.args.next in
    let known = vec_len c.args.self.now.nodes + vec_len c.args.self.now.work + 1 in
    let nodes : vec_len c.args.self.now.nodes ≡ length c.args.self.now.nodes.items = search rules in
    let work : vec_len c.args.self.now.work ≡ length c.args.self.now.work.items = search rules in
    let parts : vec_len c.in_ok-parts.parts ≡ length c.in_ok-parts.parts.items = search rules in
    let many : c.len.result + c.len-2.result + 1 ≡ known = omega (arith, c.len.ensures, c.len-2.ensures) in
    let found = c.in_ok-parts.ensures.items
    ∙ ap (λ kind. opened body next.levels kind next.span (c.len.result + c.len-2.result + 1)) c.in_ok-kind.ensures
    ∙ ap (opened body next.levels (kind_of next.digest c.args.header.now) next.span) many in
    stack-step body next.levels c.saturating_sub.result next.digest c.is_digest.result (part c.args.header.now next.span) known
    c.args.self.now.nodes.items c.push.new.self.items c.args.self.now.work.items c.push_work.new.work.items c.in_ok-parts.parts.items c.is_empty-leaf.result c.in_ok-node.node
    found c.saturating_sub.ensures (c.is_digest.ensures ∙ ap is_digest c.in_ok-kind.ensures) (c.is_empty-leaf.ensures ∙ ap (λ n. n == 0) parts)
    (c.in_ok-node.ensures next.digest c.in_ok-kind.ensures) c.in_ok-push.ensures.items c.in_ok-push_work.ensures.items (omega (arith, nodes, work))
