use Rattle.std.proofs.Common.{refl, ◌≡◌, rules, ap, ◌∙◌, ◌-◌, suc, length, drop, arith}
use Rattle.std.specs.List.{insert}
use Rattle.chatlist.proofs.Ends.{insert_after, put_before}
use Rattle.chatlist.proofs.two_ended.TwoEnded.insert.Goals as goal

pub returns-then-self-gt0 : goal.returns-then-self-gt0
returns-then-self-gt0 g c =
    let items = c.self.inside.items in
    let before = c.self.inside.start - 1 in
    let next : suc before ≡ c.self.inside.start = omega (arith, c.if-self-gt0.true) in
    let values = ap (λ n. drop n items.items) next ∙ ap (λ e. e.values) c.self.view_is in
    let moved = rw c.deref_mut.ensures.value at (c.turn.ensures c.args.value) in
    let all : items.len ≡ length items.items = search rules in
    put_before before items.len c.args.index items.items c.turn.new.values c.args.value moved (omega (arith, next, c.self.invariant)) (rw values c.requires.within) all
    ∙ ap (λ vs. insert vs c.args.index c.args.value) values

pub returns-else-index-after : goal.returns-else-index-after
returns-else-index-after g c =
    let items = rw c.unwrap.ensures at c.insert-inserted.ensures.items in
    rw items (insert_after c.self.inside.start c.args.index _ c.self.inside.items.items c.args.value refl c.self.invariant
    ∙ ap (λ e. insert e.values c.args.index c.args.value) c.self.view_is)
