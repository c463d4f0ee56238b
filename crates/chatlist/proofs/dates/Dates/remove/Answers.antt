use Rattle.std.proofs.Common.{◌-◌, ap, ◌∙◌, sym, length, arith}
use Rattle.std.specs.List.{remove}
use Rattle.chatlist.specs.Dates.{padded}
use Rattle.chatlist.proofs.Padded.{length_padded, taken, none_taken}
use Rattle.chatlist.proofs.dates.Dates.remove.Goals as goal

pub overflow_sub-self : goal.overflow_sub-self
overflow_sub-self c =
    let all = length_padded c.self.inside.known.values c.self.inside.len in
    let same = ap length (ap (λ d. d.values) c.self.view_is) in
    omega (arith, c.requires)

pub invariant_of-self-else-index-len : goal.invariant_of-self-else-index-len
invariant_of-self-else-index-len c =
    let all = length_padded c.self.inside.known.values c.self.inside.len in
    let same = ap length (ap (λ d. d.values) c.self.view_is) in
    omega (arith, c.requires, c.len.ensures, c.if-index-len.false)

pub returns-then-index-len : goal.returns-then-index-len
returns-then-index-len c =
    let known = c.self.inside.known.values in
    let values = ap (λ d. d.values) c.self.view_is in
    let all = length_padded known c.self.inside.len in
    let same = ap length values in
    ap (λ ds. padded ds (c.self.inside.len - 1)) c.remove.ensures
    ∙ taken known c.self.inside.len (c.self.inside.len - 1) c.args.index (omega (arith, c.requires)) (omega (arith, c.requires))
    ∙ ap (λ vs. remove vs c.args.index) values

pub returns-else-index-len : goal.returns-else-index-len
returns-else-index-len c =
    let known = c.self.inside.known.values in
    let values = ap (λ d. d.values) c.self.view_is in
    let all = length_padded known c.self.inside.len in
    let same = ap length values in
    ap (λ ds. padded ds (c.self.inside.len - 1)) (sym (none_taken known c.args.index (omega (arith, c.len.ensures, c.if-index-len.false))))
    ∙ taken known c.self.inside.len (c.self.inside.len - 1) c.args.index (omega (arith, c.requires)) (omega (arith, c.requires))
    ∙ ap (λ vs. remove vs c.args.index) values
