use Rattle.std.proofs.Common.{◌≡◌, ℕ, List, ap, ap₂, ◌∙◌, sym, length, length-set, slice_set, get_or, arith}
use Rattle.std.specs.List.{insert, remove}
use Rattle.std.proofs.lemmas.List.Edits.{length-remove}
use Rattle.chatlist.proofs.Padded.{length_padded, none_taken, turns_known, turned_known, few_turned, turned_none}
use Rattle.chatlist.proofs.Turns.{set_read, set_gone}
use Rattle.chatlist.proofs.dates.Dates.turn.Goals as goal

-- a date that is set and then moves
moved : (ds ys zs : List ℕ) (from to d : ℕ) → ys ≡ slice_set ds from d → zs ≡ insert (remove ys from) to (get_or ys from d) → zs ≡ insert (remove ds from) to d
moved ds ys zs from to d set turned =
    turned ∙ ap (λ us. insert (remove us from) to (get_or us from d)) set ∙ ap₂ (λ us v. insert us to v) (set_gone ds from d) (set_read ds from d)

pub turn-requires-clause-to : goal.turn-requires-clause-to
turn-requires-clause-to c =
    let known = c.self.inside.known.values in
    let values = ap (λ d. d.values) c.self.view_is in
    let all = length_padded known c.self.inside.len in
    let same = ap length values in
    let within = turns_known known c.self.inside.len c.args.from c.args.to c.self.invariant (omega (arith, c.requires.from)) (omega (arith, c.requires.to)) c.in-Some.date (rw (values, sym c.in-Some.is) c.requires.fit) in
    let fewer = length-remove known c.args.from (omega (arith, c.len.ensures, c.if-was_known.true)) in
    let set = ap length c.set.ensures in
    let long = length-set known c.args.from c.in-Some.date in
    omega (arith, within)

pub invariant_of-self : goal.invariant_of-self
invariant_of-self c =
    let known = c.self.inside.known.values in
    let values = ap (λ d. d.values) c.self.view_is in
    let all = length_padded known c.self.inside.len in
    let same = ap length values in
    few_turned known c.self.inside.len c.args.from c.args.to c.self.invariant (omega (arith, c.requires.from)) (omega (arith, c.requires.to)) c.turn.new.self.values c.in-Some.date
    (rw (values, sym c.in-Some.is) c.requires.fit)
    (moved known c.set.new.self.values c.turn.new.self.values c.args.from c.args.to c.in-Some.date c.set.ensures (c.turn.ensures c.in-Some.date))

pub insert-requires-clause-within : goal.insert-requires-clause-within
insert-requires-clause-within c =
    let known = c.self.inside.known.values in
    let values = ap (λ d. d.values) c.self.view_is in
    let all = length_padded known c.self.inside.len in
    let same = ap length values in
    let within = turns_known known c.self.inside.len c.args.from c.args.to c.self.invariant (omega (arith, c.requires.from)) (omega (arith, c.requires.to)) c.in-Some-2.date (rw (values, sym c.in-Some-2.is) c.requires.fit) in
    let none = ap length (none_taken known c.args.from (omega (arith, c.len.ensures, c.if-was_known.false))) in
    omega (arith, within)

pub invariant_of-self-in-Some-2 : goal.invariant_of-self-in-Some-2
invariant_of-self-in-Some-2 c =
    let known = c.self.inside.known.values in
    let values = ap (λ d. d.values) c.self.view_is in
    let all = length_padded known c.self.inside.len in
    let same = ap length values in
    let none = none_taken known c.args.from (omega (arith, c.len.ensures, c.if-was_known.false)) in
    few_turned known c.self.inside.len c.args.from c.args.to c.self.invariant (omega (arith, c.requires.from)) (omega (arith, c.requires.to)) c.insert.new.self.values c.in-Some-2.date
    (rw (values, sym c.in-Some-2.is) c.requires.fit) (c.insert.ensures ∙ ap (λ ds. insert ds c.args.to c.in-Some-2.date) (sym none))

pub returns-in-Some : goal.returns-in-Some
returns-in-Some c =
    let known = c.self.inside.known.values in
    let values = ap (λ d. d.values) c.self.view_is in
    let all = length_padded known c.self.inside.len in
    let same = ap length values in
    turned_known known c.self.inside.len c.args.from c.args.to c.self.invariant (omega (arith, c.requires.from)) (omega (arith, c.requires.to)) c.turn.new.self.values c.in-Some.date
    (rw (values, sym c.in-Some.is) c.requires.fit)
    (moved known c.set.new.self.values c.turn.new.self.values c.args.from c.args.to c.in-Some.date c.set.ensures (c.turn.ensures c.in-Some.date))
    ∙ ap₂ (λ vs d. insert (remove vs c.args.from) c.args.to d) values (sym c.in-Some.is)

pub returns-in-Some-2 : goal.returns-in-Some-2
returns-in-Some-2 c =
    let known = c.self.inside.known.values in
    let values = ap (λ d. d.values) c.self.view_is in
    let all = length_padded known c.self.inside.len in
    let same = ap length values in
    let none = none_taken known c.args.from (omega (arith, c.len.ensures, c.if-was_known.false)) in
    turned_known known c.self.inside.len c.args.from c.args.to c.self.invariant (omega (arith, c.requires.from)) (omega (arith, c.requires.to)) c.insert.new.self.values c.in-Some-2.date
    (rw (values, sym c.in-Some-2.is) c.requires.fit) (c.insert.ensures ∙ ap (λ ds. insert ds c.args.to c.in-Some-2.date) (sym none))
    ∙ ap₂ (λ vs d. insert (remove vs c.args.from) c.args.to d) values (sym c.in-Some-2.is)

pub returns-in-None : goal.returns-in-None
returns-in-None c =
    let known = c.self.inside.known.values in
    let values = ap (λ d. d.values) c.self.view_is in
    let all = length_padded known c.self.inside.len in
    let same = ap length values in
    turned_none known c.self.inside.len c.args.from c.args.to c.self.invariant (omega (arith, c.requires.from)) (omega (arith, c.requires.to)) c.remove.new.self.values
    (rw (values, sym c.in-None.is) c.requires.fit) c.remove.ensures
    ∙ ap₂ (λ vs d. insert (remove vs c.args.from) c.args.to d) values (sym c.in-None.is)

pub returns-else-was_known-2 : goal.returns-else-was_known-2
returns-else-was_known-2 c =
    let known = c.self.inside.known.values in
    let values = ap (λ d. d.values) c.self.view_is in
    let all = length_padded known c.self.inside.len in
    let same = ap length values in
    let none = none_taken known c.args.from (omega (arith, c.len.ensures, c.if-was_known-2.false)) in
    sym values ∙ turned_none known c.self.inside.len c.args.from c.args.to c.self.invariant (omega (arith, c.requires.from)) (omega (arith, c.requires.to)) known
    (rw (values, sym c.in-None.is) c.requires.fit) (sym none)
    ∙ ap₂ (λ vs d. insert (remove vs c.args.from) c.args.to d) values (sym c.in-None.is)
