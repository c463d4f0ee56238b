use Rattle.std.proofs.Common.{◌≡◌, [], true, false, sym, subst, ◌∙◌}
use Rattle.std.proofs.lemmas.Result.{err_from_is_err_and}
use Rattle.kit.specs.Chains.{Cut}
use Rattle.mboxrd.specs.declared.fault.BoxFault.TheVariants.{Endless}
use Rattle.mboxrd.specs.Traced.{Traced, held_back_if}
use Rattle.mboxrd.proofs.Reaching.{reach_ok, reach_err, reach_fits, reach_goes}
use Rattle.mboxrd.proofs.reader.MboxReader.reach.Goals as goal

pub returns-in_err-found-clause-took : goal.returns-in_err-found-clause-took
returns-in_err-found-clause-took g c =
    let t = c.in_err-found.ensures.took in
    let p = err_from_is_err_and c.from_residual.result c.from_residual.ensures.1 in
    let q = p.2 in
    let h = reach_err _ _ c.args.self.now c.self.inside.buffer c.read_to_separator.new.buffer c.self.inside.at_separator c.self.inside.at_separator c.self.inside.place c.self.inside.place c.self.inside.refused true
    c.self.inside.trace c.self.inside.trace t.0 (p.0 ≡ Endless) c.self.view_is c.if-self.false t.1 (λ e. t.2 (sym q ∙ e)) in
    (t.0, h.0, rw p.1 h.1)

pub returns-then-not-found-clause-took : goal.returns-then-not-found-clause-took
returns-then-not-found-clause-took g c =
    let t = c.in_ok-found.ensures.took in
    let h = reach_ok _ _ c.args.self.now c.self.inside.buffer c.read_to_separator.new.buffer c.self.inside.at_separator c.in_ok-found.found c.self.inside.place c.self.inside.place c.self.inside.refused false
    c.self.inside.trace c.self.inside.trace t.0 t.2.0 t.2.1 c.self.view_is c.if-self.false c.self.invariant t.1 t.2.2 (λ e. (c.in_ok-found.ensures.end e).1) t.2.4 in
    (t.0, h.0, (h.1.0, h.1.1, λ e. absurd cc))

pub invariant_of-self-2 : goal.invariant_of-self-2
invariant_of-self-2 g c =
    let t = c.in_ok-found.ensures.took in
    reach_fits c.self.inside.buffer c.read_to_separator.new.buffer c.self.inside.at_separator t.0 t.2.0 t.2.1 c.in_ok-found.found c.if-self.false c.self.invariant t.1.taken c.in_ok-found.ensures.fewer t.2.2 t.2.4

pub returns-clause-took : goal.returns-clause-took
returns-clause-took g c =
    let t = c.in_ok-found.ensures.took in
    let h = reach_ok _ _ c.args.self.now c.self.inside.buffer c.read_to_separator.new.buffer c.self.inside.at_separator c.in_ok-found.found c.self.inside.place c.self.inside.place c.self.inside.refused false
    c.self.inside.trace c.read_to_separator.new.trace t.0 t.2.0 t.2.1 c.self.view_is c.if-self.false c.self.invariant t.1 t.2.2 (λ e. (c.in_ok-found.ensures.end e).1) t.2.4 in
    let traced = subst (λ (x : Cut). Traced [] t.2.0 (held_back_if c.in_ok-found.found) x c.read_to_separator.new.trace) c.copy-trace.ensures t.2.5 in
    let goes = reach_goes c.args.self.now c.self.inside.buffer c.read_to_separator.new.buffer c.self.inside.at_separator c.in_ok-found.found c.self.inside.place c.self.inside.place c.self.inside.refused false
    c.self.inside.trace c.read_to_separator.new.trace t.0 t.2.0 c.self.view_is c.if-self.false t.2.2 traced in
    (t.0, h.0, (h.1.0, h.1.1, λ e. goes))

pub returns-clause-fewer : goal.returns-clause-fewer
returns-clause-fewer g c =
    let t = c.in_ok-found.ensures.took in
    reach_fits c.self.inside.buffer c.read_to_separator.new.buffer c.self.inside.at_separator t.0 t.2.0 t.2.1 c.in_ok-found.found c.if-self.false c.self.invariant t.1.taken c.in_ok-found.ensures.fewer t.2.2 t.2.4
