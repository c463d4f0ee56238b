use Rattle.std.proofs.Common.{◌≡◌, ◌<◌, ◌++◌, ℕ, List, arith, subst, sym, ap, ◌∙◌, length, take}
use Rattle.std.proofs.lemmas.List.{length-take-le}
use Rattle.sha2.specs.Hashers.{Holds256}
use Rattle.sha2.specs.declared.Sha256.{Sha256}
use Rattle.kit.specs.Chains.{Cut, chained, value_of}
use Rattle.kit.proofs.ChainLaws.{whole_value, last_value, chain_is}
use Rattle.kit.proofs.trace.Trace.value.Goals as goal

pub returns-then-self-eq0-clause-value : goal.returns-then-self-eq0-clause-value
returns-then-self-eq0-clause-value c =
    let size : length c.args.self.now.block ≡ c.self.inside.len =
    sym (ap (λ (x : Cut). length x.block) c.self.view_is) ∙ length-take-le c.self.inside.len c.self.inside.block (omega (arith, c.self.told.1, c.self.invariant.0)) in
    ap (λ (x : Cut). x.value) c.self.view_is ∙ whole_value c.args.self.now (omega (arith, size, c.if-self-eq0.true))

pub returns-then-self-eq0-clause-chain : goal.returns-then-self-eq0-clause-chain
returns-then-self-eq0-clause-chain c = λ bytes stands. returns-then-self-eq0-clause-value c ∙ chain_is c.args.self.now bytes stands

pub returns-clause-value : goal.returns-clause-value
returns-clause-value c =
    let m : List ℕ = c.self.inside.value ++ take c.self.inside.len c.self.inside.block in
    let held : Holds256 c.in-Ok.hasher m = subst (λ (h : Sha256). Holds256 h m) (sym c.in-Ok.ensures.cases) c.self.invariant.1 in
    let size : length c.args.self.now.block ≡ c.self.inside.len =
    sym (ap (λ (x : Cut). length x.block) c.self.view_is) ∙ length-take-le c.self.inside.len c.self.inside.block (omega (arith, c.self.told.1, c.self.invariant.0)) in
    c.finalize.ensures m held ∙ ap (λ (x : Cut). chained x.value x.block) c.self.view_is ∙ last_value c.args.self.now (omega (arith, size, c.if-self-eq0.false))

pub returns-clause-chain : goal.returns-clause-chain
returns-clause-chain c = λ bytes stands. returns-clause-value c ∙ chain_is c.args.self.now bytes stands
