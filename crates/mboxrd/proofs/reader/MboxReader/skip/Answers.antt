use Rattle.std.proofs.Common.{ap, ◌∙◌, false}
use Rattle.mboxrd.specs.Reading.{Reading}
use Rattle.mboxrd.proofs.Skipped.{skipped, skip_traced}
use Rattle.mboxrd.proofs.reader.MboxReader.skip.Goals as goal

pub returns-clause-moved : goal.returns-clause-moved
returns-clause-moved g c =
    let t = c.in_ok-dropped.ensures.took in
    (skipped (g.S.Source.left c.args.source.now) (g.S.Source.left c.skip.new.source) c.args.self.now c.self.inside.buffer c.skip.new.self c.self.inside.at_separator
    c.self.inside.place c.position-self-inside.result c.self.inside.refused false c.self.inside.trace c.skip.new.trace t.0 c.in_ok-dropped.dropped
    c.self.view_is (ap (λ (r : Reading). r.at_separator) c.self.view_is ∙ c.requires.first) c.self.invariant c.in_ok-dropped.ensures.fewer t.1 t.2).0

pub returns-clause-position : goal.returns-clause-position
returns-clause-position g c =
    let t = c.in_ok-dropped.ensures.took in
    (skipped (g.S.Source.left c.args.source.now) (g.S.Source.left c.skip.new.source) c.args.self.now c.self.inside.buffer c.skip.new.self c.self.inside.at_separator
    c.self.inside.place c.position-self-inside.result c.self.inside.refused false c.self.inside.trace c.skip.new.trace t.0 c.in_ok-dropped.dropped
    c.self.view_is (ap (λ (r : Reading). r.at_separator) c.self.view_is ∙ c.requires.first) c.self.invariant c.in_ok-dropped.ensures.fewer t.1 t.2).1

pub returns-clause-traced : goal.returns-clause-traced
returns-clause-traced g c =
    let t = c.in_ok-dropped.ensures.took in
    skip_traced (g.S.Source.left c.args.source.now) (g.S.Source.left c.skip.new.source) c.args.self.now c.self.inside.buffer c.skip.new.self c.self.inside.at_separator
    c.self.inside.place c.position-self-inside.result c.self.inside.refused false c.self.inside.trace c.skip.new.trace t.0 c.in_ok-dropped.dropped
    c.self.view_is (ap (λ (r : Reading). r.at_separator) c.self.view_is ∙ c.requires.first) c.self.invariant c.in_ok-dropped.ensures.fewer t.1 t.2 c.position-self-inside.ensures
