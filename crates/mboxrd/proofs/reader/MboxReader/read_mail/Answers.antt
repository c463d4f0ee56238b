use Rattle.std.proofs.Common.{◌≡◌, ◌-◌, ◌++◌, take, true, false, arith, sym, ap, ◌∙◌}
use Rattle.std.proofs.lemmas.Result.{err_from_is_err_and}
use Rattle.mboxrd.specs.declared.fault.BoxFault.TheVariants.{Endless}
use Rattle.mboxrd.specs.Reading.{Reading}
use Rattle.mboxrd.proofs.Reaching.{mail_ok, mail_err, mail_fits, mail_goes, with_from_fits}
use Rattle.mboxrd.proofs.reader.MboxReader.read_mail.Goals as goal
use Rattle.mboxrd.proofs.reader.MboxReader.read_mail.Goals.{then-found, else-found}

pub returns-in_err-found-clause-took : goal.returns-in_err-found-clause-took
returns-in_err-found-clause-took g c =
    let t = c.in_err-found.ensures.took in
    let p = err_from_is_err_and c.from_residual.result c.from_residual.ensures.1 in
    let q = p.2 in
    let h = mail_err _ _ c.args.self.now c.self.inside.buffer c.read_to_separator.new.buffer c.self.inside.at_separator false c.self.inside.place c.self.inside.place c.self.inside.refused true c.self.inside.trace c.read_to_separator.new.trace t.0
    (p.0 ≡ Endless) c.self.view_is (ap (λ (r : Reading). r.at_separator) c.self.view_is ∙ c.requires) c.self.invariant t.1 (λ e. t.2 (sym q ∙ e)) in
    (t.0, h.0, rw p.1 h.1)

pub overflow_sub-self : goal.overflow_sub-self
overflow_sub-self g c =
    let t = c.in_ok-found.ensures.took in
    let h = mail_fits c.self.inside.buffer c.read_to_separator.new.buffer c.self.inside.at_separator t.0 t.2.0 (ap (λ (r : Reading). r.at_separator) c.self.view_is ∙ c.requires) c.self.invariant t.1.taken t.2.2 in
    elim c.if-found.branch [ then-found w ↦ omega (arith, h, w.self-is) | else-found w ↦ omega (arith, h, w.self-is) ]

pub invariant_of-self-2 : goal.invariant_of-self-2
invariant_of-self-2 g c =
    let t = c.in_ok-found.ensures.took in
    with_from_fits c.in_ok-found.found c.read_to_separator.new.buffer (mail_fits c.self.inside.buffer c.read_to_separator.new.buffer c.self.inside.at_separator t.0 t.2.0 (ap (λ (r : Reading). r.at_separator) c.self.view_is ∙ c.requires) c.self.invariant t.1.taken t.2.2)

pub returns-clause-took : goal.returns-clause-took
returns-clause-took g c =
    let t = c.in_ok-found.ensures.took in
    let h = mail_ok _ _ c.args.self.now c.self.inside.buffer c.read_to_separator.new.buffer c.self.inside.at_separator c.in_ok-found.found c.self.inside.place (c.position.result - c.if-found.self) c.self.inside.refused false c.self.inside.trace c.read_to_separator.new.trace t.0 t.2.0 t.2.1
    c.self.view_is (ap (λ (r : Reading). r.at_separator) c.self.view_is ∙ c.requires) c.self.invariant t.1 t.2.2 (λ e. (c.in_ok-found.ensures.end e).1) t.2.4 in
    let goes = mail_goes c.args.self.now c.self.inside.buffer c.read_to_separator.new.buffer c.self.inside.at_separator c.in_ok-found.found c.self.inside.place (c.position.result - c.if-found.self) c.self.inside.refused false
    c.self.inside.trace c.add.new.self c.read_to_separator.new.trace t.0 t.2.0 c.self.view_is (ap (λ (r : Reading). r.at_separator) c.self.view_is ∙ c.requires) t.2.2 c.add.ensures.stands t.2.5 in
    (t.0, h.0, (t.2.1, c.into_bytes.ensures ∙ t.2.3.bytes ∙ ap (λ n. take n (c.new-mail.result.bytes ++ t.2.1)) c.new-mail.ensures.limit ∙ ap (λ z. take 67108865 (z ++ t.2.1)) c.new-mail.ensures.bytes, h.1, h.2, goes))

pub returns-clause-fewer : goal.returns-clause-fewer
returns-clause-fewer g c =
    let t = c.in_ok-found.ensures.took in
    with_from_fits c.in_ok-found.found c.read_to_separator.new.buffer (mail_fits c.self.inside.buffer c.read_to_separator.new.buffer c.self.inside.at_separator t.0 t.2.0 (ap (λ (r : Reading). r.at_separator) c.self.view_is ∙ c.requires) c.self.invariant t.1.taken t.2.2)
