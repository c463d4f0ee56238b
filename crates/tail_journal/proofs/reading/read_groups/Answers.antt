use Rattle.std.proofs.Common.{ℕ, map, subst, arith, Option, IfNone}
use Rattle.tail_journal.specs.Groups.{reading}
use Rattle.tail_journal.specs.Read.{applied_of, EndsAt}
use Rattle.tail_journal.proofs.Steps.{is_read}
use Rattle.tail_journal.proofs.ValidLaws.{fits_groups}
use Rattle.tail_journal.proofs.reading.read_groups.Goals as goal

pub returns-clause-valid : goal.returns-clause-valid
returns-clause-valid c =
    let bytes = c.args.bytes.now in
    let l = c.loop-groups in
    let groups = c.step.new.groups.items in
    let ends = subst (λ (next : Option (ℕ × ℕ)). IfNone next (EndsAt bytes l.at l.count l.groups.items groups)) c.in_default.is c.in_ok-next.ensures.ends in
    let gives = is_read (reading c.args.count bytes) bytes l.at l.count l.groups.items groups l.invariant.leads ends in
    fits_groups c.args.count l.at (map applied_of groups) bytes (λ i. let fit = c.type_inv.bytes i in omega (arith, fit)) gives
