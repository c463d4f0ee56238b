use Rattle.std.proofs.Common.{◌≡◌, ◌≢◌, [], ◌∷◌, ◌++◌, take}
use Rattle.mboxrd.specs.Remaining.{from_text}
use Rattle.source_buffer.proofs.Prefixes.{Keeps_none, Keeps_three}
use Rattle.mboxrd.proofs.Stepping.{steps_quote, steps_quote_done, steps_quotes, steps_quote_other}
use Rattle.mboxrd.proofs.step.at_quote.Goals as goal
use Rattle.mboxrd.proofs.step.at_quote.Goals.{else-k-eq0-via-then-k-eq0+else-b-eq62, else-k-eq0-via-else-k-eq0}

pub returns-then-k-eq4-clause-steps : goal.returns-then-k-eq4-clause-steps
returns-then-k-eq4-clause-steps c = (from_text, c.in_ok-keep.ensures, steps_quote_done c.args.k c.args.b c.if-k-eq4.true c.if-b-k.true)

pub returns-then-b-k-clause-steps : goal.returns-then-b-k-clause-steps
returns-then-b-k-clause-steps c = ([], Keeps_none c.args.mail.now, steps_quote c.args.k c.args.b c.requires c.if-k-eq4.false c.if-b-k.true)

pub returns-then-b-eq62-clause-steps : goal.returns-then-b-eq62-clause-steps
returns-then-b-eq62-clause-steps c = (62 ∷ [], c.in_ok-keep-2.ensures, steps_quotes c.args.k c.args.b c.if-k-eq0.true c.if-b-eq62.true)

pub returns-clause-steps : goal.returns-clause-steps
returns-clause-steps c =
    let added = 62 ∷ (take c.args.k from_text ++ (c.args.b ∷ [])) in
    let other : c.args.k ≡ 0 → c.args.b ≢ 62 = elim c.else-k-eq0.branch [
      | else-k-eq0-via-then-k-eq0+else-b-eq62 w ↦ λ z. w.if-b-eq62.false
      | else-k-eq0-via-else-k-eq0 w ↦ λ z. absurd (w.if-k-eq0.false z)
    ] in (
      added,
      Keeps_three c.args.mail.now c.keep-2.new.self c.keep-3.new.self c.keep-4.new.self (62 ∷ []) (take c.args.k from_text) (c.args.b ∷ [])
          c.in_ok-keep-2.ensures c.in_ok-keep-3.ensures c.in_ok-keep-4.ensures,
      rw c.state_after.ensures.after (steps_quote_other c.args.k c.args.b c.requires c.if-b-k.false other),
    )
