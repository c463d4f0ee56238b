use Rattle.std.proofs.Common.{◌++◌, List, ℕ, map, sym, ap, ◌∙◌}
use Rattle.kit.specs.Lines.{content, raw_lines}
use Rattle.mail_headers.specs.Fields.{continuation}
use Rattle.mail_headers.proofs.Continuations.{no_continuation, one_continuation}
use Rattle.mail_headers.proofs.field.split_continuation.Goals as goal

pub returns-then-not-continues : goal.returns-then-not-continues
returns-then-not-continues c = no_continuation c.args.following.now (sym c.continues.ensures ∙ c.if-not-continues.true)

pub returns : goal.returns
returns c =
    let following = c.args.following.now in
    let rest = raw_lines c.in_ok-raw.rest.now in (
      one_continuation following c.in_ok-raw.raw.now rest (sym c.continues.ensures ∙ c.if-not-continues.false) c.in_ok-raw.ensures.lines
          ∙ ap (λ (line : List ℕ). line ++ continuation (map content rest)) (sym c.content.ensures),
      c.in_ok-raw.ensures.shorter,
    )
