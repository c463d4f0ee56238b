use Rattle.std.proofs.Common.{[], ◌∷◌, ◌++◌, take, inl, inr}
use Rattle.mboxrd.specs.Remaining.{from_text}
use Rattle.mboxrd.specs.LineStates.{withheld_line}
use Rattle.source_buffer.proofs.Prefixes.{Keeps_more, Keeps_none, Keeps_as}
use Rattle.mboxrd.proofs.Stepping.{from_end, quote_end, separator_end, start_end, inside_end, cr_end}
use Rattle.mboxrd.proofs.step.finish.Goals as goal

pub returns-in-Separator : goal.returns-in-Separator
returns-in-Separator c = (
  [],
  Keeps_none c.args.mail.now,
  elim c.in-Separator.is [
    | inl is ↦ rw is separator_end
    | inr (inl start) ↦ rw start.1 (start_end start.0)
    | inr (inr is) ↦ rw is inside_end
  ],
)

pub returns-in_ok-keep-in-From-2 : goal.returns-in_ok-keep-in-From-2
returns-in_ok-keep-in-From-2 c =
    let fine = rw c.in-From.is at c.requires in
    let preceding = c.in-From.preceding in
    let k = c.in-From.k in (
      withheld_line preceding ++ take k from_text,
      Keeps_more c.args.mail.now c.keep.new.self c.keep-in-From.new.self (withheld_line preceding) (take k from_text)
          (Keeps_as c.args.mail.now c.keep.new.self c.withheld_line.result.now (withheld_line preceding) c.withheld_line.ensures c.in_ok-keep-in-From.ensures)
          c.in_ok-keep-in-From-2.ensures,
      rw c.in-From.is (from_end preceding k fine.0 fine.1),
    )

pub returns-in_ok-keep-in-Quote-2 : goal.returns-in_ok-keep-in-Quote-2
returns-in_ok-keep-in-Quote-2 c =
    let fine = rw c.in-Quote.is at c.requires in
    let k = c.in-Quote.k in (
      62 ∷ take k from_text,
      Keeps_more c.args.mail.now c.keep-in-Quote.new.self c.keep-in-Quote-2.new.self (62 ∷ []) (take k from_text)
          c.in_ok-keep-in-Quote.ensures c.in_ok-keep-in-Quote-2.ensures,
      rw c.in-Quote.is (quote_end k fine),
    )

pub returns-in_ok-keep-in-Cr : goal.returns-in_ok-keep-in-Cr
returns-in_ok-keep-in-Cr c = (13 ∷ [], c.in_ok-keep-in-Cr.ensures, rw c.in-Cr.is cr_end)
