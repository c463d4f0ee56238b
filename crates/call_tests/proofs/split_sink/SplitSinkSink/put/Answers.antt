use Rattle.std.proofs.Common.{◌≡◌, ◌+◌, ◌++◌, List, ℕ, Some, Result, Ok, Err, take, length, sym, ap, subst, ◌∙◌, append_assoc}
use Rattle.std.proofs.Math.Seq.{take-append-add}
use Rattle.outside.specs.Bytes.{PutAppends}
use Rattle.outside.specs.declared.faults.Failed.{Failed}
use Rattle.call_tests.proofs.split_sink.SplitSinkSink.put.Goals as goal

-- a chunk that is put in two
two_puts : (old mid new front last : List ℕ) (r : Result Unit Failed) → mid ≡ old ++ front → PutAppends (Some mid) (Some new) r last
    → PutAppends (Some old) (Some new) r (front ++ last)
two_puts old mid new front last (Ok _) first p = p ∙ ap (λ l. l ++ last) first ∙ append_assoc old front last
two_puts old mid new front last (Err _) first p = (
  length front + p.0,
  p.1 ∙ ap (λ l. l ++ take p.0 last) first ∙ append_assoc old front (take p.0 last) ∙ ap (λ l. old ++ l) (sym (take-append-add front last p.0)),
)

pub returns-clause-bytes : goal.returns-clause-bytes
returns-clause-bytes c =
    subst (PutAppends (Some c.args.self.now.sink.bytes.items) (Some c.put-2.new.self.bytes.items) c.put-2.result) (sym c.split_at.ensures.by_index.0)
    (two_puts c.args.self.now.sink.bytes.items c.put.new.self.bytes.items c.put-2.new.self.bytes.items c.split_at.result.0.now c.split_at.result.1.now c.put-2.result
    c.in_ok-put.ensures.bytes c.put-2.ensures.bytes)
