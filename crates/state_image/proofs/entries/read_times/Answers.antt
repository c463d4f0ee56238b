use Rattle.std.proofs.Common.{[]}
use Rattle.std.proofs.lemmas.Result.{err_from_is_err_and}
use Rattle.card_record.specs.Reading.{times_of}
use Rattle.card_record.proofs.Loop.{ends, is_done}
use Rattle.box_state.specs.Kept.{entry_in}
use Rattle.state_image.specs.Images.{entry_at}
use Rattle.state_image.proofs.ItemsRead.{one_more, fails_next}
use Rattle.state_image.proofs.entries.read_times.Goals as goal

pub returns-in_err-entry-clause-entries : goal.returns-in_err-entry-clause-entries
returns-in_err-entry-clause-entries c =
    let p = err_from_is_err_and c.from_residual.result c.from_residual.ensures.1 in
    let start = c.args.mailbox.now.mailbox in
    let fails = fails_next _ _ _ _ _ _ c.loop.invariant.read c.in_err-entry.field-0.0 c.in_err-entry.ensures.entry in
    rw (p.1, p.2)
    (ends (entry_at start.now start.next_uid) c.args.count (times_of (entry_at start.now start.next_uid) [] c.args.count c.args.rest.now) c.in_err-entry.field-0.0
    c.loop.mailbox.mailbox.entries c.loop.counter c.loop.rest c.loop-test.true fails c.loop.invariant.read.reads)

pub loop-preserved : goal.loop-preserved
loop-preserved c = record {
  read =
      one_more _ _ _ _ _ _ c.loop.invariant.read c.put_back.new.self.mailbox (entry_in c.in_ok-entry.entry) c.read_entry.new.rest c.loop-test.true
      c.in_ok-entry.ensures.entry c.in_ok-put_back.ensures.mailbox;
  ready = c.in_ok-put_back.ensures.ready;
}

pub returns-clause-entries : goal.returns-clause-entries
returns-clause-entries c =
    let start = c.args.mailbox.now.mailbox in
    is_done (entry_at start.now start.next_uid) c.args.count (times_of (entry_at start.now start.next_uid) [] c.args.count c.args.rest.now)
    c.loop.mailbox.mailbox.entries c.loop.counter c.loop.rest c.loop-test.false c.loop.invariant.read.reads
