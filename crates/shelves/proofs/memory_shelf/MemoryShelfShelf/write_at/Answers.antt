use Rattle.std.proofs.Common.{length}
use Rattle.shelves.specs.History.{written}
use Rattle.shelves.proofs.Went.{went_clock, went_write}
use Rattle.shelves.proofs.memory_shelf.MemoryShelfShelf.write_at.Goals as goal

pub returns-clause-crash : goal.returns-clause-crash
returns-clause-crash c = went_write c.args.place c.args.at c.args.bytes.now (length c.args.bytes.now) c.args.self.now.disk c.write.new.self c.requires c.write.ensures.went

pub returns-clause-clock : goal.returns-clause-clock
returns-clause-clock c = went_clock c.args.place (written c.args.at c.args.bytes.now) (length c.args.bytes.now) c.args.self.now.disk c.write.new.self c.write.ensures.went
