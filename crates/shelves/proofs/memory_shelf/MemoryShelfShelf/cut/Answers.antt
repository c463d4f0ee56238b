use Rattle.shelves.specs.History.{cut_to}
use Rattle.shelves.proofs.Went.{went_clock, went_cut}
use Rattle.shelves.proofs.memory_shelf.MemoryShelfShelf.cut.Goals as goal

pub returns-clause-crash : goal.returns-clause-crash
returns-clause-crash c = went_cut c.args.place c.args.size 0 c.args.self.now.disk c.cut.new.self c.requires c.cut.ensures.went

pub returns-clause-clock : goal.returns-clause-clock
returns-clause-clock c = went_clock c.args.place (cut_to c.args.size) 0 c.args.self.now.disk c.cut.new.self c.cut.ensures.went
