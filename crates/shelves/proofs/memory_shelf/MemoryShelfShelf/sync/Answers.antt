use Rattle.shelves.specs.History.{synced_now}
use Rattle.shelves.proofs.Went.{went_clock, went_sync}
use Rattle.shelves.proofs.memory_shelf.MemoryShelfShelf.sync.Goals as goal

pub returns-clause-crash : goal.returns-clause-crash
returns-clause-crash c = went_sync c.args.place 0 c.args.self.now.disk c.sync.new.self c.sync.ensures.went

pub returns-clause-clock : goal.returns-clause-clock
returns-clause-clock c = went_clock c.args.place synced_now 0 c.args.self.now.disk c.sync.new.self c.sync.ensures.went
