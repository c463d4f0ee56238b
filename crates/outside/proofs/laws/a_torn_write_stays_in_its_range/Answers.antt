use Rattle.outside.proofs.Bytewise.{torn_get}
use Rattle.outside.proofs.laws.a_torn_write_stays_in_its_range.Goals as goal

pub returns : goal.returns
returns c = record { stays = torn_get }
