use Rattle.outside.proofs.Model.{uncut_stay}
use Rattle.outside.proofs.laws.synced_bytes_stay.Goals as goal

pub returns : goal.returns
returns c = record { stays = uncut_stay }
