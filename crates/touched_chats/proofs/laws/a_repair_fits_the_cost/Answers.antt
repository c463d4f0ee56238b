use Rattle.touched_chats.proofs.Repairs.{settling_fits, folding_fits, draining_fits, change_fits}
use Rattle.touched_chats.proofs.TouchedKeys.{touched_key, touched_once, change_touches}
use Rattle.touched_chats.proofs.laws.a_repair_fits_the_cost.Goals as goal

pub returns-clause-key : goal.returns-clause-key
returns-clause-key c = touched_key

pub returns-clause-once : goal.returns-clause-once
returns-clause-once c = touched_once

pub returns-clause-held : goal.returns-clause-held
returns-clause-held c = change_touches

pub returns-clause-settling : goal.returns-clause-settling
returns-clause-settling c =
    λ m n turn ids held me k l is once suspects all. settling_fits m n turn me k l is held all ids once suspects

pub returns-clause-folding : goal.returns-clause-folding
returns-clause-folding c = folding_fits

pub returns-clause-draining : goal.returns-clause-draining
returns-clause-draining c =
    λ m n turn uids held me k l is once due all. draining_fits m n turn me k l is held all uids once due

pub returns-clause-change : goal.returns-clause-change
returns-clause-change c = λ m change ids keys uids k valid room. change_fits m change k valid room ids keys uids
