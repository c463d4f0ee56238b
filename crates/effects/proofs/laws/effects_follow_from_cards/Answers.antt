use Rattle.effects.proofs.Changes.{added, removed}
use Rattle.effects.proofs.Puts.{put_new}
use Rattle.effects.proofs.Standing.{uids_named}
use Rattle.effects.proofs.laws.effects_follow_from_cards.Goals as goal

pub returns-clause-on : goal.returns-clause-on
returns-clause-on c = uids_named

pub returns-clause-place : goal.returns-clause-place
returns-clause-place c = put_new

pub returns-clause-add : goal.returns-clause-add
returns-clause-add c = added

pub returns-clause-remove : goal.returns-clause-remove
returns-clause-remove c = removed
