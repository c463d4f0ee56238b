use Rattle.state_image.proofs.ChangeLaws.{change_again, change_taken, change_once}
use Rattle.state_image.proofs.laws.each_change_has_one_spelling.Goals as goal

pub returns-clause-read : goal.returns-clause-read
returns-clause-read c = change_again

pub returns-clause-spelled : goal.returns-clause-spelled
returns-clause-spelled c = change_taken

pub returns-clause-once : goal.returns-clause-once
returns-clause-once c = change_once
