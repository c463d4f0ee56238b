use Rattle.std.proofs.Common.{false}
use Rattle.state_image.proofs.ImageLaws.{again_in, image_again, image_taken, image_once}
use Rattle.state_image.proofs.laws.each_mailbox_has_one_image.Goals as goal

pub returns-clause-read : goal.returns-clause-read
returns-clause-read c = image_again

pub returns-clause-spelled : goal.returns-clause-spelled
returns-clause-spelled c = image_taken

pub returns-clause-old : goal.returns-clause-old
returns-clause-old c = λ m p k untraced. again_in false m p k (record { is = k.position; traces = λ e. untraced })

pub returns-clause-once : goal.returns-clause-once
returns-clause-once c = image_once
