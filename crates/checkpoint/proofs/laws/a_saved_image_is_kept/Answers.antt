use Rattle.checkpoint.proofs.Sizes.{saved_kept}
use Rattle.checkpoint.proofs.laws.a_saved_image_is_kept.Goals as goal

pub returns : goal.returns
returns c m p has = saved_kept m p has (c.each_mailbox_has_one_image.ensures.read m p has)
