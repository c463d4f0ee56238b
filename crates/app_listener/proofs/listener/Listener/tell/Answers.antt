use Rattle.std.proofs.Common.{arith}
use Rattle.std.proofs.lemmas.List.Sums.{common_prefix_len-le}
use Rattle.app_listener.specs.Hearing.{is_origin}
use Rattle.app_listener.proofs.listener.Listener.tell.Goals as goal

pub overflow_cast-unmoved : goal.overflow_cast-unmoved
overflow_cast-unmoved g c =
    omega (arith, c.requires.bounded, c.count_unmoved-unmoved.ensures, (common_prefix_len-le is_origin c.as_slice.result.now c.args.rows.now).1)
