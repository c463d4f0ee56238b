use Rattle.std.proofs.Common.{refl}
use Rattle.std.specs.List.{IsDistinct}
use Rattle.std.specs.List.Sorted.{IsStrictlySortedBy}
use Rattle.chatlist.proofs.order.Order.new.Goals as goal

pub invariant_of-result : goal.invariant_of-result
unfolding IsStrictlySortedBy IsDistinct
invariant_of-result c = rw (c.new.ensures, c.new-2.ensures) (refl, tt, tt)
