use Rattle.std.proofs.Common.{◌-◌, ◌≤◌, length, take, drop}
use Rattle.mailbox_model.specs.ChatList.{dated_cmp}
use Rattle.chatlist.proofs.Kept.{dates_total}
use Rattle.chatlist.proofs.Searches.{All_before, None_before}
use Rattle.chatlist.proofs.order.Order.place_of.Given as goal

abbrev pub invariant-loop-start : goal.invariant-loop-start
invariant-loop-start l = record {
  rises : l.start ≤ l.end;
  within : l.end ≤ length l.self.chats;
  before : All_before dated_cmp dates_total (l.key, l.date) (take l.start l.self.chats);
  after : None_before dated_cmp dates_total (l.key, l.date) (drop l.end l.self.chats);
}

abbrev pub decreases-loop-start : goal.decreases-loop-start
decreases-loop-start l = l.end - l.start
