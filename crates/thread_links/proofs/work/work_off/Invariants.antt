use Rattle.std.proofs.Common.{◌≡◌, true, List}
use Rattle.std.specs.List.{list_any}
use Rattle.std.specs.Ordering.{eq_by_cmp}
use Rattle.std.specs.BTreeSet.{contains}
use Rattle.card_type.specs.declared.spot.Spot.{Spot}
use Rattle.card_type.specs.Spots.{spot_cmp}
use Rattle.mailbox_model.specs.declared.links.Cites.{Cites}
use Rattle.thread_links.specs.Kept.{cites_in, without_chats}
use Rattle.thread_links.specs.Work.{IsBegun}
use Rattle.thread_links.proofs.Turns.{left}
use Rattle.thread_links.proofs.work.work_off.Given as goal

abbrev pub invariant-loop-spot : goal.invariant-loop-spot
invariant-loop-spot l = record {
  cites : without_chats l.kept.entries ≡ without_chats l.fn.kept.entries;
  there : (s : Spot) → contains spot_cmp l.work s ≡ true → list_any (λ t. eq_by_cmp spot_cmp s t.spot) (cites_in l.kept.entries) ≡ true;
  begun : (all before : List Cites) → IsBegun all before l.fn.kept.entries (contains spot_cmp l.fn.work) l.fn.told.items → IsBegun all before l.kept.entries (contains spot_cmp l.work) l.told.items;
}

abbrev pub decreases-loop-spot : goal.decreases-loop-spot
decreases-loop-spot l = left (cites_in l.fn.kept.entries) l.work.keys
