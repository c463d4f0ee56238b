use Rattle.std.proofs.Common.{◌≤◌, ◌+◌, ◌++◌, List, take}
use Rattle.group_roster.specs.Setters.{At, RestsOn}
use Rattle.repair.specs.Cards.{cards_at}
use Rattle.repair.proofs.refold.add_spots.Given as goal

-- the cards at the spots so far are added
abbrev pub invariant-loop-spot : goal.invariant-loop-spot
invariant-loop-spot g l =
    record {
      rests : (cards : List At) → RestsOn l.view.me l.key cards l.fn.roster l.fn.setters
          → RestsOn l.view.me l.key (cards ++ cards_at l.view (take l.spot-index l.spots)) l.roster l.setters;
      read : l.steps ≤ l.fn.steps + l.spot-index;
    }
