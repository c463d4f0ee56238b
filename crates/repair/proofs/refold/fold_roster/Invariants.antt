use Rattle.std.proofs.Common.{◌≤◌, ◌+◌, length, take}
use Rattle.lists.specs.Chunks.{joined}
use Rattle.group_roster.specs.Setters.{RestsOn}
use Rattle.repair.specs.Cards.{cards_at}
use Rattle.repair.proofs.refold.fold_roster.Given as goal

-- the roster and its setters rest on the cards at the spots of the chunks so far
abbrev pub invariant-loop-chunk : goal.invariant-loop-chunk
invariant-loop-chunk g l =
    record {
      rests : RestsOn l.view.me l.key (cards_at l.view (joined (take l.chunk-index l.chunks))) l.roster l.setters;
      read : l.steps ≤ l.fn.steps + length (joined (take l.chunk-index l.chunks));
    }
