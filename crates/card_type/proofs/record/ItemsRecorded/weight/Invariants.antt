use Rattle.std.proofs.Common.{◌≡◌, ◌+◌, length, drop}
use Rattle.std.specs.List.{flat_map, list_all}
use Rattle.card_type.specs.Records.{list, capped}
use Rattle.card_type.proofs.record.ItemsRecorded.weight.Given as goal

-- the values that are left make up the weight, and decide on the rule
abbrev pub invariant-loop-value : goal.invariant-loop-value
invariant-loop-value g l =
    let spelled = g.T.Recorded.spelled in
    let rule = g.T.Recorded.rule in
    let left = drop l.value-index l.value-items in
    record {
      number : capped l.total ≡ l.total;
      weight : capped (l.total + length (flat_map spelled left)) ≡ capped (length (list spelled l.value-items));
      rule : list_all rule left ≡ list_all rule l.value-items;
    }
