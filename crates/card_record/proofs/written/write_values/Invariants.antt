use Rattle.std.proofs.Common.{◌≡◌, ◌++◌, take, flat_map}
use Rattle.card_record.proofs.written.write_values.Given as goal

-- the first values are appended
abbrev pub invariant-loop-value : goal.invariant-loop-value
invariant-loop-value g l = l.out.items ≡ l.fn.out.items ++ flat_map g.T.Written.spelled (take l.value-index l.values)
