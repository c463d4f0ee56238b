use Rattle.std.proofs.Common.{◌≡◌, ℕ, ◌+◌, [], ◌∷◌, length, Ok, ◌∙◌, ap, arith}
use Rattle.tail_journal.specs.Spelling.{old_group}
use Rattle.tail_journal.specs.Tails.{old_read_back}
use Rattle.tail_journal.proofs.OldGroups.{old_group_again}
use Rattle.tail_journal.proofs.laws.an_old_group_is_read.Goals as goal

pub returns : goal.returns
returns c batch is none =
    let size = length (old_group batch) in
    let end : 0 + size ≡ size = omega arith in
    old_group_again 0 batch is none ∙ ap (λ (k : ℕ). Ok (record { groups = old_read_back 0 batch ∷ []; count = batch.position.count; end = k })) end
