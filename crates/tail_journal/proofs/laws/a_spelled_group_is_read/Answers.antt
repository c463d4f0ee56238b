use Rattle.std.proofs.Common.{◌≡◌, ℕ, ◌+◌, [], ◌∷◌, length, Ok, ◌∙◌, ap, arith}
use Rattle.tail_journal.specs.Spelling.{group_spelled}
use Rattle.tail_journal.specs.Tails.{read_back}
use Rattle.tail_journal.proofs.SpellingLaws.{group_again}
use Rattle.tail_journal.proofs.laws.a_spelled_group_is_read.Goals as goal

pub returns : goal.returns
returns c batch is =
    let size = length (group_spelled batch) in
    let end : 0 + size ≡ size = omega arith in
    group_again 0 batch is ∙ ap (λ (k : ℕ). Ok (record { groups = read_back 0 batch ∷ []; count = batch.position.count; end = k })) end
