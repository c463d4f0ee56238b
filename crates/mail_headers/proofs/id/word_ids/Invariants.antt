use Rattle.std.proofs.Common.{◌≡◌, map, filter}
use Rattle.kit.specs.Ids.{is_id}
use Rattle.mail_headers.proofs.id.word_ids.Given as goal

abbrev pub invariant-loop-word : goal.invariant-loop-word
invariant-loop-word l = l.found.items ≡ filter is_id (map (λ word. word.now) l.yielded)
