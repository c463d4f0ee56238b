use Rattle.std.proofs.Common.{rules, ◌≡◌, ◌-◌, ◌++◌, [], ◌∷◌, ap, ◌∙◌, set, length, vec_len, arith}
use Rattle.std.proofs.lemmas.Result.{on_ok_weaker}
use Rattle.lists.specs.Chunks.{joined}
use Rattle.lists.proofs.Joined.{chunk_at, push_last}
use Rattle.lists.proofs.chunks.push_to_last.Goals as goal

pub returns-clause-ok : goal.returns-clause-ok
returns-clause-ok g c =
    let chunks = c.args.chunks.now.items in
    let last = vec_len c.args.chunks.now - 1 in
    let len : vec_len c.args.chunks.now ≡ length chunks = search rules in
    let here = chunk_at chunks last c.unwrap.result.now (omega (arith, len, c.requires)) (rw c.unwrap.ensures at c.last_mut.ensures.value) in
    let ends = push_last chunks last c.args.value (omega (arith, len, c.requires)) in
    on_ok_weaker c.push.result (λ pushed. ap (λ xs. joined (set chunks last xs)) (pushed ∙ ap (λ xs. xs ++ c.args.value ∷ []) here) ∙ ends) c.push.ensures.ok
