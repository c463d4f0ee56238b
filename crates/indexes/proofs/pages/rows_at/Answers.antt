use Rattle.std.proofs.Common.{◌≡◌, sym, ap, ◌∙◌, subst, ℕ, ◌+◌, ◌++◌, Some, take, arith}
use Rattle.std.specs.Prelude.{filter_map, sum_by}
use Rattle.std.specs.List.{AllByRecursion}
use Rattle.std.proofs.lemmas.List.{take_all}
use Rattle.std.proofs.lemmas.List.Elements.{filter_map-append}
use Rattle.card_type.specs.declared.spot.Spot.{Spot}
use Rattle.lists.specs.Chunks.{joined}
use Rattle.lists.proofs.ChunkSteps.{all_of, next, sum_next, sum_within}
use Rattle.indexes.specs.Costs.{times_named}
use Rattle.indexes.specs.Kept.{spot_at}
use Rattle.indexes.proofs.Paged.{row_there}
use Rattle.indexes.proofs.pages.rows_at.Goals as goal

pub add_rows-requires-clause-there : goal.add_rows-requires-clause-there
add_rows-requires-clause-there g c =
    let m = c.args.mailbox.now.mailbox in
    let chunks = c.chunks-chunks.result.now in
    let P : Spot → Type 0 = λ spot. spot_at m spot.uid ≡ Some spot in
    subst (AllByRecursion P) (sym c.as_slice.ensures)
    (all_of chunks c.loop-chunk.chunk-index c.chunk-item.result c.loop-chunk-test.true c.chunk-item.is P (subst (AllByRecursion P) (sym c.chunks-chunks.ensures) c.requires.there))

pub returns-in_err-add_rows-clause-cost : goal.returns-in_err-add_rows-clause-cost
returns-in_err-add_rows-clause-cost g c =
    let f : Spot → ℕ = λ spot. 1 + times_named c.args.mailbox.now.mailbox spot.id in
    let all = sum_within c.chunks-chunks.result.now c.loop-chunk.chunk-index c.chunk-item.result c.loop-chunk-test.true c.chunk-item.is f in
    omega (arith, c.loop-chunk.invariant.read, c.in_err-add_rows.ensures.cost, ap (sum_by f) c.as_slice.ensures, ap (sum_by f) c.chunks-chunks.ensures, all)

pub loop-chunk-preserved : goal.loop-chunk-preserved
loop-chunk-preserved g c =
    let m = c.args.mailbox.now.mailbox in
    let f : Spot → ℕ = λ spot. 1 + times_named m spot.id in
    let chunks = c.chunks-chunks.result.now in
    let i = c.loop-chunk.chunk-index in
    let before = joined (take i chunks) in
    let chunk = c.chunk-item.result in
    record {
      shown =
          c.in_ok-add_rows.ensures.rows ∙ ap (λ rows. rows ++ filter_map (row_there m) c.as_slice.result.now) c.loop-chunk.invariant.shown
          ∙ ap (λ spots. filter_map (row_there m) before ++ filter_map (row_there m) spots) c.as_slice.ensures
          ∙ sym (filter_map-append (row_there m) before chunk) ∙ ap (filter_map (row_there m)) (sym (next chunks i chunk c.loop-chunk-test.true c.chunk-item.is));
      read = omega (arith, c.loop-chunk.invariant.read, c.in_ok-add_rows.ensures.cost, ap (sum_by f) c.as_slice.ensures, sum_next chunks i chunk c.loop-chunk-test.true c.chunk-item.is f);
    }

pub returns-clause-rows : goal.returns-clause-rows
returns-clause-rows g c =
    c.loop-chunk.invariant.shown
    ∙ ap (λ chunks. filter_map (row_there c.args.mailbox.now.mailbox) (joined chunks)) (take_all c.loop-chunk.chunk-index c.chunks-chunks.result.now c.loop-chunk-test.false)
    ∙ ap (filter_map (row_there c.args.mailbox.now.mailbox)) c.chunks-chunks.ensures

pub returns-clause-cost : goal.returns-clause-cost
returns-clause-cost g c =
    let f : Spot → ℕ = λ spot. 1 + times_named c.args.mailbox.now.mailbox spot.id in
    omega (arith, c.loop-chunk.invariant.read, ap (λ chunks. sum_by f (joined chunks)) (take_all c.loop-chunk.chunk-index c.chunks-chunks.result.now c.loop-chunk-test.false), ap (sum_by f) c.chunks-chunks.ensures)
