use Rattle.std.proofs.Common.{◌≡◌, ◌+◌, ◌-◌, ◌<◌, None, Some, [], sym, ap, ◌∙◌, length, take, get_or, arith}
use Rattle.std.specs.Prelude.{option_map}
use Rattle.std.specs.Option.{option_or}
use Rattle.std.proofs.lemmas.List.{length-append}
use Rattle.lists.specs.Chunks.{joined}
use Rattle.lists.proofs.Joined.{chunk_at}
use Rattle.chat_view.specs.Changes.{last_shown}
use Rattle.chat_view.proofs.Told.{joined_up_to, last_shown_in, last_shown_within}
use Rattle.chat_view.proofs.changes.last_shown.Goals as goal

pub overflow_sub-start : goal.overflow_sub-start
overflow_sub-start c =
    let chunks = c.chunks-chunks.result.now in
    let n = c.loop-chunk.chunk in
    let below : n - 1 < length chunks = omega (arith, c.loop-chunk.invariant.within, c.loop-chunk-test.true) in
    let here = c.as_slice-values.ensures ∙ chunk_at chunks (n - 1) c.index-chunks-chunk.result below c.index-chunks-chunk.is in
    let lengths = ap length (joined_up_to chunks (n - 1) n (omega (arith, c.loop-chunk-test.true)) below) ∙ length-append (joined (take (n - 1) chunks)) (get_or chunks (n - 1) []) in
    let long = ap length here in
    omega (arith, c.loop-chunk.invariant.start, lengths, long)

pub overflow_add-result : goal.overflow_add-result
overflow_add-result c =
    let index = last_shown_within c.as_slice-values.result.now c.in-Some.index (sym c.in-Some.ensures) in
    omega (arith, c.loop-chunk.auto.start-fits, index)

pub returns-in-Some : goal.returns-in-Some
returns-in-Some c =
    let chunks = c.chunks-chunks.result.now in
    let n = c.loop-chunk.chunk in
    let next : n ≡ n - 1 + 1 = omega (arith, c.loop-chunk-test.true) in
    let below : n - 1 < length chunks = omega (arith, c.loop-chunk.invariant.within, c.loop-chunk-test.true) in
    let here = c.as_slice-values.ensures ∙ chunk_at chunks (n - 1) c.index-chunks-chunk.result below c.index-chunks-chunk.is in
    let lengths = ap length (joined_up_to chunks (n - 1) n next below) ∙ length-append (joined (take (n - 1) chunks)) (get_or chunks (n - 1) []) in
    let long = ap length here in
    let index : c.loop-chunk.start - length c.as_slice-values.result.now + c.in-Some.index ≡ length (joined (take (n - 1) chunks)) + c.in-Some.index =
    omega (arith, c.loop-chunk.invariant.start, lengths, long) in
    let last : last_shown (get_or chunks (n - 1) []) ≡ Some c.in-Some.index = ap last_shown (sym here) ∙ sym c.in-Some.ensures in
    ap Some index
    ∙ sym (c.loop-chunk.invariant.last ∙ last_shown_in chunks (n - 1) n next below
    ∙ ap (λ o. option_or (option_map (λ k. length (joined (take (n - 1) chunks)) + k) o) (last_shown (joined (take (n - 1) chunks)))) last)

pub loop-chunk-preserved : goal.loop-chunk-preserved
loop-chunk-preserved c =
    let chunks = c.chunks-chunks.result.now in
    let n = c.loop-chunk.chunk in
    let next : n ≡ n - 1 + 1 = omega (arith, c.loop-chunk-test.true) in
    let below : n - 1 < length chunks = omega (arith, c.loop-chunk.invariant.within, c.loop-chunk-test.true) in
    let here = c.as_slice-values.ensures ∙ chunk_at chunks (n - 1) c.index-chunks-chunk.result below c.index-chunks-chunk.is in
    let lengths = ap length (joined_up_to chunks (n - 1) n next below) ∙ length-append (joined (take (n - 1) chunks)) (get_or chunks (n - 1) []) in
    let long = ap length here in
    let none : last_shown (get_or chunks (n - 1) []) ≡ None = ap last_shown (sym here) ∙ sym c.last_shown_among.ensures ∙ c.in_default.is in
    record {
      within = omega (arith, below);
      start = omega (arith, c.loop-chunk.invariant.start, lengths, long);
      last = c.loop-chunk.invariant.last ∙ last_shown_in chunks (n - 1) n next below
          ∙ ap (λ o. option_or (option_map (λ k. length (joined (take (n - 1) chunks)) + k) o) (last_shown (joined (take (n - 1) chunks)))) none;
    }
