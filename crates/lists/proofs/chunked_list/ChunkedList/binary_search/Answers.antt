use Rattle.std.proofs.Common.{◌≡◌, ◌+◌, ◌-◌, ◌/◌, Some, sym, ap, ◌∙◌, arith}
use Rattle.std.specs.List.{slice_get}
use Rattle.std.specs.Option.{option_copied}
use Rattle.lists.specs.Chunks.{joined}
use Rattle.lists.proofs.ChunkSearch.{above, below, found}
use Rattle.lists.proofs.chunked_list.ChunkedList.binary_search.Goals as goal

pub loop-start-preserved-in-Less : goal.loop-start-preserved-in-Less
loop-start-preserved-in-Less g c =
    let values = c.args.self.now in
    let middle = c.loop-start.start + (c.loop-start.end - c.loop-start.start) / 2 in
    let kept = c.loop-start.invariant in
    let got : slice_get values middle ≡ Some c.unwrap.result.now =
    ap (λ xs. slice_get xs middle) (sym c.self.view_is ∙ ap joined (sym c.deref.ensures.value)) ∙ sym c.get.ensures ∙ ap option_copied c.unwrap.ensures in
    record {
      rises = omega (arith, c.loop-start-test.true);
      within = kept.within;
      before = below (λ x. g.T.Ord.cmp x c.args.value.now) values middle c.unwrap.result.now got (sym c.in-Less.ensures) (middle + 1) (omega arith);
      after = kept.after;
    }

pub returns-in-Equal-clause-position : goal.returns-in-Equal-clause-position
returns-in-Equal-clause-position g c =
    let values = c.args.self.now in
    let middle = c.loop-start.start + (c.loop-start.end - c.loop-start.start) / 2 in
    let got : slice_get values middle ≡ Some c.unwrap.result.now =
    ap (λ xs. slice_get xs middle) (sym c.self.view_is ∙ ap joined (sym c.deref.ensures.value)) ∙ sym c.get.ensures ∙ ap option_copied c.unwrap.ensures in
    found (λ x. g.T.Ord.cmp x c.args.value.now) values middle c.unwrap.result.now got (sym c.in-Equal.ensures)

pub loop-start-preserved : goal.loop-start-preserved
loop-start-preserved g c =
    let values = c.args.self.now in
    let middle = c.loop-start.start + (c.loop-start.end - c.loop-start.start) / 2 in
    let kept = c.loop-start.invariant in
    let got : slice_get values middle ≡ Some c.unwrap.result.now =
    ap (λ xs. slice_get xs middle) (sym c.self.view_is ∙ ap joined (sym c.deref.ensures.value)) ∙ sym c.get.ensures ∙ ap option_copied c.unwrap.ensures in
    record {
      rises = omega arith;
      within = omega (arith, kept.within, c.loop-start-test.true);
      before = kept.before;
      after = above (λ x. g.T.Ord.cmp x c.args.value.now) values middle c.unwrap.result.now got (sym c.in-Greater.ensures);
    }
