use Rattle.std.proofs.Common.{◌≡◌, sym, ap, ◌∙◌, subst, ◌+◌, ◌++◌, [], length, take, true, arith}
use Rattle.std.specs.Prelude.{is_some}
use Rattle.std.specs.List.{AllByRecursion}
use Rattle.std.specs.Option.{option_map}
use Rattle.std.proofs.lemmas.List.{take_all}
use Rattle.std.proofs.lemmas.List.Elements.{filter_map-append}
use Rattle.card_type.specs.declared.spot.Spot.{Spot}
use Rattle.lists.specs.Chunks.{joined}
use Rattle.lists.proofs.ChunkSteps.{all_of, length_next, length_within, next}
use Rattle.group_roster.specs.Setters.{RestsOn, at}
use Rattle.group_roster.specs.Standing.{StandsFor}
use Rattle.mailbox_model.specs.Mailbox.{card_at}
use Rattle.repair.specs.Cards.{cards_at}
use Rattle.repair.proofs.refold.fold_roster.Goals as goal

pub loop-chunk-init : goal.loop-chunk-init
loop-chunk-init g c =
    record { rests = record { roster = subst (λ me. StandsFor me c.args.key.now [] c.in_ok-roster.roster) c.me.ensures.value c.in_ok-roster.ensures.stands; setters = c.new-setters.ensures }; read = omega arith }

pub add_spots-requires : goal.add_spots-requires
add_spots-requires g c =
    let P : Spot → Type 0 = λ s. is_some (card_at c.args.view.now s.uid) ≡ true in
    record { there = subst (AllByRecursion P) (sym c.as_slice.ensures) (all_of c.args.chunks.now c.loop-chunk.chunk-index c.chunk-item.result c.loop-chunk-test.true c.chunk-item.is P c.requires.there) }

pub returns-in_err-add_spots-clause-cost : goal.returns-in_err-add_spots-clause-cost
returns-in_err-add_spots-clause-cost g c =
    let all = length_within c.args.chunks.now c.loop-chunk.chunk-index c.chunk-item.result c.loop-chunk-test.true c.chunk-item.is in
    omega (arith, c.loop-chunk.invariant.read, c.add_spots.ensures.cost, ap length c.as_slice.ensures, all)

pub loop-chunk-preserved : goal.loop-chunk-preserved
loop-chunk-preserved g c =
    let n = c.args.view.now in
    let chunks = c.args.chunks.now in
    let i = c.loop-chunk.chunk-index in
    let chunk = c.chunk-item.result in
    let before = joined (take i chunks) in
    let cards : cards_at n before ++ cards_at n c.as_slice.result.now ≡ cards_at n (joined (take (i + 1) chunks)) =
    ap (λ spots. cards_at n before ++ cards_at n spots) c.as_slice.ensures
    ∙ sym (filter_map-append (λ s. option_map (at s) (card_at n s.uid)) before chunk) ∙ ap (cards_at n) (sym (next chunks i chunk c.loop-chunk-test.true c.chunk-item.is)) in
    record {
      rests = subst (λ cards. RestsOn n.me c.args.key.now cards c.add_spots.new.roster c.add_spots.new.setters) cards (c.in_ok-add_spots.ensures.rests (cards_at n before) c.loop-chunk.invariant.rests);
      read = omega (arith, c.loop-chunk.invariant.read, c.add_spots.ensures.cost, ap length c.as_slice.ensures, length_next chunks i chunk c.loop-chunk-test.true c.chunk-item.is);
    }

pub returns-clause-rests : goal.returns-clause-rests
returns-clause-rests g c =
    subst (λ chunks. RestsOn c.args.view.now.me c.args.key.now (cards_at c.args.view.now (joined chunks)) c.loop-chunk.roster c.loop-chunk.setters)
    (take_all c.loop-chunk.chunk-index c.args.chunks.now c.loop-chunk-test.false) c.loop-chunk.invariant.rests

pub returns-clause-cost : goal.returns-clause-cost
returns-clause-cost g c =
    omega (arith, c.loop-chunk.invariant.read, ap (λ chunks. length (joined chunks)) (take_all c.loop-chunk.chunk-index c.args.chunks.now c.loop-chunk-test.false))
