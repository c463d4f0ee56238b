use Rattle.std.proofs.Common.{◌≡◌, ◌*◌, flat_map, string_bytes}
use Rattle.std.specs.List.{range_with_len}
use Rattle.box_maker.specs.Boxes.{mail_of}
use Rattle.box_maker.specs.Draws.{after, seeded}
use Rattle.box_maker.proofs.trial.box_bytes.Given as goal

abbrev pub invariant-loop-made : goal.invariant-loop-made
invariant-loop-made l = record {
  at : l.generator ≡ after (7 * l.made) (seeded l.number);
  so_far : string_bytes l.text ≡ flat_map (mail_of l.number l.n l.me) (range_with_len 1 l.made);
}
