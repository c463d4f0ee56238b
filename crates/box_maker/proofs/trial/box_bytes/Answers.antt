use Rattle.std.proofs.Common.{◌≡◌, rules, ◌∙◌, arith, flat_map, string_bytes}
use Rattle.std.specs.List.{range_with_len}
use Rattle.rand_pcg.specs.Lcg.{state_after}
use Rattle.box_maker.specs.Boxes.{mail_of, trial_box}
use Rattle.box_maker.specs.Draws.{after, seeded}
use Rattle.box_maker.proofs.BoxLaws.{mail_more, seven_more}
use Rattle.box_maker.proofs.trial.box_bytes.Goals as goal

pub loop-made-init : goal.loop-made-init
unfolding after seeded state_after
loop-made-init c = record {
  at = c.seed_from_u64-generator.ensures;
  so_far = search rules;
}

pub loop-made-preserved : goal.loop-made-preserved
loop-made-preserved c =
    let before = c.loop-made.invariant in
    let drawn = c.draw_mail-draws.ensures in
    record {
      at = seven_more c.loop-made.made _ _ _ before.at drawn.rest;
      so_far = mail_more c.args.number c.args.n c.loop-made.made c.as_str-me.result.now _ _ _ _ before.so_far before.at drawn.value c.in_ok-push_mail.ensures;
    }

pub returns : goal.returns
unfolding trial_box
returns c =
    let last : c.loop-made.made ≡ c.args.n = omega arith in
    let bytes : c.into_bytes.result.items ≡ string_bytes c.loop-made.text = search rules in
    bytes ∙ c.loop-made.invariant.so_far
    ∙ (λ i. flat_map (mail_of c.args.number c.args.n (c.as_str-me.ensures i)) (range_with_len 1 (last i)))
