use Rattle.std.proofs.Common.{◌+◌, ◌∙◌, ap}
use Rattle.box_maker.specs.Draws.{drawn}
use Rattle.box_maker.specs.Forms.{form_of}
use Rattle.box_maker.proofs.DrawLaws.{draw_after, one_more}
use Rattle.box_maker.proofs.draws.draw_mail.Goals as goal

pub returns-clause-value : goal.returns-clause-value
unfolding drawn
returns-clause-value c =
    let g = c.args.generator.now in
    let two = one_more 1 g _ _ c.draw.ensures.rest c.draw-2.ensures.rest in
    let three = one_more 2 g _ _ two c.draw-3.ensures.rest in
    let four = one_more 3 g _ _ three c.draw-4.ensures.rest in
    let five = one_more 4 g _ _ four c.draw-5.ensures.rest in
    let six = one_more 5 g _ _ five c.draw-6.ensures.rest in
    let form = draw_after 1 10 _ g _ c.draw.ensures.rest c.draw-2.ensures.value in
    let target = draw_after 2 c.args.n _ g _ two c.draw-3.ensures.value in
    let group = draw_after 3 5 _ g _ three c.draw-4.ensures.value in
    let day = draw_after 4 28 _ g _ four c.draw-5.ensures.value in
    let hour = draw_after 5 24 _ g _ five c.draw-6.ensures.value in
    let minute = draw_after 6 60 _ g _ six c.draw-7.ensures.value in
    λ i. record {
      sender = c.draw.ensures.value i;
      form = (c.of.ensures ∙ ap form_of form) i;
      target = 1 + target i;
      group = group i;
      day = 1 + day i;
      hour = hour i;
      minute = minute i;
    }

pub returns-clause-rest : goal.returns-clause-rest
returns-clause-rest c =
    let g = c.args.generator.now in
    let two = one_more 1 g _ _ c.draw.ensures.rest c.draw-2.ensures.rest in
    let three = one_more 2 g _ _ two c.draw-3.ensures.rest in
    let four = one_more 3 g _ _ three c.draw-4.ensures.rest in
    let five = one_more 4 g _ _ four c.draw-5.ensures.rest in
    let six = one_more 5 g _ _ five c.draw-6.ensures.rest in
    one_more 6 g _ _ six c.draw-7.ensures.rest
