use Rattle.std.proofs.Common.{List, ◌≡◌, ◌+◌, ◌∷◌, ◌++◌, ap, drop, map, sym, ◌∙◌}
use Rattle.std.specs.Prelude.{nat_lt, option_to_list, reverse, take_while}
use Rattle.std.specs.List.{list_any}
use Rattle.std.proofs.lemmas.List.{append-nil, drop_all, drop_more, take_rest}
use Rattle.chat_card.specs.Parts.{Part}
use Rattle.chat_card.specs.Views.{kept}
use Rattle.chat_card.specs.Shown.{forest, is_text}
use Rattle.chat_card.proofs.KeptLemmas.{kept-all, kept-more}
use Rattle.chat_card.proofs.WayLemmas.{kept-together}
use Rattle.chat_card.proofs.kept.kept_of.Goals as goal
use Rattle.chat_card.proofs.kept.kept_of.Goals.{in-Some+in_ok-push, in_default}

pub loop-i-preserved : goal.loop-i-preserved
loop-i-preserved c =
    let parts = c.args.parts.now in
    let at = c.loop-i.i in
    let p = c.index-parts-i.result in
    let pushed : c.match-own.found.items ≡ c.loop-i.found.items ++ option_to_list c.own.result =
    elim c.match-own.branch [
      | in-Some+in_ok-push w ↦ rw (w.found-is, w.in-Some.is) w.in_ok-push.ensures.items
      | in_default w ↦ rw (w.found-is, w.in_default.is) (sym (append-nil c.loop-i.found.items))
    ] in
    kept-more (reverse c.loop-i.parents.items) (reverse c.enter.new.parents.items) (drop at parts) (drop (at + 1) parts) p c.part.inside.node
    c.shows_text-below.result c.in_ok-whole.whole c.loop-i.found.items c.match-own.found.items c.own.result _
    (drop_more parts at p c.loop-i-test.true ∙ ap (λ (q : Part). q ∷ drop (at + 1) parts) (sym c.index-parts-i.is)) (ap (λ (q : Part). q.node) c.part.view_is)
    (c.shows_text-below.ensures ∙ ap (λ (qs : List Part). list_any (λ q. is_text q.node) (take_while (λ q. nat_lt c.part.inside.node.depth q.node.depth) qs)) (take_rest parts (at + 1))) c.in_ok-whole.ensures.whole c.in_ok-whole.ensures.parents c.own.ensures pushed c.loop-i.invariant

pub returns : goal.returns
returns c =
    kept-all (reverse c.loop-i.parents.items) (drop c.loop-i.i c.args.parts.now) (map kept c.loop-i.found.items) _ (drop_all c.loop-i.i c.args.parts.now c.loop-i-test.false)
    c.loop-i.invariant
    ∙ kept-together (forest c.args.parts.now)
