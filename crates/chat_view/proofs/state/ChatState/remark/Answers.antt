use Rattle.std.proofs.Common.{sym, ap, ◌∙◌, subst, is_ok, ◌∷◌, ◌++◌}
use Rattle.std.proofs.lemmas.Bool.{false≢true}
use Rattle.std.proofs.lemmas.Result.{on_ok_weaker}
use Rattle.card_type.specs.Spots.{spot_cmp}
use Rattle.card_type.proofs.Orders.{spots_total}
use Rattle.lists.proofs.Searches.{searched}
use Rattle.chat_view.specs.Standing.{IsMarkedFor, StandsFor, shown}
use Rattle.chat_view.proofs.Changed.{few_with, has_mark, marked_stands, remarked, sorted_there, there, there_place}
use Rattle.chat_view.proofs.Told.{counted, marked_from}
use Rattle.chat_view.proofs.state.ChatState.remark.Goals as goal

pub returns-in-Ok-clause-stands : goal.returns-in-Ok-clause-stands
returns-in-Ok-clause-stands c =
    on_ok_weaker c.set_mark.result (λ set me before after card other few order is.
    let state = c.args.self.now in
    let spot = c.args.spot.now in
    let i = c.in-Ok.index in
    let within = c.in-Ok.ensures.bound in
    let found = c.in-Ok.ensures.position in
    let marked = marked_from me (before ++ shown spot card other ∷ after) state is in
    let place = there_place before spot card other after state marked.spots order i within found in
    subst (StandsFor me (before ++ shown spot card c.args.mark ∷ after)) (sym (set (has_mark (before ++ shown spot card other ∷ after) state marked i within) (few_with before spot card other after state marked few) (counted (before ++ shown spot card other ∷ after) state marked)))
    (marked_stands before spot card other after state i place me is c.args.mark))
    c.set_mark.ensures.marked

pub returns-in-Err-clause-stands : goal.returns-in-Err-clause-stands
returns-in-Err-clause-stands c me before after card other few order is =
    let state = c.args.self.now in
    let spot = c.args.spot.now in
    let range = c.binary_search.ensures.bound in
    let found = c.binary_search.ensures.position in
    let spots = ap (λ t. t.spots) is in
    let absent = sym (searched spot_cmp spots_total spot state.spots c.binary_search.result (sorted_there before spot card other after state spots order) range found) ∙ ap is_ok c.in-Err.is in
    absurd (false≢true (sym absent ∙ there before spot card other after state spots order))

pub returns-in-Ok-clause-marked : goal.returns-in-Ok-clause-marked
returns-in-Ok-clause-marked c =
    on_ok_weaker c.set_mark.result (λ set before after card other few order is.
    let state = c.args.self.now in
    let spot = c.args.spot.now in
    let i = c.in-Ok.index in
    let within = c.in-Ok.ensures.bound in
    let found = c.in-Ok.ensures.position in
    let place = there_place before spot card other after state is.spots order i within found in
    subst (IsMarkedFor (before ++ shown spot card c.args.mark ∷ after)) (sym (set (has_mark (before ++ shown spot card other ∷ after) state is i within) (few_with before spot card other after state is few) (counted (before ++ shown spot card other ∷ after) state is)))
    (remarked before spot card other after state i place c.args.mark is))
    c.set_mark.ensures.marked

pub returns-in-Err-clause-marked : goal.returns-in-Err-clause-marked
returns-in-Err-clause-marked c before after card other few order is =
    let state = c.args.self.now in
    let spot = c.args.spot.now in
    let range = c.binary_search.ensures.bound in
    let found = c.binary_search.ensures.position in
    let absent = sym (searched spot_cmp spots_total spot state.spots c.binary_search.result (sorted_there before spot card other after state is.spots order) range found) ∙ ap is_ok c.in-Err.is in
    absurd (false≢true (sym absent ∙ there before spot card other after state is.spots order))

pub returns-in-Ok-clause-absent : goal.returns-in-Ok-clause-absent
returns-in-Ok-clause-absent c =
    on_ok_weaker c.set_mark.result (λ _ sorted none.
    let spot = c.args.spot.now in
    let spots = c.args.self.now.spots in
    let range = c.binary_search.ensures.bound in
    let found = c.binary_search.ensures.position in
    let there = sym (searched spot_cmp spots_total spot spots c.binary_search.result sorted range found) ∙ ap is_ok c.in-Ok.is in
    absurd (false≢true (sym none ∙ there)))
    c.set_mark.ensures.marked
