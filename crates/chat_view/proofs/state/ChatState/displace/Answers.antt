use Rattle.std.proofs.Common.{sym, ap, ◌∙◌, subst, is_ok, ◌∷◌, ◌++◌}
use Rattle.std.proofs.lemmas.Bool.{false≢true}
use Rattle.std.proofs.lemmas.Result.{on_ok_weaker}
use Rattle.card_type.specs.Spots.{spot_cmp}
use Rattle.card_type.proofs.Orders.{spots_total}
use Rattle.lists.proofs.Searches.{searched}
use Rattle.chat_view.specs.Standing.{IsMarkedFor, shown}
use Rattle.chat_view.proofs.Changed.{sorted_there, taken_marked, there, there_place}
use Rattle.chat_view.proofs.Told.{counted}
use Rattle.chat_view.proofs.state.ChatState.displace.Goals as goal

pub returns-in-Ok-clause-marked : goal.returns-in-Ok-clause-marked
returns-in-Ok-clause-marked c =
    on_ok_weaker c.remove.result (λ taken before after card mark few order is.
    let state = c.args.self.now in
    let spot = c.args.spot.now in
    let i = c.in-Ok.index in
    let within = c.in-Ok.ensures.bound in
    let found = c.in-Ok.ensures.position in
    let place = there_place before spot card mark after state is.spots order i within found in
    subst (IsMarkedFor (before ++ after)) (sym (taken (counted (before ++ shown spot card mark ∷ after) state is)))
    (taken_marked before spot card mark after state i place is))
    c.remove.ensures.taken

pub returns-in-Err-clause-marked : goal.returns-in-Err-clause-marked
returns-in-Err-clause-marked c before after card mark few order is =
    let state = c.args.self.now in
    let spot = c.args.spot.now in
    let range = c.binary_search.ensures.bound in
    let found = c.binary_search.ensures.position in
    let absent = sym (searched spot_cmp spots_total spot state.spots c.binary_search.result (sorted_there before spot card mark after state is.spots order) range found) ∙ ap is_ok c.in-Err.is in
    absurd (false≢true (sym absent ∙ there before spot card mark after state is.spots order))

pub returns-in-Ok-clause-absent : goal.returns-in-Ok-clause-absent
returns-in-Ok-clause-absent c =
    on_ok_weaker c.remove.result (λ _ sorted none.
    let spot = c.args.spot.now in
    let spots = c.args.self.now.spots in
    let range = c.binary_search.ensures.bound in
    let found = c.binary_search.ensures.position in
    let there = sym (searched spot_cmp spots_total spot spots c.binary_search.result sorted range found) ∙ ap is_ok c.in-Ok.is in
    absurd (false≢true (sym none ∙ there)))
    c.remove.ensures.taken
