use Rattle.std.proofs.Common.{sym, ap, ◌∙◌, subst, is_ok, ◌∷◌, ◌++◌}
use Rattle.std.proofs.lemmas.Bool.{false≢true}
use Rattle.std.proofs.lemmas.Result.{on_ok_weaker}
use Rattle.card_type.specs.Spots.{spot_cmp}
use Rattle.card_type.proofs.Orders.{spots_total}
use Rattle.lists.proofs.Searches.{searched}
use Rattle.chat_view.specs.Standing.{IsMarkedFor, shown}
use Rattle.chat_view.proofs.Changed.{few_without, in_order, not_there, put_marked, put_place}
use Rattle.chat_view.proofs.Told.{counted}
use Rattle.chat_view.proofs.state.ChatState.place.Goals as goal

pub returns-in-Err-clause-marked : goal.returns-in-Err-clause-marked
returns-in-Err-clause-marked c =
    on_ok_weaker c.insert.result (λ put before after card few order is.
    let state = c.args.self.now in
    let spot = c.args.spot.now in
    let mark = c.args.mark in
    let i = c.in-Err.index in
    let within = c.in-Err.ensures.bound in
    let found = c.in-Err.ensures.position in
    let place = put_place before spot card mark after state is.spots order i within found in
    subst (IsMarkedFor (before ++ shown spot card mark ∷ after)) (sym (put (few_without before spot card mark after state is few) (counted (before ++ after) state is)))
    (put_marked before spot card mark after state i place is))
    c.insert.ensures.put

pub returns-in-Ok-clause-marked : goal.returns-in-Ok-clause-marked
returns-in-Ok-clause-marked c before after card few order is =
    let state = c.args.self.now in
    let spot = c.args.spot.now in
    let mark = c.args.mark in
    let range = c.binary_search.ensures.bound in
    let found = c.binary_search.ensures.position in
    let there = sym (searched spot_cmp spots_total spot state.spots c.binary_search.result (in_order before spot card mark after state is.spots order) range found) ∙ ap is_ok c.in-Ok.is in
    absurd (false≢true (sym (not_there before spot card mark after state is.spots order) ∙ there))

pub returns-in-Err-clause-there : goal.returns-in-Err-clause-there
returns-in-Err-clause-there c =
    on_ok_weaker c.insert.result (λ _ sorted some.
    let spot = c.args.spot.now in
    let spots = c.args.self.now.spots in
    let range = c.binary_search.ensures.bound in
    let found = c.binary_search.ensures.position in
    let absent = sym (searched spot_cmp spots_total spot spots c.binary_search.result sorted range found) ∙ ap is_ok c.in-Err.is in
    absurd (false≢true (sym absent ∙ some)))
    c.insert.ensures.put
