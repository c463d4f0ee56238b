use Rattle.std.proofs.Common.{◌≡◌, refl, sym, ap, ◌∙◌, subst, ◌<◌, ◌&&◌, is_ok, ◌∷◌, ◌++◌, length}
use Rattle.std.specs.Prelude.{nat_lt}
use Rattle.std.specs.List.{HoldsAt}
use Rattle.std.specs.declared.cmp.Ordering.TheVariants.{Equal}
use Rattle.card_type.specs.Spots.{spot_cmp}
use Rattle.card_type.proofs.Orders.{spots_total}
use Rattle.std.proofs.lemmas.Bool.{and_parts, ltb-true}
use Rattle.std.proofs.lemmas.Result.{IfOk-weaker}
use Rattle.group_roster.specs.Setters.{stays_without}
use Rattle.group_roster.proofs.Clauses.{both_clauses}
use Rattle.chat_view.specs.Standing.{StandsFor, shown}
use Rattle.chat_view.proofs.Changed.{taken_stands, there_place}
use Rattle.chat_view.proofs.Told.{counted, marked_from}
use Rattle.lists.proofs.Searches.{searched}
use Rattle.chat_view.proofs.state.ChatState.take_out.Goals as goal

pub returns-in-Err-clause-when : goal.returns-in-Err-clause-when
returns-in-Err-clause-when c sorted =
    let spots = c.args.self.now.spots in
    let spot = c.args.spot.now in
    let range = c.binary_search.ensures.bound in
    let found = c.binary_search.ensures.position in
    let absent = sym (searched spot_cmp spots_total spot spots c.binary_search.result sorted range found) ∙ ap is_ok c.in-Err.is in
    rw absent refl

pub returns-in-Ok-clause-when : goal.returns-in-Ok-clause-when
returns-in-Ok-clause-when c =
    let state = c.args.self.now in
    let spot = c.args.spot.now in
    let range = c.binary_search.ensures.bound in
    let found = c.binary_search.ensures.position in
    IfOk-weaker c.take_at.result _ _ (λ taken is sorted.
    let there = sym (searched spot_cmp spots_total spot state.spots c.binary_search.result sorted range found) ∙ ap is_ok c.in-Ok.is in
    is ∙ sym (ap (λ b. b && nat_lt 1 (length state.spots) && stays_without state.key state.setters spot) there))
    c.take_at.ensures.when

pub returns-in-Ok-clause-taken : goal.returns-in-Ok-clause-taken
returns-in-Ok-clause-taken c =
    let state = c.args.self.now in
    let spot = c.args.spot.now in
    let i = c.in-Ok.index in
    let within : i < length state.spots = c.in-Ok.ensures.bound in
    let found : HoldsAt (λ y. spot_cmp y spot ≡ Equal) state.spots i = c.in-Ok.ensures.position in
    both_clauses c.take_at.result _ _ _ (λ taken when out yes me before after card mark few order is.
    let marked = marked_from me (before ++ shown spot card mark ∷ after) state is in
    let place = there_place before spot card mark after state marked.spots order i within found in
    let parts = and_parts (nat_lt 1 (length state.spots)) (stays_without state.key state.setters spot) (sym when ∙ yes) in
    subst (StandsFor me (before ++ after)) (sym (out yes (counted (before ++ shown spot card mark ∷ after) state marked)))
    (taken_stands before spot card mark after state i place me is order (ltb-true 1 (length state.spots) parts.0) parts.1))
    c.take_at.ensures.when c.take_at.ensures.taken
