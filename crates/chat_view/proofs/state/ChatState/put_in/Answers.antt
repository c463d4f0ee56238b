use Rattle.std.proofs.Common.{refl, sym, ap, ◌∙◌, subst, ◌<◌, ◌≤◌, not, ◌&&◌, ◌||◌, is_ok, Err, ◌∷◌, ◌++◌, length, arith, append-nil}
use Rattle.std.specs.List.{list_all}
use Rattle.std.specs.List.Sorted.{IsBinarySearchResult}
use Rattle.std.specs.Ordering.{is_lt}
use Rattle.std.proofs.lemmas.Result.{IfOk-weaker}
use Rattle.card_type.specs.Spots.{spot_cmp}
use Rattle.card_type.proofs.Orders.{spots_total}
use Rattle.group_roster.specs.Setters.{at, stays_with}
use Rattle.group_roster.proofs.Clauses.{both_clauses}
use Rattle.lists.proofs.Searches.{searched}
use Rattle.chat_view.specs.Changes.{AreFew}
use Rattle.chat_view.specs.Standing.{StandsFor, shown}
use Rattle.chat_view.proofs.Changed.{few_without, put_last, put_place, put_stands, on_ok_each}
use Rattle.chat_view.proofs.Placed.{all_below, none_ties, one_above}
use Rattle.chat_view.proofs.Told.{counted, marked_from}
use Rattle.chat_view.proofs.state.ChatState.put_in.Goals as goal

pub returns-in-Ok-clause-when : goal.returns-in-Ok-clause-when
returns-in-Ok-clause-when c sorted =
    let spots = c.args.self.now.spots in
    let spot = c.args.spot.now in
    let range = c.binary_search.ensures.bound in
    let found = c.binary_search.ensures.position in
    let there = sym (searched spot_cmp spots_total spot spots c.binary_search.result sorted range found) ∙ ap is_ok c.in-Ok.is in
    rw there refl

pub returns-then-index-len-clause-when : goal.returns-then-index-len-clause-when
returns-then-index-len-clause-when c =
    let state = c.args.self.now in
    let spot = c.args.spot.now in
    let stays = stays_with state.key state.roster state.setters (at spot c.args.card.now) in
    let i = c.in-Err.index in
    let within : i ≤ length state.spots = c.in-Err.ensures.bound in
    let found : IsBinarySearchResult (λ y. spot_cmp y spot) state.spots (Err i) = c.in-Err.ensures.position in
    let below : i < length state.spots = omega (arith, c.len.ensures, c.if-index-len.true) in
    IfOk-weaker c.put_among.result _ _ (λ taken is sorted.
    let none = none_ties spot_cmp spots_total spot state.spots sorted i within found in
    let above = one_above spot_cmp spots_total spot state.spots sorted i within found below in
    is ∙ sym (ap (λ b. not b && (list_all (λ other. is_lt (spot_cmp other spot)) state.spots || stays)) none ∙ ap (λ b. b || stays) above))
    c.put_among.ensures.when

pub returns-then-index-len-clause-taken : goal.returns-then-index-len-clause-taken
returns-then-index-len-clause-taken c =
    let state = c.args.self.now in
    let spot = c.args.spot.now in
    let card = c.args.card.now in
    let mark = c.args.mark in
    let me = c.args.me.now in
    let i = c.in-Err.index in
    let within : i ≤ length state.spots = c.in-Err.ensures.bound in
    let found : IsBinarySearchResult (λ y. spot_cmp y spot) state.spots (Err i) = c.in-Err.ensures.position in
    both_clauses c.put_among.result _ _ _ (λ taken when put yes before after few order is.
    let marked = marked_from me (before ++ after) state is in
    let place = put_place before spot card mark after state marked.spots order i within found in
    subst (StandsFor me (before ++ shown spot card mark ∷ after)) (sym (put yes (few_without before spot card mark after state marked few) (counted (before ++ after) state marked)))
    (put_stands before spot card mark after state i place me is order (sym when ∙ yes)))
    c.put_among.ensures.when c.put_among.ensures.taken

pub returns-else-index-len-clause-when : goal.returns-else-index-len-clause-when
returns-else-index-len-clause-when c =
    let state = c.args.self.now in
    let spot = c.args.spot.now in
    let stays = stays_with state.key state.roster state.setters (at spot c.args.card.now) in
    let i = c.in-Err.index in
    let within : i ≤ length state.spots = c.in-Err.ensures.bound in
    let found : IsBinarySearchResult (λ y. spot_cmp y spot) state.spots (Err i) = c.in-Err.ensures.position in
    let end : length state.spots ≤ i = omega (arith, c.len.ensures, c.if-index-len.false) in
    IfOk-weaker c.put_last.result _ _ (λ taken is sorted.
    let none = none_ties spot_cmp spots_total spot state.spots sorted i within found in
    let below = all_below spot_cmp spots_total spot state.spots sorted i within found end in
    is ∙ sym (ap (λ b. not b && (list_all (λ other. is_lt (spot_cmp other spot)) state.spots || stays)) none ∙ ap (λ b. b || stays) below))
    c.put_last.ensures.when

pub returns-else-index-len-clause-taken : goal.returns-else-index-len-clause-taken
returns-else-index-len-clause-taken c =
    let state = c.args.self.now in
    let spot = c.args.spot.now in
    let card = c.args.card.now in
    let mark = c.args.mark in
    let me = c.args.me.now in
    let i = c.in-Err.index in
    let within : i ≤ length state.spots = c.in-Err.ensures.bound in
    let found : IsBinarySearchResult (λ y. spot_cmp y spot) state.spots (Err i) = c.in-Err.ensures.position in
    let end : length state.spots ≤ i = omega (arith, c.len.ensures, c.if-index-len.false) in
    on_ok_each c.put_last.result (λ stands taken yes before after few order is.
    let spots = ap (λ t. t.spots) is in
    let place = put_place before spot card mark after state spots order i within found in
    let none = put_last before spot card mark after state spots order i place end in
    let all = ap (λ later. before ++ later) none ∙ append-nil before in
    subst (λ later. StandsFor me (before ++ shown spot card mark ∷ later) c.put_last.new.self) (sym none)
    (stands before (subst AreFew all few) (subst (λ cards. StandsFor me cards state) all is)))
    c.put_last.ensures.stands
