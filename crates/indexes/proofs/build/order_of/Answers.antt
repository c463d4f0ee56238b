use Rattle.std.proofs.Common.{sym, ap, ◌∙◌, [], ◌∷◌, map}
use Rattle.std.specs.FinMap as map_of
use Rattle.std.specs.Option.{option_map}
use Rattle.std.specs.Map.Iter.{deref_pair}
use Rattle.std.proofs.lemmas.List.{map-append}
use Rattle.std.proofs.lemmas.Map.Iter.{iter_end}
use Rattle.card_type.specs.Keys.{key_cmp}
use Rattle.chatlist.specs.Places.{with_place}
use Rattle.chat_view.specs.Standing.{last_date}
use Rattle.indexes.specs.Kept.{date_at}
use Rattle.indexes.proofs.OrderedDates.{dates_more, walk_rises}
use Rattle.indexes.proofs.build.order_of.Goals as goal

pub loop-key-init : goal.loop-key-init
loop-key-init c key = ap (λ order. date_at order key) c.new-order.ensures

pub loop-key-preserved : goal.loop-key-preserved
loop-key-preserved c =
    let before = map deref_pair c.loop-key.yielded in
    let date = c.last_date.ensures in
    let rises = walk_rises key_cmp c.args.chats.now c.into_iter-key-iterator.result c.loop-key.key-iterator c.next.new.self (c.into_iter-key-iterator.ensures.into_iter_gives ∙ c.iter-key-items.ensures.rest) c.loop-key.yielded c.loop-key.yielded_by c.next.result (c.in-Some.key, c.in-Some.state) c.in-Some.is c.next.ensures.steps in
    λ other.
    ap (λ order. date_at order other) (c.in_ok-set.ensures.ok ∙ ap (λ date. with_place c.in-Some.key.now date c.loop-key.order) date)
    ∙ dates_more before c.in-Some.key.now c.in-Some.state.now c.next.new.self c.loop-key.order rises c.loop-key.invariant other
    ∙ ap (λ states. option_map last_date (map_of.find key_cmp other states)) (sym (map-append deref_pair c.loop-key.yielded ((c.in-Some.key, c.in-Some.state) ∷ [])))

pub returns : goal.returns
returns c key =
    let all = (iter_end deref_pair (map_of.entries c.args.chats.now) c.loop-key.yielded c.into_iter-key-iterator.result c.loop-key.key-iterator c.next.new.self c.next.result (c.into_iter-key-iterator.ensures.into_iter_gives ∙ c.iter-key-items.ensures.rest) c.loop-key.yielded_by c.in-None.is c.next.ensures.steps).0 in
    c.loop-key.invariant key ∙ ap (λ states. option_map last_date (map_of.find key_cmp key states)) all
    ∙ ap (option_map last_date) (sym (map_of.get-entries c.args.chats.now key))
