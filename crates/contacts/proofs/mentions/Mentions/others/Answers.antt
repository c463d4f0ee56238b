use Rattle.std.proofs.Common.{◌≡◌, ◌∙◌, sym, ap, map, ◌∷◌, [], ◌++◌, ◌&&◌, not, nat_lt, subst}
use Rattle.std.proofs.lemmas.List.{map-append}
use Rattle.std.proofs.lemmas.Iterator.Consumers.{YieldsList-from_rest, YieldsList-end}
use Rattle.std.specs.List.Sorted.{IsStrictlySortedBy}
use Rattle.std.specs.Map.Iter.{deref_pair}
use Rattle.std.specs.Ordering.{nat_cmp}
use Rattle.std.specs.Cmp.Lexicographic.{slice_cmp}
use Rattle.std.specs.Str.{bytes_eq}
use Rattle.card_type.specs.Effects.{is_among}
use Rattle.contacts.specs.Kept.{mentions_at}
use Rattle.contacts.proofs.Pages.{mentioned_but, one_passes, none_passes, in_order, all_mentioned}
use Rattle.contacts.proofs.mentions.Mentions.others.Goals as goal

pub loop-addr-preserved-in_ok-push : goal.loop-addr-preserved-in_ok-push
loop-addr-preserved-in_ok-push c =
    let me = c.args.me.now in
    let before = map deref_pair c.loop-addr.yielded in
    c.in_ok-push.ensures.items ∙ (λ i. c.loop-addr.invariant i ++ c.in_ok-copy.ensures i ∷ [])
    ∙ sym (ap (mentioned_but me) (map-append deref_pair c.loop-addr.yielded ((c.in-Some.addr, c.in-Some.count) ∷ []))
    ∙ one_passes me before (c.in-Some.addr.now, c.in-Some.count.now) (sym c.is_other.ensures ∙ c.if-is_other.true))

pub loop-addr-preserved : goal.loop-addr-preserved
loop-addr-preserved c =
    let me = c.args.me.now in
    let before = map deref_pair c.loop-addr.yielded in
    c.loop-addr.invariant
    ∙ sym (ap (mentioned_but me) (map-append deref_pair c.loop-addr.yielded ((c.in-Some.addr, c.in-Some.count) ∷ []))
    ∙ none_passes me before (c.in-Some.addr.now, c.in-Some.count.now) (sym c.is_other.ensures ∙ c.if-is_other.false))

all : (c : goal.In-None) → c.loop-addr.addrs.items ≡ mentioned_but c.args.me.now c.self.inside.counts.entries
all c =
    let road = YieldsList-from_rest {shows = deref_pair} {s = c.into_iter-addr-iterator.result} c.self.inside.counts.entries c.into_iter-addr-iterator.ensures.into_iter_gives.0 in
    c.loop-addr.invariant ∙ ap (mentioned_but c.args.me.now) (YieldsList-end road c.loop-addr.yielded c.loop-addr.addr-iterator c.loop-addr.yielded_by c.next.result c.next.new.self c.in-None.is c.next.ensures.steps).0

pub returns-clause-order : goal.returns-clause-order
returns-clause-order c =
    subst (IsStrictlySortedBy (slice_cmp nat_cmp)) (sym (all c)) (in_order c.args.me.now c.self.inside.counts.entries c.into_iter-addr-iterator.ensures.into_iter_gives.5)

pub returns-clause-all : goal.returns-clause-all
returns-clause-all c addr =
    ap (λ addrs. is_among addrs addr) (all c)
    ∙ all_mentioned c.args.me.now c.self.inside.counts.entries addr c.into_iter-addr-iterator.ensures.into_iter_gives.5
    ∙ ap (λ counts. nat_lt 0 (mentions_at counts addr) && not (bytes_eq c.args.me.now addr)) c.self.view_is
