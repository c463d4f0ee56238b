use Rattle.std.proofs.Common.{◌≡◌, ◌∙◌, sym, ap, ◌&&◌, not, nat_lt, map, map-id, subst, rules}
use Rattle.std.proofs.lemmas.Iterator.Adapters.{YieldsList-from_vec}
use Rattle.std.proofs.lemmas.Iterator.Consumers.{YieldsList-end}
use Rattle.std.specs.List.{AllByRecursion}
use Rattle.std.specs.List.Sorted.{IsStrictlySortedBy}
use Rattle.std.specs.Ordering.{nat_cmp}
use Rattle.std.specs.Cmp.Lexicographic.{slice_cmp}
use Rattle.std.specs.Str.{bytes_eq}
use Rattle.card_type.specs.Effects.{is_among}
use Rattle.contacts.specs.Kept.{mentions_at, shown_name, contact_row}
use Rattle.contacts.proofs.Pages.{addrs_of, names_are}
use Rattle.contacts.proofs.contacts.Contacts.page.Goals as goal

made : (c : goal.After-drop-addr-iterator-2) → c.loop-addr.rows.items ≡ map (contact_row c.args.self.now) c.in_ok-addrs.addrs.items
made c =
    let road = YieldsList-from_vec {s = c.into_iter-addr-iterator.result} c.in_ok-addrs.addrs.items c.into_iter-addr-iterator.ensures.into_iter_gives.0 (search rules) in
    let all = (YieldsList-end road c.loop-addr.yielded c.loop-addr.addr-iterator c.loop-addr.yielded_by c.next.result c.next.new.self c.in-None.is c.next.ensures.steps).0 in
    c.loop-addr.invariant ∙ ap (map (contact_row c.args.self.now)) (sym (map-id c.loop-addr.yielded) ∙ all)

addrs : (c : goal.After-drop-addr-iterator-2) → map (λ row. row.addr) c.loop-addr.rows.items ≡ c.in_ok-addrs.addrs.items
addrs c = ap (map (λ row. row.addr)) (made c) ∙ addrs_of c.args.self.now c.in_ok-addrs.addrs.items

pub returns-clause-order : goal.returns-clause-order
returns-clause-order c = subst (IsStrictlySortedBy (slice_cmp nat_cmp)) (sym (addrs c)) c.in_ok-addrs.ensures.order

pub returns-clause-all : goal.returns-clause-all
returns-clause-all c addr = ap (λ others. is_among others addr) (addrs c) ∙ c.in_ok-addrs.ensures.all addr ∙ ap (λ kept. nat_lt 0 (mentions_at kept.mentions addr) && not (bytes_eq c.args.me.now addr)) c.self.view_is

pub returns-clause-names : goal.returns-clause-names
returns-clause-names c =
    subst (AllByRecursion (λ row. row.name ≡ shown_name c.args.self.now row.addr)) (sym (made c)) (names_are c.args.self.now c.in_ok-addrs.addrs.items)
