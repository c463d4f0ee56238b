-- The page of contacts is that of the rule.
use Rattle.std.proofs.Common.{◌≡◌, refl, sym, ap, ◌∙◌, not, ◌&&◌, nat_lt, List, [], ◌∷◌, map, arith}
use Rattle.std.specs.Prelude.{unwrap_or}
use Rattle.std.specs.List.{AllByRecursion, sum_by}
use Rattle.std.specs.List.Sorted.{IsStrictlySortedBy}
use Rattle.std.specs.Ordering.{nat_cmp}
use Rattle.std.specs.Cmp.Lexicographic.{slice_cmp}
use Rattle.std.specs.Str.{bytes_eq}
use Rattle.std.proofs.lemmas.List.Sums.{sum_by-cons}
use Rattle.card_type.specs.declared.card.Card.{Card}
use Rattle.card_type.specs.Effects.{is_among}
use Rattle.mailbox_model.specs.declared.contact.ContactRow.{ContactRow}
use Rattle.mailbox_model.specs.Lists.{Bytes}
use Rattle.mailbox_model.specs.Present.{Placed}
use Rattle.mailbox_model.specs.Contacts.{addresses, name_among, contacts_by}
use Rattle.contacts.specs.Kept.{Kept, StandsFor, mentions_at, shown_name, times_in}
use Rattle.contacts.proofs.Sorts.{addresses_rise, among_addresses, one_list}
use Rattle.contacts.proofs.Standing.{last_name_is}

sum_cards : (q : Bytes) (ps : List Placed) → sum_by (λ p. times_in p.card q) ps ≡ sum_by (λ card. times_in card q) (map (λ p. p.card) ps)
sum_cards q [] = refl
sum_cards q (p ∷ ps) =
    let placed = sum_by-cons (λ (o : Placed). times_in o.card q) p ps in
    let plain = sum_by-cons (λ card. times_in card q) p.card (map (λ o. o.card) ps) in
    let rest = sum_cards q ps in
    omega (arith, placed, plain, rest)

module _ (kept : Kept) (ps : List Placed) (stands : StandsFor kept ps) where
  abbrev cards : List Card
  cards = map (λ p. p.card) ps

  shown : (addr : Bytes) → shown_name kept addr ≡ name_among cards addr
  shown addr = ap (λ name. unwrap_or name addr) (last_name_is kept ps addr stands)

  rows_are : (rows : List ContactRow) → AllByRecursion (λ row. row.name ≡ shown_name kept row.addr) rows
      → rows ≡ map (λ addr. record { addr = addr; name = name_among cards addr }) (map (λ row. row.addr) rows)
  rows_are [] a = refl
  rows_are (row ∷ rows) a = λ i. record { addr = row.addr; name = (a.0 ∙ shown row.addr) i } ∷ rows_are rows a.1 i

  pub page_is : (me : Bytes) (rows : List ContactRow) → IsStrictlySortedBy (slice_cmp nat_cmp) (map (λ row. row.addr) rows)
      → ((addr : Bytes) → is_among (map (λ row. row.addr) rows) addr ≡ (nat_lt 0 (mentions_at kept.mentions addr) && not (bytes_eq me addr)))
      → AllByRecursion (λ row. row.name ≡ shown_name kept row.addr) rows
      → rows ≡ contacts_by me cards
  page_is me rows order all names =
      let addrs = map (λ row. row.addr) rows in
      let same = one_list addrs (addresses me cards) order (addresses_rise me cards) (λ q.
      all q ∙ ap (λ n. nat_lt 0 n && not (bytes_eq me q)) (stands.mentions q ∙ sum_cards q ps) ∙ sym (among_addresses me q cards)) in
      rows_are rows names ∙ ap (map (λ addr. record { addr = addr; name = name_among cards addr })) same
