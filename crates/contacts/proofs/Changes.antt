-- What stands for cards stands for one more, or for all but one.
use Rattle.std.proofs.Common.{◌≡◌, refl, sym, ap, ◌∙◌, ℕ, ◌+◌, ◌-◌, ◌^◌, ◌<◌, true, false, List, map, arith}
use Rattle.std.specs.Prelude.{if◌then◌else◌, filter}
use Rattle.std.specs.BTreeMap.{insert_entry, is_at}
use Rattle.std.specs.List.{sum_by}
use Rattle.std.specs.List.Sorted.{IsStrictlySortedBy}
use Rattle.std.specs.Map.{remove_entry}
use Rattle.std.specs.Ordering.{eq_by_cmp}
use Rattle.std.proofs.lemmas.Cmp.{eq_by_cmp_equiv}
use Rattle.lists.specs.Sorted.{insert_by}
use Rattle.lists.proofs.Inserts.{None_of, All-filter}
use Rattle.lists.proofs.OneMore.{sum_by-insert_by, insert_entry-map, remove_entry-map}
use Rattle.card_type.specs.Records.{capped}
use Rattle.card_type.specs.Spots.{spot_cmp}
use Rattle.card_type.proofs.Orders.{spots_total}
use Rattle.mailbox_model.specs.Contacts.{gives_name}
use Rattle.mailbox_model.specs.Lists.{Bytes}
use Rattle.mailbox_model.specs.Present.{Placed, Mail, spot, mail_cmp}
use Rattle.mailbox_model.specs.Turns.{with_mail}
use Rattle.mailbox_model.proofs.OneMail.{placed_cmp, cards_of, cards_with, IsNew, new_card, passing}
use Rattle.contacts.specs.Kept.{Kept, StandsFor, mentions_at, names_at, names_with, names_without, times_in, given_by}

module _ (addr : Bytes) (e : Placed) (es : List Placed) where
  all_mentions : sum_by (λ p. times_in p.card addr) (insert_by placed_cmp e es) ≡ times_in e.card addr + sum_by (λ p. times_in p.card addr) es
  all_mentions = sum_by-insert_by placed_cmp (λ p. times_in p.card addr) e es

  module _ (fresh : IsNew e es) where
    -- the others that give the address a name
    abbrev others : List Placed
    others = filter (λ p. gives_name addr p.card) es

    apart : None_of (eq_by_cmp placed_cmp e) others
    apart = All-filter (λ p. eq_by_cmp placed_cmp e p ≡ false) (λ p. gives_name addr p.card) es fresh.apart

    all_names : map given_by (filter (λ p. gives_name addr p.card) (insert_by placed_cmp e es)) ≡ (if gives_name addr e.card then map given_by (insert_by placed_cmp e others) else map given_by others)
    all_names =
        ap (map given_by) (passing (λ p. gives_name addr p.card) e es fresh)
        ∙ elim (gives_name addr e.card) as (λ b. map given_by (if b then insert_by placed_cmp e others else others) ≡ (if b then map given_by (insert_by placed_cmp e others) else map given_by others)) [
          | true ↦ refl
          | false ↦ refl
        ]

    names_with_one : names_with (spot e) e.card addr (map given_by others) ≡ map given_by (filter (λ p. gives_name addr p.card) (insert_by placed_cmp e es))
    names_with_one =
        elim (gives_name addr e.card) as (λ b. (if b then insert_entry spot_cmp (map given_by others) (spot e) e.card.from_name else map given_by others) ≡ (if b then map given_by (insert_by placed_cmp e others) else map given_by others)) [
          | true ↦ insert_entry-map placed_cmp spot_cmp spot (λ p. p.card.from_name) (λ x y. refl) e others apart
          | false ↦ refl
        ]
        ∙ sym all_names

    names_without_one : names_without (spot e) e.card addr (map given_by (filter (λ p. gives_name addr p.card) (insert_by placed_cmp e es))) ≡ map given_by others
    names_without_one =
        ap (names_without (spot e) e.card addr) all_names
        ∙ elim (gives_name addr e.card) as (λ b. (if b then remove_entry (is_at (spot_cmp (spot e))) (if b then map given_by (insert_by placed_cmp e others) else map given_by others) else (if b then map given_by (insert_by placed_cmp e others) else map given_by others)) ≡ map given_by others) [
          | true ↦ remove_entry-map placed_cmp spot_cmp spot (λ p. p.card.from_name) (λ x y. refl) e others ((eq_by_cmp_equiv spots_total).refl (spot e)) apart
          | false ↦ refl
        ]

-- below the greatest count no count is cut
uncapped : (m n : ℕ) → n < 2 ^ 64 - 1 → capped m ≡ capped n → m ≡ n
uncapped m n low same = grind (arith, low, same)

module _ (before after : Kept) (t : Mail) (ts : List Mail) (sorted : IsStrictlySortedBy mail_cmp (with_mail t ts)) where
  pub added : ((addr : Bytes) → sum_by (λ p. times_in p.card addr) (cards_of (with_mail t ts)) < 2 ^ 64 - 1)
      → StandsFor before (cards_of ts)
      → ((addr : Bytes) → capped (mentions_at after.mentions addr) ≡ capped (mentions_at before.mentions addr + times_in t.placed.card addr))
      → ((addr : Bytes) → names_at after.names addr ≡ names_with (spot t.placed) t.placed.card addr (names_at before.names addr))
      → StandsFor after (cards_of (with_mail t ts))
  added few stands mentions names = record { mentions = mentioned; names = named }
    where
      mentioned : (addr : Bytes) → mentions_at after.mentions addr ≡ sum_by (λ p. times_in p.card addr) (cards_of (with_mail t ts))
      mentioned addr =
          let all = ap (sum_by (λ p. times_in p.card addr)) (cards_with t ts) ∙ all_mentions addr t.placed (cards_of ts) in
          let one_more : mentions_at before.mentions addr + times_in t.placed.card addr ≡ sum_by (λ p. times_in p.card addr) (cards_of (with_mail t ts)) = omega (arith, all, stands.mentions addr) in
          uncapped (mentions_at after.mentions addr) (sum_by (λ p. times_in p.card addr) (cards_of (with_mail t ts))) (few addr) (mentions addr ∙ ap capped one_more)

      named : (addr : Bytes) → names_at after.names addr ≡ map given_by (filter (λ p. gives_name addr p.card) (cards_of (with_mail t ts)))
      named addr =
          names addr ∙ ap (names_with (spot t.placed) t.placed.card addr) (stands.names addr)
          ∙ names_with_one addr t.placed (cards_of ts) (new_card t ts sorted)
          ∙ ap (λ cards. map given_by (filter (λ p. gives_name addr p.card) cards)) (sym (cards_with t ts))

  pub removed : StandsFor before (cards_of (with_mail t ts))
      → ((addr : Bytes) → mentions_at after.mentions addr ≡ mentions_at before.mentions addr - times_in t.placed.card addr)
      → ((addr : Bytes) → names_at after.names addr ≡ names_without (spot t.placed) t.placed.card addr (names_at before.names addr))
      → StandsFor after (cards_of ts)
  removed stands mentions names = record { mentions = mentioned; names = named }
    where
      mentioned : (addr : Bytes) → mentions_at after.mentions addr ≡ sum_by (λ p. times_in p.card addr) (cards_of ts)
      mentioned addr =
          let all = ap (sum_by (λ p. times_in p.card addr)) (cards_with t ts) ∙ all_mentions addr t.placed (cards_of ts) in
          omega (arith, all, stands.mentions addr, mentions addr)

      named : (addr : Bytes) → names_at after.names addr ≡ map given_by (filter (λ p. gives_name addr p.card) (cards_of ts))
      named addr =
          names addr
          ∙ ap (names_without (spot t.placed) t.placed.card addr) (stands.names addr ∙ ap (λ cards. map given_by (filter (λ p. gives_name addr p.card) cards)) (cards_with t ts))
          ∙ names_without_one addr t.placed (cards_of ts) (new_card t ts sorted)
