-- What stands for cards stands for one more, or for all but one.
use Rattle.std.proofs.Common.{◌≡◌, refl, sym, ap, ◌∙◌, true, false, List, map}
use Rattle.std.specs.Prelude.{if◌then◌else◌}
use Rattle.std.specs.List.Sorted.{IsStrictlySortedBy}
use Rattle.std.proofs.lemmas.Cmp.{eq_by_cmp_equiv}
use Rattle.lists.specs.Sorted.{insert_by}
use Rattle.lists.proofs.Inserts.{None_of, All-filter}
use Rattle.lists.proofs.OneMore.{none_among, All-map, map-insert_by, filter-taken}
use Rattle.card_type.specs.declared.spot.Spot.{Spot}
use Rattle.card_type.specs.Effects.{is_among, names}
use Rattle.card_type.specs.Spots.{spot_cmp}
use Rattle.card_type.proofs.Orders.{spots_total}
use Rattle.mailbox_model.specs.Lists.{Bytes}
use Rattle.mailbox_model.specs.Present.{Placed, Mail, spot, mail_cmp}
use Rattle.mailbox_model.specs.Rows.{naming}
use Rattle.mailbox_model.specs.Turns.{with_mail}
use Rattle.mailbox_model.proofs.OneMail.{placed_cmp, cards_of, cards_with, IsNew, new_card, passing}
use Rattle.effects.specs.Named.{StandsFor, named, same_spot, put_once, without_spot, named_with, named_without}
use Rattle.effects.proofs.Puts.{put_new}

module _ (e : Placed) (es : List Placed) (fresh : IsNew e es) (id : Bytes) where
  -- the spots of the others that name an id
  abbrev others : List Spot
  others = map spot (naming id es)

  absent : None_of (same_spot (spot e)) others
  absent =
      All-map (λ s. same_spot (spot e) s ≡ false) spot (naming id es)
      (All-filter (λ p. same_spot (spot e) (spot p) ≡ false) (λ p. is_among (names p.card) id) es fresh.apart)

  all_spots : map spot (naming id (insert_by placed_cmp e es)) ≡ (if is_among (names e.card) id then insert_by spot_cmp (spot e) others else others)
  all_spots =
      ap (map spot) (passing (λ p. is_among (names p.card) id) e es fresh)
      ∙ elim (is_among (names e.card) id) as (λ b. map spot (if b then insert_by placed_cmp e (naming id es) else naming id es) ≡ (if b then insert_by spot_cmp (spot e) others else others)) [
        | true ↦ map-insert_by placed_cmp spot spot_cmp (λ x y. refl) e (naming id es)
        | false ↦ refl
      ]

  with_one : named_with (spot e) e.card id others ≡ map spot (naming id (insert_by placed_cmp e es))
  with_one =
      elim (is_among (names e.card) id) as (λ b. (if b then put_once (spot e) others else others) ≡ (if b then insert_by spot_cmp (spot e) others else others)) [
        | true ↦ put_new (spot e) others (none_among (same_spot (spot e)) others absent)
        | false ↦ refl
      ]
      ∙ sym all_spots

  without_one : named_without (spot e) e.card id (map spot (naming id (insert_by placed_cmp e es))) ≡ others
  without_one =
      ap (named_without (spot e) e.card id) all_spots
      ∙ elim (is_among (names e.card) id) as (λ b. (if b then without_spot (spot e) (if b then insert_by spot_cmp (spot e) others else others) else (if b then insert_by spot_cmp (spot e) others else others)) ≡ others) [
        | true ↦ filter-taken spot_cmp (same_spot (spot e)) (spot e) others ((eq_by_cmp_equiv spots_total).refl (spot e)) absent
        | false ↦ refl
      ]

pub added : (before after : List (Bytes × List Spot)) (t : Mail) (ts : List Mail) → IsStrictlySortedBy mail_cmp (with_mail t ts)
    → StandsFor before (cards_of ts)
    → ((id : Bytes) → named after id ≡ named_with (spot t.placed) t.placed.card id (named before id))
    → StandsFor after (cards_of (with_mail t ts))
added before after t ts sorted stands is id =
    is id ∙ ap (named_with (spot t.placed) t.placed.card id) (stands id)
    ∙ with_one t.placed (cards_of ts) (new_card t ts sorted) id
    ∙ ap (λ cards. map spot (naming id cards)) (sym (cards_with t ts))

pub removed : (before after : List (Bytes × List Spot)) (t : Mail) (ts : List Mail) → IsStrictlySortedBy mail_cmp (with_mail t ts)
    → StandsFor before (cards_of (with_mail t ts))
    → ((id : Bytes) → named after id ≡ named_without (spot t.placed) t.placed.card id (named before id))
    → StandsFor after (cards_of ts)
removed before after t ts sorted stands is id =
    is id
    ∙ ap (named_without (spot t.placed) t.placed.card id) (stands id ∙ ap (λ cards. map spot (naming id cards)) (cards_with t ts))
    ∙ without_one t.placed (cards_of ts) (new_card t ts sorted) id
