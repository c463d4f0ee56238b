-- One mail that comes in among others in mail order, or leaves them, and the cards of both.
use Rattle.std.proofs.Common.{◌≡◌, refl, subst, Bool, false, List, [], ◌∷◌, ◌++◌, map}
use Rattle.std.specs.Prelude.{if◌then◌else◌, filter}
use Rattle.std.specs.List.{list_any, IsDistinct}
use Rattle.std.specs.List.Sorted.{IsStrictlySortedBy}
use Rattle.std.specs.declared.cmp.Ordering.{Ordering}
use Rattle.std.specs.declared.cmp.Ordering.TheVariants.{Less}
use Rattle.std.specs.Ordering.{eq_by_cmp, on}
use Rattle.std.specs.Cmp.{IsTotalOrder}
use Rattle.std.proofs.lemmas.Cmp.{on_total}
use Rattle.lists.specs.Sorted.{insert_by}
use Rattle.lists.proofs.Inserts.{None_of}
use Rattle.lists.proofs.OneMore.{none_among, All-map, none_alike, map-insert_by, sorted_left, none_ties, filter-insert_by, put_last, sorted_last, distinct_last}
use Rattle.card_type.specs.Spots.{spot_cmp}
use Rattle.card_type.proofs.Orders.{spots_total}
use Rattle.mailbox_model.specs.Present.{Placed, Mail, spot, mail_cmp, same_id}
use Rattle.mailbox_model.specs.Turns.{with_mail}
use Rattle.mailbox_model.proofs.MailLaws.{order, is_alike}

-- ---- one that all before it precede

pub last_mail : (before after : List Mail) (t : Mail) → IsStrictlySortedBy mail_cmp (before ++ t ∷ after)
    → with_mail t before ≡ before ++ t ∷ []
last_mail before after t = put_last mail_cmp order before t after

pub last_in_order : (before after : List Mail) (t : Mail) → IsStrictlySortedBy mail_cmp (before ++ t ∷ after)
    → IsStrictlySortedBy mail_cmp (with_mail t before)
last_in_order before after t = sorted_last mail_cmp order before t after

pub last_once : (before after : List Mail) (t : Mail) → IsStrictlySortedBy mail_cmp (before ++ t ∷ after)
    → IsDistinct same_id (before ++ t ∷ after) → IsDistinct same_id (with_mail t before)
last_once before after t = distinct_last mail_cmp order same_id before t after

-- ---- the others

pub others_in_order : (t : Mail) (ts : List Mail) → IsStrictlySortedBy mail_cmp (with_mail t ts) → IsStrictlySortedBy mail_cmp ts
others_in_order t ts = sorted_left mail_cmp order t ts

pub other_spots : (t : Mail) (ts : List Mail) → IsStrictlySortedBy mail_cmp (with_mail t ts)
    → list_any (eq_by_cmp mail_cmp t) ts ≡ false
other_spots t ts sorted = none_among (eq_by_cmp mail_cmp t) ts (none_ties mail_cmp order t ts sorted)

pub other_ids : (t : Mail) (ts : List Mail) → IsDistinct same_id (with_mail t ts) → list_any (same_id t) ts ≡ false
other_ids t ts once = none_among (same_id t) ts (none_alike mail_cmp same_id is_alike.turn t ts once)

-- ---- their cards

abbrev pub placed_cmp : Placed → Placed → Ordering
placed_cmp = on spot spot_cmp

placed_order : IsTotalOrder placed_cmp
placed_order = on_total spot spots_total

abbrev pub cards_of : List Mail → List Placed
cards_of ts = map (λ t. t.placed) ts

pub cards_with : (t : Mail) (ts : List Mail) → cards_of (with_mail t ts) ≡ insert_by placed_cmp t.placed (cards_of ts)
cards_with t ts = map-insert_by mail_cmp (λ u. u.placed) placed_cmp (λ x y. refl) t ts

cards_in_order : (ts : List Mail) → IsStrictlySortedBy mail_cmp ts → IsStrictlySortedBy placed_cmp (cards_of ts)
unfolding IsStrictlySortedBy
cards_in_order [] sorted = tt
cards_in_order (t ∷ ts) sorted =
    (All-map (λ p. placed_cmp t.placed p ≡ Less) (λ u. u.placed) ts sorted.0, cards_in_order ts sorted.1)

-- a card may be put among others in mail order, and is not there
pub record IsNew (e : Placed) (es : List Placed) : Type 0 where
  pub order : IsStrictlySortedBy placed_cmp es
  pub apart : None_of (eq_by_cmp placed_cmp e) es

pub new_card : (t : Mail) (ts : List Mail) → IsStrictlySortedBy mail_cmp (with_mail t ts) → IsNew t.placed (cards_of ts)
new_card t ts sorted =
    let cards = subst (IsStrictlySortedBy placed_cmp) (cards_with t ts) (cards_in_order (with_mail t ts) sorted) in
    record {
      order = sorted_left placed_cmp placed_order t.placed (cards_of ts) cards;
      apart = none_ties placed_cmp placed_order t.placed (cards_of ts) cards;
    }

-- those that pass a test, with it and without it
pub passing : (p : Placed → Bool) (e : Placed) (es : List Placed) → IsNew e es
    → filter p (insert_by placed_cmp e es) ≡ (if p e then insert_by placed_cmp e (filter p es) else filter p es)
passing p e es new = filter-insert_by placed_cmp placed_order p e es new.order
