-- The spots of the mails that have a card, as a mailbox keeps them.
use Rattle.std.specs.Prelude.{ℕ, ◌<◌, Bool, not, Option, Some, None, List, filter, if◌then◌else◌, nat_eq}
use Rattle.std.specs.Ordering.{nat_cmp, eq_by_cmp, then_cmp, on}
use Rattle.std.specs.declared.cmp.Ordering.{Ordering}
use Rattle.std.specs.Map.{lookup}
use Rattle.std.specs.Str.{bytes_eq}
use Rattle.lists.specs.Sorted.{insert_by}
use Rattle.lists.specs.Ordered.{Ordered, values_at, spare_at}
use Rattle.card_type.specs.declared.spot.Spot.{Spot}

-- spots by uid, how many more can be inserted there without memory, and the copies of each id
pub record SpotTable : Type 0 where
  pub by_uid : List (ℕ × Spot)
  pub spare : ℕ
  pub copies : List (List ℕ × Ordered (ℕ × ℕ))

abbrev pub spot_at : SpotTable → ℕ → Option Spot
spot_at table uid = lookup (nat_eq uid) table.by_uid

-- of each mail with an id its effective date and its uid, in mail order
abbrev pub copies_at : SpotTable → List ℕ → List (ℕ × ℕ)
copies_at table id = values_at table.copies id

-- a spot with this id can be inserted without memory
abbrev pub HasRoom : SpotTable → List ℕ → Type 0
HasRoom table id = (0 < table.spare) × (0 < spare_at table.copies id)

abbrev pub dated : Spot → ℕ × ℕ
dated spot = (spot.date, spot.uid)

-- mail order among copies of one id
abbrev pub dated_cmp : ℕ × ℕ → ℕ × ℕ → Ordering
dated_cmp = then_cmp (on (λ copy. copy.0) nat_cmp) (on (λ copy. copy.1) nat_cmp)

abbrev pub ties : ℕ × ℕ → ℕ × ℕ → Bool
ties = eq_by_cmp dated_cmp

-- the copies of an id once this spot comes in
abbrev pub copies_with : Spot → List ℕ → List (ℕ × ℕ) → List (ℕ × ℕ)
copies_with spot id copies = if bytes_eq spot.id id then insert_by dated_cmp (dated spot) copies else copies

-- the copies of an id once this spot, if it is one, leaves
abbrev pub copies_but : Option Spot → List ℕ → List (ℕ × ℕ) → List (ℕ × ℕ)
copies_but None id copies = copies
copies_but (Some spot) id copies =
    if bytes_eq spot.id id then filter (λ copy. not (ties (dated spot) copy)) copies else copies
