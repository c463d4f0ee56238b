-- The cards of a mailbox, as contracts see them.
use Rattle.std.specs.Prelude.{ℕ, refl}
use Rattle.std.specs.Coded.{Coded, code_by, coded×, coded_ℕ}
use Rattle.std.specs.Ordering.{nat_cmp}
use Rattle.std.specs.FinMap.{FinMap, code}
use Rattle.card_type.specs.declared.card.Card.{Card}

-- cards by uid, and how many more can be inserted without memory
pub record Store : Type 0 where
  pub cards : FinMap nat_cmp Card
  pub spare : ℕ

-- how a proof tells two of them apart, where it can tell two cards apart
abbrev pub store_code : Coded Card → Coded Store
store_code card =
    code_by (FinMap nat_cmp Card × ℕ) (coded× (code coded_ℕ card) coded_ℕ) (λ store. (store.cards, store.spare))
    (λ p. record { cards = p.0; spare = p.1 }) (λ _. refl)
