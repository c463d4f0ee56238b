-- The page of contacts, from what is kept of them.
use Rattle.std.proofs.Common.{◌≡◌, ap, ◌∙◌, not, ◌&&◌, nat_lt, Result, Ok, Err, List, map}
use Rattle.std.specs.Prelude.{IfOk}
use Rattle.std.specs.List.{AllByRecursion}
use Rattle.std.specs.List.Sorted.{IsStrictlySortedBy}
use Rattle.std.specs.Ordering.{nat_cmp}
use Rattle.std.specs.Cmp.Lexicographic.{slice_cmp}
use Rattle.std.specs.Str.{bytes_eq}
use Rattle.card_type.specs.Effects.{is_among}
use Rattle.mailbox_model.specs.declared.contact.ContactRow.{ContactRow}
use Rattle.mailbox_model.specs.Contacts.{contacts_by}
use Rattle.mailbox_model.specs.Lists.{Bytes}
use Rattle.mailbox_model.specs.Present.{Placed}
use Rattle.contacts.specs.Kept.{Kept, StandsFor, mentions_at, shown_name}
use Rattle.contacts.proofs.PageLaws.{page_is}

module _ (kept : Kept) (ps : List Placed) (stands : StandsFor kept ps) (me own : Bytes) (is : me ≡ own) {X E : Type 0} where
  pub contacts_are : (r : Result X E) (items : X → List ContactRow)
      → IfOk r (λ rows. IsStrictlySortedBy (slice_cmp nat_cmp) (map (λ row. row.addr) (items rows)))
      → IfOk r (λ rows. (addr : Bytes) → is_among (map (λ row. row.addr) (items rows)) addr ≡ (nat_lt 0 (mentions_at kept.mentions addr) && not (bytes_eq me addr)))
      → IfOk r (λ rows. AllByRecursion (λ row. row.name ≡ shown_name kept row.addr) (items rows))
      → IfOk r (λ rows. items rows ≡ contacts_by own (map (λ p. p.card) ps))
  contacts_are (Ok rows) items order all names =
      page_is kept ps stands me (items rows) order all names ∙ ap (λ me. contacts_by me (map (λ p. p.card) ps)) is
  contacts_are (Err e) items order all names = tt
