-- Whom the cards of a group say to be its members.
use Rattle.std.proofs.Common.{◌≡◌, refl, sym, ap, ◌∙◌, ℕ, suc, ◌<◌, Bool, true, false, Option, Some, None, List, [], ◌∷◌, ◌++◌, length, append_assoc, append-nil, subst, arith, length-append}
use Rattle.std.specs.Prelude.{if◌then◌else◌, fold, ◌-◌, slice_get}
use Rattle.std.specs.List.{AllByRecursion}
use Rattle.std.specs.Option.{option_map_or}
use Rattle.std.proofs.lemmas.Bool.{ne_eqb}
use Rattle.card_type.specs.declared.key.ChatKey.TheVariants.{Group}
use Rattle.card_type.specs.declared.spot.Spot.{Spot}
use Rattle.card_type.specs.Effects.{is_among}
use Rattle.mailbox_model.specs.declared.roster.Roster.{Roster}
use Rattle.mailbox_model.specs.Lists.{Bytes}
use Rattle.mailbox_model.specs.Rosters.{changes_members, listed, roster_after}
use Rattle.group_roster.specs.declared.listings.Listing.{Listing}
use Rattle.group_roster.specs.declared.setters.Setters.{Setters}
use Rattle.group_roster.specs.Setters.{At, listing_of, members_at, setters_after, setters_after_member, setters_from}
use Rattle.group_roster.proofs.Says.{all_said, cards_of, group_members_are, says}
use Rattle.group_roster.proofs.Seams.{all_both}
use Rattle.group_roster.proofs.Slots.{value_after}
use Rattle.group_roster.proofs.Unchanged.{members_said}

abbrev pub Said : Type 0
Said = Option (List Bytes) × Spot

-- what is said in turn, as listings
abbrev pub listings_in : List Said → List Listing
listings_in [] = []
listings_in ((None, spot) ∷ ys) = listings_in ys
listings_in ((Some members, spot) ∷ ys) = record { spot = spot; members = members } ∷ listings_in ys

pub all_listed : (P : Spot → Type 0) (ys : List Said) → AllByRecursion (λ y. P y.1) ys → AllByRecursion (λ (l : Listing). P l.spot) (listings_in ys)
all_listed P [] h = tt
all_listed P ((None, spot) ∷ ys) h = all_listed P ys h.1
all_listed P ((Some members, spot) ∷ ys) h = (h.0, all_listed P ys h.1)

-- where anything is said, what was there at first does not count
pub said_anyway : (ys : List Said) (v w : List Bytes) → 0 < length (listings_in ys) → value_after v ys ≡ value_after w ys
said_anyway [] v w h = absurd (omega (arith, h))
said_anyway ((None, spot) ∷ ys) v w h = said_anyway ys v w h
said_anyway ((Some members, spot) ∷ ys) v w h = refl

-- ---- whom the last of some listings says

at_next : (ls : List Listing) (i : ℕ) → members_at ls (suc i) ≡ option_map_or (λ (l : Listing). l.members) (slice_get ls i) []
at_next ls i =
    ap (λ b. if b then [] else option_map_or (λ (l : Listing). l.members) (slice_get ls (suc i - 1)) []) (ne_eqb (suc i) 0 (λ e. omega (arith, e)))
    ∙ ap (λ j. option_map_or (λ (l : Listing). l.members) (slice_get ls j) []) (omega arith)

last_after : (x : Listing) (xs : List Listing) (ys : List Listing) → slice_get (x ∷ xs ++ ys) (length xs) ≡ slice_get (x ∷ xs) (length xs)
last_after x [] ys = refl
last_after x (z ∷ zs) ys = last_after z zs ys

pub members_of_first : (xs ys : List Listing) → members_at (xs ++ ys) (length xs) ≡ members_at xs (length xs)
members_of_first [] ys = refl
members_of_first (x ∷ xs) ys =
    at_next (x ∷ xs ++ ys) (length xs) ∙ ap (λ o. option_map_or (λ (l : Listing). l.members) o []) (last_after x xs ys) ∙ sym (at_next (x ∷ xs) (length xs))

one_last : (x : Listing) (xs : List Listing) (l : Listing) (ys : List Listing) → slice_get (x ∷ xs ++ l ∷ ys) (suc (length xs)) ≡ Some l
one_last x [] l ys = refl
one_last x (z ∷ zs) l ys = one_last z zs l ys

pub members_of_next : (xs : List Listing) (l : Listing) (ys : List Listing) → members_at (xs ++ l ∷ ys) (suc (length xs)) ≡ l.members
members_of_next [] l ys = refl
members_of_next (x ∷ xs) l ys =
    at_next (x ∷ xs ++ l ∷ ys) (suc (length xs)) ∙ ap (λ o. option_map_or (λ (l : Listing). l.members) o []) (one_last x xs l ys)

-- ---- the listings and the members after some cards of a group

one_more : (xs : List Listing) (l : Listing) (ys : List Listing) → xs ++ l ∷ ys ≡ (xs ++ l ∷ []) ++ ys
one_more xs l ys = sym (append_assoc xs (l ∷ []) ys)

module _ (g : Bytes) where
  abbrev pub listings_said : Roster → List At → List Listing
  listings_said r cards = listings_in (says (Group g) members_said r cards)

  step : (b c : Bool) (s : Setters) (a : At) (ys : List Said)
      → (if b then record s { listings = (if c then s.listings ++ listing_of a ∷ [] else s.listings) } else s).listings ++ listings_in ys
      ≡ s.listings ++ listings_in (((if b then (if c then Some (listed a.card) else None) else None), a.spot) ∷ ys)
  step true true s a ys = sym (one_more s.listings (listing_of a) (listings_in ys))
  step true false s a ys = refl
  step false c s a ys = refl

  pub listings_are : (r : Roster) (s : Setters) (cards : List At) → (setters_from (Group g) r s cards).listings ≡ s.listings ++ listings_said r cards
  listings_are r s [] = sym (append-nil s.listings)
  listings_are r s (a ∷ more) =
      listings_are (roster_after (Group g) r a.card) (setters_after (Group g) r s a) more
      ∙ after_member (is_among r.members a.card.from)
    where
      rest : List Said
      rest = says (Group g) members_said (roster_after (Group g) r a.card) more

      after_member : (b : Bool)
          → (if b then setters_after_member s a else s).listings ++ listings_in rest
          ≡ s.listings ++ listings_in (((if b then members_said a.card else None), a.spot) ∷ rest)
      after_member true = step true (changes_members a.card) s a rest
      after_member false = refl

length_more : (xs : List Listing) (l : Listing) → length (xs ++ l ∷ []) ≡ suc (length xs)
length_more xs l = length-append xs (l ∷ []) ∙ omega (arith)

-- the members are those that the last listing says
abbrev pub AreListed : Roster → Setters → Type 0
AreListed r s = r.members ≡ members_at s.listings (length s.listings)

module _ (g : Bytes) where
  listed_next : (r : Roster) (s : Setters) (a : At) (b c : Bool) → AreListed r s
      → (if b then (if c then listed a.card else r.members) else r.members)
      ≡ members_at (if b then (if c then s.listings ++ listing_of a ∷ [] else s.listings) else s.listings) (length (if b then (if c then s.listings ++ listing_of a ∷ [] else s.listings) else s.listings))
  listed_next r s a true true h =
      sym (ap (members_at (s.listings ++ listing_of a ∷ [])) (length_more s.listings (listing_of a)) ∙ members_of_next s.listings (listing_of a) [])
  listed_next r s a true false h = h
  listed_next r s a false c h = h

  listings_after : (r : Roster) (s : Setters) (a : At)
      → (setters_after (Group g) r s a).listings
      ≡ (if is_among r.members a.card.from then (if changes_members a.card then s.listings ++ listing_of a ∷ [] else s.listings) else s.listings)
  listings_after r s a =
      elim (is_among r.members a.card.from) as (λ b. (if b then setters_after_member s a else s).listings ≡ (if b then (if changes_members a.card then s.listings ++ listing_of a ∷ [] else s.listings) else s.listings)) [ true ↦ refl | false ↦ refl ]

  pub listed_after : (r : Roster) (s : Setters) (a : At) → AreListed r s → AreListed (roster_after (Group g) r a.card) (setters_after (Group g) r s a)
  listed_after r s a h =
      group_members_are r a.card ∙ listed_next r s a (is_among r.members a.card.from) (changes_members a.card) h
      ∙ ap (λ ls. members_at ls (length ls)) (sym (listings_after r s a))

  pub still_listed : (r : Roster) (s : Setters) (cards : List At) → AreListed r s → AreListed (fold (roster_after (Group g)) r (cards_of cards)) (setters_from (Group g) r s cards)
  still_listed r s [] h = h
  still_listed r s (a ∷ more) h = still_listed (roster_after (Group g) r a.card) (setters_after (Group g) r s a) more (listed_after r s a h)

  -- all listings are of these cards and of those before
  pub listings_by : (P : Spot → Type 0) (r : Roster) (s : Setters) (cards : List At) → AllByRecursion (λ (l : Listing). P l.spot) s.listings
      → AllByRecursion (λ (a : At). P a.spot) cards → AllByRecursion (λ (l : Listing). P l.spot) (setters_from (Group g) r s cards).listings
  listings_by P r s cards h k =
      subst (AllByRecursion (λ (l : Listing). P l.spot)) (sym (listings_are g r s cards))
      (all_both (λ (l : Listing). P l.spot) s.listings (listings_said g r cards) h
      (all_listed P (says (Group g) members_said r cards) (all_said (Group g) members_said P r cards k)))
