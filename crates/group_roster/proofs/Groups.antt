-- A further card of a group that is put in at its place, or taken out there, by what the setters say.
use Rattle.std.proofs.Common.{◌≡◌, refl, sym, ap, ◌∙◌, ◌<◌, subst, suc, true, false, not, ◌⊎◌, inl, inr, List, [], ◌∷◌, ◌++◌, length, append_assoc, arith, length-append}
use Rattle.std.specs.Prelude.{if◌then◌else◌, fold, ◌&&◌, ◌||◌, nat_lt, slice_get}
use Rattle.std.specs.List.{AllByRecursion, insert, remove}
use Rattle.std.specs.Option.{option_map_or}
use Rattle.std.specs.Ordering.{is_lt}
use Rattle.std.proofs.lemmas.Bool.{and_parts, cases_Bool, ltb-true}
use Rattle.card_type.specs.declared.key.ChatKey.TheVariants.{Group}
use Rattle.card_type.specs.declared.spot.Spot.{Spot}
use Rattle.card_type.specs.Effects.{is_among}
use Rattle.card_type.specs.Spots.{spot_cmp, spot_eq}
use Rattle.mailbox_model.specs.declared.roster.Roster.{Roster}
use Rattle.mailbox_model.specs.Lists.{Bytes}
use Rattle.mailbox_model.specs.Rosters.{changes_members, changes_name, group_after_member, listed, roster_after}
use Rattle.group_roster.specs.declared.listings.Listing.{Listing}
use Rattle.group_roster.specs.declared.setters.Setters.{Setters}
use Rattle.group_roster.specs.Setters.{At, are_same_people, is_before, is_kept, is_listed, is_of_member, keeps_members, keeps_name, keeps_timer, leaves_members, listing_of, members_at, place_of, setters_after, setters_after_member, setters_from, setters_put, setters_taken, with_said}
use Rattle.group_roster.proofs.Listed.{AreListed, all_listed, listings_are, listings_in, listings_said, members_of_first, members_of_next, said_anyway}
use Rattle.group_roster.proofs.Peoples.{same_people}
use Rattle.group_roster.proofs.Places.{Above, is_not_same, never_past, not_itself, rest_true}
use Rattle.group_roster.proofs.Says.{Alike, all_members_alike, alike_if_same, all_said, cards_of, says, says_alike, stayed_with, stayed_without, value_is}
use Rattle.group_roster.proofs.Seams.{count_seam, insert_seam, remove_seam}
use Rattle.group_roster.proofs.Slots.{same_spot, value_after}
use Rattle.group_roster.proofs.Unchanged.{SameTimer, Stay, StayElse, group_stays, members_said, members_step, name_said, name_step, named_step, same_members, stranger_stays, timer_with, timer_without, unsaid, with_listings}

-- the seam of listings before and after a spot
module _ (spot : Spot) (xs : List Listing) (below : AllByRecursion (λ (l : Listing). is_lt (spot_cmp l.spot spot) ≡ true) xs) where
  place_is : (zs : List Listing) → AllByRecursion (λ (l : Listing). is_lt (spot_cmp l.spot spot) ≡ false) zs → place_of (xs ++ zs) spot ≡ length xs
  place_is zs above = count_seam (λ (l : Listing). is_lt (spot_cmp l.spot spot)) xs zs below above

first_after : (xs zs : List Listing) → slice_get (xs ++ zs) (length xs) ≡ slice_get zs 0
first_after [] zs = refl
first_after (x ∷ xs) zs = first_after xs zs

module _ (g : Bytes) (r : Roster) (s : Setters) (a : At) (after : List At)
    (below : AllByRecursion (λ (l : Listing). is_lt (spot_cmp l.spot a.spot) ≡ true) s.listings) (are : AreListed r s)
    (named : is_before a.spot s.named ≡ false) (timed : is_before a.spot s.timed ≡ false) (above : Above a.spot after) where
  abbrev next : Roster
  next = roster_after (Group g) r a.card

  abbrev setters_next : Setters
  setters_next = setters_after (Group g) r s a

  abbrev pub more : Setters
  more = setters_from (Group g) r s (a ∷ after)

  abbrev pub less : Setters
  less = setters_from (Group g) r s after

  abbrev later : List Listing
  later = listings_said g r after

  less_are : less.listings ≡ s.listings ++ later
  less_are = listings_are g r s after

  more_are : Alike (Group g) next r → more.listings ≡ setters_next.listings ++ later
  more_are alike =
      listings_are g next setters_next after
      ∙ ap (λ ys. setters_next.listings ++ listings_in ys) (says_alike (Group g) members_said next r after alike)

  later_above : AllByRecursion (λ (l : Listing). is_lt (spot_cmp l.spot a.spot) ≡ false) later
  later_above =
      all_listed (λ spot. is_lt (spot_cmp spot a.spot) ≡ false) (says (Group g) members_said r after)
      (all_said (Group g) members_said (λ spot. is_lt (spot_cmp spot a.spot) ≡ false) r after (never_past a.spot after above))

  later_not_same : AllByRecursion (λ (l : Listing). spot_eq a.spot l.spot ≡ false) later
  later_not_same =
      all_listed (λ spot. spot_eq a.spot spot ≡ false) (says (Group g) members_said r after)
      (all_said (Group g) members_said (λ spot. spot_eq a.spot spot ≡ false) r after (not_same after above))
    where
      not_same : (cards : List At) → Above a.spot cards → AllByRecursion (λ (d : At). spot_eq a.spot d.spot ≡ false) cards
      not_same [] h = tt
      not_same (d ∷ ds) h = (is_not_same a.spot d.spot h.0, not_same ds h.1)

  -- ---- the place among the listings of the others

  place_less : place_of less.listings a.spot ≡ length s.listings
  place_less = ap (λ ls. place_of ls a.spot) less_are ∙ place_is a.spot s.listings below later later_above

  members_less : members_at less.listings (place_of less.listings a.spot) ≡ r.members
  members_less = (λ k. members_at (less_are k) (place_less k)) ∙ members_of_first s.listings later ∙ sym are

  not_listed : is_listed less (place_of less.listings a.spot) a.spot ≡ false
  not_listed =
      (λ k. option_map_or (λ (l : Listing). spot_eq a.spot l.spot) (slice_get (less_are k) (place_less k)) false)
      ∙ ap (λ o. option_map_or (λ (l : Listing). spot_eq a.spot l.spot) o false) (first_after s.listings later)
      ∙ none later later_not_same
    where
      none : (ls : List Listing) → AllByRecursion (λ (l : Listing). spot_eq a.spot l.spot ≡ false) ls → option_map_or (λ (l : Listing). spot_eq a.spot l.spot) (slice_get ls 0) false ≡ false
      none [] h = refl
      none (l ∷ ls) h = h.0

  -- ---- what becomes of the setters

  abbrev pub Put : Type 0
  Put = (fold (roster_after (Group g)) r (cards_of (a ∷ after)) ≡ fold (roster_after (Group g)) r (cards_of after)) × (more ≡ setters_put (Group g) less a)

  abbrev pub Taken : Type 0
  Taken = (fold (roster_after (Group g)) r (cards_of (a ∷ after)) ≡ fold (roster_after (Group g)) r (cards_of after)) × (less ≡ setters_taken (Group g) more a.spot)

  -- where none of them changes
  put_as_is : Stay (Group g) r s a after → (with_said less (place_of less.listings a.spot) a ≡ less) ⊎ (is_of_member less a ≡ false) → Put
  put_as_is stay h = (stay.roster, stay.setters ∙ sym (as_is h))
    where
      as_is : (with_said less (place_of less.listings a.spot) a ≡ less) ⊎ (is_of_member less a ≡ false) → setters_put (Group g) less a ≡ less
      as_is (inl e) =
          ap (λ t. if is_of_member less a then t else less) e
          ∙ elim (is_of_member less a) as (λ b. (if b then less else less) ≡ less) [ true ↦ refl | false ↦ refl ]
      as_is (inr e) = ap (λ b. if b then with_said less (place_of less.listings a.spot) a else less) e

  taken_as_is : Stay (Group g) r s a after → Taken
  taken_as_is stay =
      let there : is_listed more (place_of more.listings a.spot) a.spot ≡ false = ap (λ (t : Setters). is_listed t (place_of t.listings a.spot) a.spot) stay.setters ∙ not_listed in
      (stay.roster, sym stay.setters ∙ sym (ap (λ b. if b then record more { listings = remove more.listings (place_of more.listings a.spot) } else more) there))

  -- ---- a card that says no members

  module _ (silent : changes_members a.card ≡ false) where
    alike_silent : Alike (Group g) next r
    alike_silent = alike_if_same (Group g) next r (same_members g r s a after silent)

    silent_stays : ((fold (roster_after (Group g)) r (cards_of (a ∷ after))).name ≡ (fold (roster_after (Group g)) r (cards_of after)).name) × (more.named ≡ less.named)
        → SameTimer (Group g) r s a after alike_silent → Stay (Group g) r s a after
    silent_stays name timer =
        let members = all_members_alike (Group g) next r (cards_of after) (same_members g r s a after silent) in
        let kept : setters_next.listings ≡ s.listings =
        elim (is_among r.members a.card.from) as (λ b. (if b then setters_after_member s a else s).listings ≡ s.listings) [
          | true ↦ ap (λ b. if b then s.listings ++ listing_of a ∷ [] else s.listings) silent
          | false ↦ refl
        ] in
        with_listings (Group g) r s a after (group_stays g r s a after alike_silent members name timer)
        (more_are alike_silent ∙ ap (λ ls. ls ++ later) kept ∙ sym less_are)

  -- ---- a member's card that says the same people

  module _ (member : is_among r.members a.card.from ≡ true) (speaks : changes_members a.card ≡ true) where
    next_members : next.members ≡ listed a.card
    next_members =
        ap (λ b. (if b then group_after_member r a.card else r).members) member ∙ ap (λ b. if b then listed a.card else r.members) speaks

    next_listings : setters_next.listings ≡ s.listings ++ listing_of a ∷ []
    next_listings =
        ap (λ b. (if b then setters_after_member s a else s).listings) member ∙ ap (λ b. if b then s.listings ++ listing_of a ∷ [] else s.listings) speaks

    alike_speaking : ((p : Bytes) → is_among (listed a.card) p ≡ is_among r.members p) → Alike (Group g) next r
    alike_speaking same = λ p. ap (λ ms. is_among ms p) next_members ∙ same p

    -- with it the listings are one more, whatever it says
    grown : more.listings ≡ s.listings ++ listing_of a ∷ listings_said g next after
    grown =
        listings_are g next setters_next after ∙ ap (λ ls. ls ++ listings_said g next after) next_listings
        ∙ append_assoc s.listings (listing_of a ∷ []) (listings_said g next after)

    module _ (same : (p : Bytes) → is_among (listed a.card) p ≡ is_among r.members p) where
      alike : Alike (Group g) next r
      alike = alike_speaking same

      later_same : listings_said g next after ≡ later
      later_same = ap listings_in (says_alike (Group g) members_said next r after alike)

      more_grown : more.listings ≡ s.listings ++ listing_of a ∷ later
      more_grown = grown ∙ ap (λ ls. s.listings ++ listing_of a ∷ ls) later_same

      members_agree : 0 < length later → (fold (roster_after (Group g)) r (cards_of (a ∷ after))).members ≡ (fold (roster_after (Group g)) r (cards_of after)).members
      members_agree some =
          let said = says (Group g) members_said r after in
          value_is (Group g) members_said (λ r. r.members) (members_step g) next after
          ∙ ap (value_after next.members) (says_alike (Group g) members_said next r after alike)
          ∙ said_anyway said next.members r.members some
          ∙ sym (value_is (Group g) members_said (λ r. r.members) (members_step g) r after)

      speaking_stays : 0 < length later
          → ((fold (roster_after (Group g)) r (cards_of (a ∷ after))).name ≡ (fold (roster_after (Group g)) r (cards_of after)).name) × (more.named ≡ less.named)
          → SameTimer (Group g) r s a after alike → StayElse (Group g) r s a after
      speaking_stays some name timer = group_stays g r s a after alike (members_agree some) name timer

  -- ---- put in

  module _ (keeps : (keeps_members less (place_of less.listings a.spot) a.card && keeps_name less a && keeps_timer less a) ≡ true) where
    keeps_both : ((keeps_members less (place_of less.listings a.spot) a.card && keeps_name less a) ≡ true) × (keeps_timer less a ≡ true)
    keeps_both = and_parts (keeps_members less (place_of less.listings a.spot) a.card && keeps_name less a) (keeps_timer less a) keeps

    keeps_first : (keeps_members less (place_of less.listings a.spot) a.card ≡ true) × (keeps_name less a ≡ true)
    keeps_first = and_parts (keeps_members less (place_of less.listings a.spot) a.card) (keeps_name less a) keeps_both.0

    name_with : (alike : Alike (Group g) next r)
        → ((fold (roster_after (Group g)) r (cards_of (a ∷ after))).name ≡ (fold (roster_after (Group g)) r (cards_of after)).name) × (more.named ≡ less.named)
    name_with alike =
        stayed_with (Group g) name_said (λ r. r.name) (λ s. s.named) (name_step g) (named_step g) r s a after alike
        (unsaid (changes_name a.card) (is_before a.spot less.named) a.card.group_name keeps_first.1) named

    timer_as : (alike : Alike (Group g) next r) → SameTimer (Group g) r s a after alike
    timer_as alike = timer_with (Group g) r s a after alike keeps_both.1 timed

    put_silent : changes_members a.card ≡ false → Put
    put_silent silent =
        put_as_is (silent_stays silent (name_with (alike_silent silent)) (timer_as (alike_silent silent)))
        (inl (ap (λ b. if b then record less { listings = insert less.listings (place_of less.listings a.spot) (listing_of a) } else less) silent))

    put_speaking : is_among r.members a.card.from ≡ true → changes_members a.card ≡ true → Put
    put_speaking member speaks =
        let says = rest_true (not (changes_members a.card)) (nat_lt (place_of less.listings a.spot) (length less.listings) && are_same_people (members_at less.listings (place_of less.listings a.spot)) (listed a.card))
        (ap not speaks) keeps_first.0 in
        let parts = and_parts (nat_lt (place_of less.listings a.spot) (length less.listings)) (are_same_people (members_at less.listings (place_of less.listings a.spot)) (listed a.card)) says in
        let people : are_same_people r.members (listed a.card) ≡ true = ap (λ ms. are_same_people ms (listed a.card)) (sym members_less) ∙ parts.1 in
        let same = same_people r.members (listed a.card) people in
        let some : 0 < length later = omega (arith, ltb-true (place_of less.listings a.spot) (length less.listings) parts.0, place_less, ap length less_are, length-append s.listings later) in
        let stay = speaking_stays member speaks same some (name_with (alike member speaks same)) (timer_as (alike member speaks same)) in
        let put : more.listings ≡ insert less.listings (place_of less.listings a.spot) (listing_of a) =
        more_grown member speaks same ∙ sym (ap (λ ls. insert ls (place_of less.listings a.spot) (listing_of a)) less_are ∙ insert_seam s.listings later (place_of less.listings a.spot) (listing_of a) place_less) in
        let of_member : is_of_member less a ≡ true = ap (λ ms. is_among ms a.card.from) members_less ∙ member in
        let goal : setters_put (Group g) less a ≡ record less { listings = insert less.listings (place_of less.listings a.spot) (listing_of a) } =
        ap (λ b. if b then with_said less (place_of less.listings a.spot) a else less) of_member
        ∙ ap (λ b. if b then record less { listings = insert less.listings (place_of less.listings a.spot) (listing_of a) } else less) speaks in
        (stay.roster, (λ k. record (stay.rest k) { listings = put k }) ∙ sym goal)

  pub group_put : (not (is_of_member less a) || (keeps_members less (place_of less.listings a.spot) a.card && keeps_name less a && keeps_timer less a)) ≡ true → Put
  group_put h =
      let of_member : is_of_member less a ≡ is_among r.members a.card.from = ap (λ ms. is_among ms a.card.from) members_less in
      elim (cases_Bool (is_among r.members a.card.from)) [
        | inl member ↦
            let keeps = rest_true (not (is_of_member less a)) (keeps_members less (place_of less.listings a.spot) a.card && keeps_name less a && keeps_timer less a)
            (ap not (of_member ∙ member)) h in
            elim (cases_Bool (changes_members a.card)) [ inl speaks ↦ put_speaking keeps member speaks | inr silent ↦ put_silent keeps silent ]
        | inr stranger ↦ put_as_is (stranger_stays g r s a after stranger) (inr (of_member ∙ stranger))
      ]

  -- ---- taken out

  module _ (name : is_kept a.spot more.named ≡ false) (timer : is_kept a.spot more.timed ≡ false) where
    name_without : (alike : Alike (Group g) next r)
        → ((fold (roster_after (Group g)) r (cards_of (a ∷ after))).name ≡ (fold (roster_after (Group g)) r (cards_of after)).name) × (more.named ≡ less.named)
    name_without alike = stayed_without (Group g) name_said (λ r. r.name) (λ s. s.named) (name_step g) (named_step g) r s a after alike name

    timer_less : (alike : Alike (Group g) next r) → SameTimer (Group g) r s a after alike
    timer_less alike = timer_without (Group g) r s a after alike timer

    taken_silent : changes_members a.card ≡ false → Taken
    taken_silent silent = taken_as_is (silent_stays silent (name_without (alike_silent silent)) (timer_less (alike_silent silent)))

    module _ (member : is_among r.members a.card.from ≡ true) (speaks : changes_members a.card ≡ true)
        (leaves : leaves_members more (place_of more.listings a.spot) a.spot ≡ true) where
      abbrev said_next : List Listing
      said_next = listings_said g next after

      more_is : more.listings ≡ s.listings ++ listing_of a ∷ said_next
      more_is = grown member speaks

      place_more : place_of more.listings a.spot ≡ length s.listings
      place_more =
          ap (λ ls. place_of ls a.spot) more_is
          ∙ place_is a.spot s.listings below (listing_of a ∷ said_next) (
            not_itself a.spot,
            all_listed (λ spot. is_lt (spot_cmp spot a.spot) ≡ false) (says (Group g) members_said next after)
                (all_said (Group g) members_said (λ spot. is_lt (spot_cmp spot a.spot) ≡ false) next after (never_past a.spot after above)),
          )

      listed_here : is_listed more (place_of more.listings a.spot) a.spot ≡ true
      listed_here =
          (λ k. option_map_or (λ (l : Listing). spot_eq a.spot l.spot) (slice_get (more_is k) (place_more k)) false)
          ∙ ap (λ o. option_map_or (λ (l : Listing). spot_eq a.spot l.spot) o false) (first_after s.listings (listing_of a ∷ said_next))
          ∙ same_spot a.spot

      left : (nat_lt (suc (place_of more.listings a.spot)) (length more.listings) ≡ true)
          × (are_same_people (members_at more.listings (place_of more.listings a.spot)) (members_at more.listings (suc (place_of more.listings a.spot))) ≡ true)
      left =
          and_parts (nat_lt (suc (place_of more.listings a.spot)) (length more.listings))
          (are_same_people (members_at more.listings (place_of more.listings a.spot)) (members_at more.listings (suc (place_of more.listings a.spot))))
          (rest_true (not (is_listed more (place_of more.listings a.spot) a.spot))
          (nat_lt (suc (place_of more.listings a.spot)) (length more.listings) && are_same_people (members_at more.listings (place_of more.listings a.spot)) (members_at more.listings (suc (place_of more.listings a.spot))))
          (ap not listed_here) leaves)

      members_here : members_at more.listings (place_of more.listings a.spot) ≡ r.members
      members_here = (λ k. members_at (more_is k) (place_more k)) ∙ members_of_first s.listings (listing_of a ∷ said_next) ∙ sym are

      said_here : members_at more.listings (suc (place_of more.listings a.spot)) ≡ listed a.card
      said_here = (λ k. members_at (more_is k) (suc (place_more k))) ∙ members_of_next s.listings (listing_of a) said_next

      taken_speaking : Taken
      taken_speaking =
          let people : are_same_people r.members (listed a.card) ≡ true = sym (λ k. are_same_people (members_here k) (said_here k)) ∙ left.1 in
          let same = same_people r.members (listed a.card) people in
          let longer = ltb-true (suc (place_of more.listings a.spot)) (length more.listings) left.0 in
          let some_next : 0 < length said_next = omega (arith, longer, place_more, ap length more_is, length-append s.listings (listing_of a ∷ said_next)) in
          let some : 0 < length later = subst (λ ls. 0 < length ls) (later_same member speaks same) some_next in
          let stay = speaking_stays member speaks same some (name_without (alike member speaks same)) (timer_less (alike member speaks same)) in
          let taken : less.listings ≡ remove more.listings (place_of more.listings a.spot) =
          less_are ∙ sym (ap (λ ls. remove ls (place_of more.listings a.spot)) (more_grown member speaks same) ∙ remove_seam s.listings later (place_of more.listings a.spot) (listing_of a) place_more) in
          let goal : setters_taken (Group g) more a.spot ≡ record more { listings = remove more.listings (place_of more.listings a.spot) } =
          ap (λ b. if b then record more { listings = remove more.listings (place_of more.listings a.spot) } else more) listed_here in
          (stay.roster, (λ k. record (sym stay.rest k) { listings = taken k }) ∙ sym goal)

    pub group_taken : leaves_members more (place_of more.listings a.spot) a.spot ≡ true → Taken
    group_taken leaves = elim (cases_Bool (is_among r.members a.card.from)) [
      | inl member ↦ elim (cases_Bool (changes_members a.card)) [ inl speaks ↦ taken_speaking member speaks leaves | inr silent ↦ taken_silent silent ]
      | inr stranger ↦ taken_as_is (stranger_stays g r s a after stranger)
    ]
