-- Who joins a thread, card by card: the members are only added to, and each has the spot of the card by which it came.
use Rattle.std.proofs.Common.{◌≡◌, refl, sym, ap, ◌∙◌, subst, Bool, true, false, not, ◌||◌, List, [], ◌∷◌, ◌++◌, length, map, take, drop, append_assoc, append-nil, arith, length-append}
use Rattle.std.specs.Prelude.{if◌then◌else◌, fold, count_by}
use Rattle.std.specs.List.{AllByRecursion, IsDistinct, list_all, list_any}
use Rattle.std.specs.Str.{bytes_eq}
use Rattle.std.specs.Ordering.{is_lt}
use Rattle.std.proofs.lemmas.Bool.{and_parts, false≢true}
use Rattle.std.proofs.Math.Seq.{drop-append_seam, take-append_seam}
use Rattle.indexmap.specs.IndexSet.{insert_key}
use Rattle.lists.specs.Distinct.{each_once}
use Rattle.lists.proofs.DistinctLaws.{IsDistinct-firsts}
use Rattle.lists.proofs.Inserts.{none_filtered}
use Rattle.card_type.specs.declared.card.Card.{Card}
use Rattle.card_type.specs.declared.key.ChatKey.TheVariants.{Thread}
use Rattle.card_type.specs.declared.spot.Spot.{Spot}
use Rattle.card_type.specs.Effects.{is_among}
use Rattle.card_type.specs.Spots.{spot_cmp, spot_eq}
use Rattle.mailbox_model.specs.declared.roster.Roster.{Roster}
use Rattle.mailbox_model.specs.Chats.{people}
use Rattle.mailbox_model.specs.Lists.{Bytes}
use Rattle.mailbox_model.specs.Rosters.{roster_after}
use Rattle.group_roster.specs.declared.setters.Setters.{Setters}
use Rattle.group_roster.specs.Setters.{At, newcomers, joined_at, setters_after, setters_from}
use Rattle.group_roster.proofs.Once.{once_more}
use Rattle.group_roster.proofs.Says.{cards_of}
use Rattle.group_roster.proofs.Seams.{all_both, count_seam}
use Rattle.group_roster.proofs.Slots.{same_spot}

-- ---- addresses that are said, each once

-- what is without repeats stays as it is
once_again : (xs : List Bytes) → IsDistinct bytes_eq xs → each_once xs ≡ xs
unfolding IsDistinct
once_again [] d = refl
once_again (x ∷ xs) d = ap (λ ys. x ∷ ys) (ap (λ ys. filter_out ys) (once_again xs d.1) ∙ none_filtered (bytes_eq x) xs d.0)
  where
    filter_out : List Bytes → List Bytes
    filter_out ys = Rattle.std.specs.Prelude.filter (λ y. not (bytes_eq x y)) ys

abbrev pub Grown : List Bytes → List Bytes → Type 0
Grown xs all = (rest : List Bytes) × (all ≡ xs ++ rest)

grown_more : (xs ys zs : List Bytes) → Grown xs ys → Grown ys zs → Grown xs zs
grown_more xs ys zs g h = (g.0 ++ h.0, h.1 ∙ ap (λ all. all ++ h.0) g.1 ∙ append_assoc xs g.0 h.0)

one_grown : (xs : List Bytes) (y : Bytes) → Grown xs (insert_key bytes_eq xs y)
one_grown xs y = elim (list_any (bytes_eq y) xs) as (λ b. Grown xs (if b then xs else xs ++ y ∷ [])) [ true ↦ ([], sym (append-nil xs)) | false ↦ (y ∷ [], refl) ]

once_grown : (xs ys : List Bytes) → Grown (each_once xs) (each_once (xs ++ ys))
once_grown xs [] = ([], ap each_once (append-nil xs) ∙ sym (append-nil (each_once xs)))
once_grown xs (y ∷ ys) =
    let first : Grown (each_once xs) (each_once (xs ++ y ∷ [])) = subst (Grown (each_once xs)) (once_more xs y) (one_grown (each_once xs) y) in
    let all : Grown (each_once (xs ++ y ∷ [])) (each_once (xs ++ y ∷ ys)) =
    subst (λ zs. Grown (each_once (xs ++ y ∷ [])) (each_once zs)) (append_assoc xs (y ∷ []) ys) (once_grown (xs ++ y ∷ []) ys) in
    grown_more (each_once xs) (each_once (xs ++ y ∷ [])) (each_once (xs ++ y ∷ ys)) first all

-- where all are known, nothing is added
known_once : (xs ys : List Bytes) → list_all (is_among (each_once xs)) ys ≡ true → each_once (xs ++ ys) ≡ each_once xs
known_once xs [] h = ap each_once (append-nil xs)
known_once xs (y ∷ ys) h =
    let parts = and_parts (is_among (each_once xs) y) (list_all (is_among (each_once xs)) ys) h in
    let first : each_once (xs ++ y ∷ []) ≡ each_once xs = sym (once_more xs y) ∙ ap (λ b. if b then each_once xs else each_once xs ++ y ∷ []) parts.0 in
    let rest = known_once (xs ++ y ∷ []) ys (ap (λ known. list_all (is_among known) ys) first ∙ parts.1) in
    ap each_once (sym (append_assoc xs (y ∷ []) ys)) ∙ rest ∙ first

module _ (members : List Bytes) (once : IsDistinct bytes_eq members) (c : Card) where
  abbrev after : List Bytes
  after = each_once (members ++ people c)

  pub members_grown : Grown members after
  members_grown = subst (λ ms. Grown ms after) (once_again members once) (once_grown members (people c))

  pub none_new : list_all (is_among members) (people c) ≡ true → after ≡ members
  none_new h =
      known_once members (people c) (ap (λ ms. list_all (is_among ms) (people c)) (once_again members once) ∙ h)
      ∙ once_again members once

  newcomers_are : after ≡ members ++ newcomers members c
  newcomers_are =
      members_grown.1 ∙ ap (λ rest. members ++ rest) (sym (ap (drop (length members)) members_grown.1 ∙ drop-append_seam members members_grown.0))

  -- where none comes with a card that is at a spot
  pub no_newcomers : (spot : Spot) → list_any (spot_eq spot) (joined_at members (record { spot = spot; card = c })) ≡ false → after ≡ members
  no_newcomers spot h = newcomers_are ∙ ap (λ new. members ++ new) (none (newcomers members c) h) ∙ append-nil members
    where
      none : (new : List Bytes) → list_any (spot_eq spot) (map (λ _. spot) new) ≡ false → new ≡ []
      none [] k = refl
      none (n ∷ new) k = absurd (false≢true (sym k ∙ ap (λ b. b || list_any (spot_eq spot) (map (λ _. spot) new)) (same_spot spot)))

-- so none joined by a card that adds no member
pub none_joined : (members : List Bytes) (a : At) → each_once (members ++ people a.card) ≡ members → joined_at members a ≡ []
none_joined members a e =
    ap (λ all. map (λ _. a.spot) (drop (length members) all)) (e ∙ sym (append-nil members))
    ∙ ap (λ new. map (λ _. a.spot) new) (drop-append_seam members [])

-- ---- the members of a thread and where they joined

module _ (i : Bytes) where
  thread_members : (r : Roster) (cards : List At) → IsDistinct bytes_eq r.members → Grown r.members (fold (roster_after (Thread i)) r (cards_of cards)).members
  thread_members r [] d = ([], sym (append-nil r.members))
  thread_members r (a ∷ more) d =
      let next = roster_after (Thread i) r a.card in
      grown_more r.members next.members (fold (roster_after (Thread i)) next (cards_of more)).members
      (members_grown r.members d a.card) (thread_members next more (IsDistinct-firsts bytes_eq (r.members ++ people a.card)))

  -- the spots at which members joined, all of these cards
  abbrev pub JoinedBy : (Spot → Type 0) → Setters → Setters → Type 0
  JoinedBy P s all = (rest : List Spot) × (all.joined ≡ s.joined ++ rest) × AllByRecursion P rest

  pub all_at : (P : Spot → Type 0) (spot : Spot) (new : List Bytes) → P spot → AllByRecursion P (map (λ _. spot) new)
  all_at P spot [] h = tt
  all_at P spot (n ∷ new) h = (h, all_at P spot new h)

  pub joined_by : (P : Spot → Type 0) (r : Roster) (s : Setters) (cards : List At) → AllByRecursion (λ a. P a.spot) cards
      → JoinedBy P s (setters_from (Thread i) r s cards)
  joined_by P r s [] h = ([], sym (append-nil s.joined), tt)
  joined_by P r s (a ∷ more) h =
      let rest = joined_by P (roster_after (Thread i) r a.card) (setters_after (Thread i) r s a) more h.1 in
      let here = joined_at r.members a in
      (here ++ rest.0, rest.1 ∙ append_assoc s.joined here rest.0, all_both P here rest.0 (all_at P a.spot (newcomers r.members a.card) h.0) rest.2)

  -- each member has its spot
  pub same_length : (members : List Bytes) (joined : List Spot) (a : At) → IsDistinct bytes_eq members → length joined ≡ length members
      → length (joined ++ joined_at members a) ≡ length (each_once (members ++ people a.card))
  same_length members joined a d e =
      let new = newcomers members a.card in
      let spots = length-append joined (joined_at members a) in
      let all = ap length (newcomers_are members d a.card) ∙ length-append members new in
      omega (arith, spots, all, e, Rattle.std.proofs.lemmas.List.length-map new (λ _. a.spot))

  pub joined_length : (r : Roster) (s : Setters) (cards : List At) → IsDistinct bytes_eq r.members → length s.joined ≡ length r.members
      → length (setters_from (Thread i) r s cards).joined ≡ length (fold (roster_after (Thread i)) r (cards_of cards)).members
  joined_length r s [] d e = e
  joined_length r s (a ∷ more) d e =
      joined_length (roster_after (Thread i) r a.card) (setters_after (Thread i) r s a) more (IsDistinct-firsts bytes_eq (r.members ++ people a.card))
      (same_length r.members s.joined a d e)

  pub still_once : (r : Roster) (cards : List At) → IsDistinct bytes_eq r.members → IsDistinct bytes_eq (fold (roster_after (Thread i)) r (cards_of cards)).members
  still_once r [] d = d
  still_once r (a ∷ more) d = still_once (roster_after (Thread i) r a.card) more (IsDistinct-firsts bytes_eq (r.members ++ people a.card))

  -- ---- who joined before a spot

  -- the members before some cards are those who joined before their spots
  pub joined_before_are : (spot : Spot) (r : Roster) (s : Setters) (cards : List At) → IsDistinct bytes_eq r.members → length s.joined ≡ length r.members
      → AllByRecursion (λ j. is_lt (spot_cmp j spot) ≡ true) s.joined → AllByRecursion (λ a. is_lt (spot_cmp a.spot spot) ≡ false) cards
      → take (count_by (λ j. is_lt (spot_cmp j spot)) (setters_from (Thread i) r s cards).joined) (fold (roster_after (Thread i)) r (cards_of cards)).members ≡ r.members
  joined_before_are spot r s cards d e before after =
      let p : Spot → Bool = λ j. is_lt (spot_cmp j spot) in
      let joined = joined_by (λ j. p j ≡ false) r s cards after in
      let members = thread_members r cards d in
      let count : count_by p (s.joined ++ joined.0) ≡ length r.members = count_seam p s.joined joined.0 before joined.2 ∙ e in
      ap (λ all. take (count_by p all) (fold (roster_after (Thread i)) r (cards_of cards)).members) joined.1
      ∙ ap (λ n. take n (fold (roster_after (Thread i)) r (cards_of cards)).members) count
      ∙ ap (take (length r.members)) members.1 ∙ take-append_seam r.members members.0
