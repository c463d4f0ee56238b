-- Making the row of a card of all that names it.
use Rattle.std.proofs.Common.{Bor, ◌≡◌, refl, sym, ap, ◌∙◌, subst, ℕ, ◌+◌, ◌<◌, ◌≤◌, Bool, true, false, cond, Option, Some, None, Result, Ok, Err, List, [], ◌∷◌, ◌++◌, length, map, take, get_or, zero, suc, arith}
use Rattle.std.specs.Prelude.{◌==◌, filter, slice_index_or, sum_by, IfSome}
use Rattle.std.specs.List.{AllByRecursion, IsDistinct, cons_option}
use Rattle.std.specs.Option.{option_copied, option_map, option_to_list}
use Rattle.std.proofs.lemmas.Bool.{eq-eqb}
use Rattle.std.proofs.lemmas.List.{get_or-map, length-map, take_more}
use Rattle.std.proofs.lemmas.List.Elements.{All-from_recursion, All-get_or, filter_map-append}
use Rattle.std.proofs.lemmas.List.Sums.{length-filter, sum_by-cons, sum_by_more_le}
use Rattle.kit.specs.Moments.{last_moment}
use Rattle.kit.specs.Options.{◌>>=◌}
use Rattle.lists.proofs.Inserts.{All-filter, found_all}
use Rattle.card_type.specs.declared.card.Card.{Card}
use Rattle.card_type.specs.declared.spot.Spot.{Spot}
use Rattle.card_type.specs.Effects.{is_among, names}
use Rattle.effects.specs.Named.{StandsFor as AreEffects, named}
use Rattle.mailbox_model.specs.declared.change.Fault.{Fault}
use Rattle.mailbox_model.specs.Lists.{Bytes}
use Rattle.mailbox_model.specs.Mailbox.{Mailbox, Entry, IsEntry, IsMailbox, card_at, entry_at, has_uid, max_total_weight}
use Rattle.mailbox_model.specs.Present.{Placed, Mail, effective_date, mail_at, mail_by, mail_of, same_uid, spot, present, present_cards}
use Rattle.mailbox_model.specs.Rows.{Act, act_on, acts_on, naming}
use Rattle.mailbox_model.proofs.CountLaws.{few_brought}
use Rattle.mailbox_model.proofs.UidLaws.{present_uids}
use Rattle.chat_view.specs.Makers.{mail}
use Rattle.indexes.specs.Costs.{times_named}
use Rattle.indexes.specs.Kept.{present_at, spot_at}
use Rattle.indexes.proofs.Mails.{card_is, found_each}

-- ---- the mail at a spot

pub mail_there : (m : Mailbox) (uid : ℕ) (s : Spot) → spot_at m uid ≡ Some s → (t : Mail) × (mail_at m uid ≡ Some t) × (s ≡ spot t.placed)
mail_there m uid s h = by (mail_at m uid) refl h
  where
    by : (o : Option Mail) → mail_at m uid ≡ o → option_map (λ t. spot t.placed) o ≡ Some s → (t : Mail) × (mail_at m uid ≡ Some t) × (s ≡ spot t.placed)
    by None k h = cc
    by (Some t) k h = (t, k, cc)

-- it is the mail of this card, seen then
pub same_mail : (m : Mailbox) (uid : ℕ) (t : Mail) (s : Spot) (card : Card) (seen : Option ℕ) → mail_at m uid ≡ Some t → s ≡ spot t.placed
    → card_at m uid ≡ Some card → seen ≡ t.seen → mail s card seen ≡ t
same_mail m uid t s card seen is at k h =
    let same : Some card ≡ Some t.placed.card = sym k ∙ card_is m uid t is in
    let own : card ≡ t.placed.card = cc in
    λ i. record { placed = record { date = (at i).date; uid = (at i).uid; card = own i }; seen = h i }

pub spot_of_mail : (m : Mailbox) (uid : ℕ) (s : Spot) (t : Mail) → spot_at m uid ≡ Some s → mail_at m uid ≡ Some t → s ≡ spot t.placed
spot_of_mail m uid s t h is = let same : Some s ≡ Some (spot t.placed) = sym h ∙ ap (option_map (λ u. spot u.placed)) is in cc

pub own : (m : Mailbox) (uid : ℕ) (t : Mail) (card : Card) → mail_at m uid ≡ Some t → card_at m uid ≡ Some card → card ≡ t.placed.card
own m uid t card is h = let same : Some card ≡ Some t.placed.card = sym h ∙ card_is m uid t is in cc

-- a card that is lent is the one that is kept
pub lent_card : (m : Mailbox) (uid : ℕ) (o : Option (Bor Card)) (b : Bor Card) → option_copied o ≡ card_at m uid → o ≡ Some b
    → card_at m uid ≡ Some b.now
lent_card m uid o b h k = sym h ∙ ap option_copied k

-- its moments are none to come
pub record HasMoments (t : Mail) : Type 0 where
  pub date : t.placed.date ≤ last_moment
  pub seen : IfSome t.seen (λ moment. moment ≤ last_moment)

module _ (m : Mailbox) (rules : IsMailbox m) where
  in_time : (e : Entry) → IsEntry m.now e → (t : Mail) → mail_of e ≡ Some t → HasMoments t
  in_time e k t h = by e.read h
    where
      early : (date : Option ℕ) → effective_date date e.arrival ≤ e.arrival
      early None = omega arith
      early (Some d) = omega arith

      seen : (o : Option ℕ) → IfSome o (λ moment. moment ≤ m.now) → IfSome o (λ moment. moment ≤ last_moment)
      seen None a = tt
      seen (Some n) a = omega (arith, a, rules.moment)

      by : (r : Result Card Fault) → mail_by e r ≡ Some t → HasMoments t
      by (Ok card) h =
          let own : record { placed = record { date = effective_date card.date e.arrival; uid = e.uid; card = card }; seen = e.seen } ≡ t = cc in
          subst HasMoments own (record { date = omega (arith, early card.date, k.arrived, rules.moment); seen = seen e.seen k.seen_by })
      by (Err fault) h = cc

  pub has_moments : (uid : ℕ) (t : Mail) → mail_at m uid ≡ Some t → HasMoments t
  has_moments uid t h = by (entry_at m uid) refl h
    where
      by : (o : Option Entry) → entry_at m uid ≡ o → (o >>= mail_of) ≡ Some t → HasMoments t
      by None k h = cc
      by (Some e) k h = in_time e (found_all (IsEntry m.now) (has_uid uid) m.entries e rules.each k) t h

-- ---- those that name a card, in mail order

eq_turn : (a b : ℕ) → (a == b) ≡ (b == a)
eq_turn a b = grind (arith)

abbrev same_card_uid : Placed → Placed → Bool
same_card_uid p q = q.uid == p.uid

distinct_cards : (ts : List Mail) → IsDistinct same_uid ts → IsDistinct same_card_uid (map (λ t. t.placed) ts)
unfolding IsDistinct
distinct_cards [] d = tt
distinct_cards (t ∷ ts) d = (others ts d.0, distinct_cards ts d.1)
  where
    others : (us : List Mail) → AllByRecursion (λ u. same_uid t u ≡ false) us → AllByRecursion (λ q. same_card_uid t.placed q ≡ false) (map (λ u. u.placed) us)
    others [] a = tt
    others (u ∷ us) a = (eq_turn u.placed.uid t.placed.uid ∙ a.0, others us a.1)

sum_by-filter_le : {X : Type 0} (f : X → ℕ) (p : X → Bool) (xs : List X) → sum_by f (filter p xs) ≤ sum_by f xs
sum_by-filter_le f p [] = omega arith
sum_by-filter_le f p (x ∷ xs) =
    elim (p x) as (λ b. sum_by f (cond b (x ∷ filter p xs) (filter p xs)) ≤ sum_by f (x ∷ xs)) [
      | true ↦ omega (arith, sum_by-cons f x xs, sum_by-cons f x (filter p xs), sum_by-filter_le f p xs)
      | false ↦ omega (arith, sum_by-cons f x xs, sum_by-filter_le f p xs)
    ]

take-all : {X : Type 0} (i : ℕ) (xs : List X) → length xs ≤ i → take i xs ≡ xs
take-all {X} i [] h = none i
  where
    none : (i : ℕ) → take {0} {A = X} i [] ≡ []
    none zero = refl
    none (suc i) = refl
take-all zero (x ∷ xs) h = absurd (omega (arith, h))
take-all (suc i) (x ∷ xs) h = ap (λ ys. x ∷ ys) (take-all i xs (omega (arith, h)))

module _ (m : Mailbox) (rules : IsMailbox m) where
  pub each_card : AllByRecursion (λ p. present_at m p.uid ≡ Some p) (present_cards m)
  each_card =
      found_each same_card_uid (λ p. eq-eqb p.uid p.uid refl) (λ p q. eq_turn q.uid p.uid) (present_cards m)
      (distinct_cards (present m) (present_uids m rules.uids))

  module _ (id : Bytes) (spots : List (Bytes × List Spot)) (stands : AreEffects spots (present_cards m)) (uids : List ℕ)
      (are : uids ≡ map (λ s. s.uid) (named spots id)) where
    abbrev pub namers : List Placed
    namers = naming id (present_cards m)

    uids_of : (ps : List Placed) → map (λ s. s.uid) (map spot ps) ≡ map (λ p. p.uid) ps
    uids_of [] = refl
    uids_of (p ∷ ps) = ap (λ us. p.uid ∷ us) (uids_of ps)

    uids_are : uids ≡ map (λ p. p.uid) namers
    uids_are = are ∙ ap (map (λ s. s.uid)) (stands id) ∙ uids_of namers

    pub count : length uids ≡ times_named m id
    count = ap length uids_are ∙ length-map namers (λ p. p.uid) ∙ length-filter (λ e. is_among (names e.card) id) (present_cards m)

    -- the next of them
    pub record IsNext (i : ℕ) (p : Placed) : Type 0 where
      pub at : present_at m (slice_index_or uids i 0) ≡ Some p
      pub more : take (i + 1) namers ≡ take i namers ++ p ∷ []
      pub few : sum_by (λ p. length p.card.updates) (take i namers) + length p.card.updates ≤ max_total_weight

    pub next : (d : Placed) (i : ℕ) → i < length uids → IsNext i (get_or namers i d)
    next d i lt =
        let within : i < length namers = omega (arith, lt, ap length uids_are ∙ length-map namers (λ p. p.uid)) in
        let there : present_at m (get_or namers i d).uid ≡ Some (get_or namers i d) =
        All-get_or (λ p. present_at m p.uid ≡ Some p) namers i d within (All-from_recursion (λ p. present_at m p.uid ≡ Some p) namers (All-filter (λ p. present_at m p.uid ≡ Some p) (λ e. is_among (names e.card) id) (present_cards m) each_card)) in
        record {
          at = ap (λ us. present_at m (slice_index_or us i 0)) uids_are ∙ ap (present_at m) (get_or-map (λ p. p.uid) namers i d 0 within) ∙ there;
          more = take_more namers i d within;
          few = omega (arith, sum_by_more_le (λ p. length p.card.updates) namers i d within, sum_by-filter_le (λ p. length p.card.updates) (λ e. is_among (names e.card) id) (present_cards m), few_brought m rules);
        }

    pub all_taken : (i : ℕ) → length uids ≤ i → take i namers ≡ namers
    all_taken i le = take-all i namers (omega (arith, le, ap length uids_are ∙ length-map namers (λ p. p.uid)))

-- ---- what a maker has made so far

pub acts_more : (me : Bytes) (t : Card) (ps : List Placed) (p : Placed) → acts_on me t (ps ++ p ∷ []) ≡ acts_on me t ps ++ option_to_list (act_on me t p)
acts_more me t ps p = filter_map-append (act_on me t) ps (p ∷ []) ∙ ap (λ more. acts_on me t ps ++ more) (one (act_on me t p))
  where
    one : (o : Option Act) → cons_option o [] ≡ option_to_list o
    one None = refl
    one (Some a) = refl
