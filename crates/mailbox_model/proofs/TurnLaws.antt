-- How each change moves the present cards.
use Rattle.std.proofs.Common.{◌≡◌, refl, sym, ap, ◌∙◌, subst, ℕ, ◌<◌, Bool, true, false, not, ◌&&◌, cond, Option, Some, None, is_some, List, [], ◌∷◌, map, max, arith}
use Rattle.std.specs.Prelude.{if◌then◌else◌, filter, find, ◌==◌, nat_lt}
use Rattle.std.specs.List.{Contains}
use Rattle.std.specs.Option.{option_or}
use Rattle.std.specs.Ordering.{is_lt}
use Rattle.std.specs.Cmp.Lexicographic.{bytes_decides}
use Rattle.std.proofs.lemmas.Bool.{both_ways, eqb-true, ltb-true, ltb-false, and_parts}
use Rattle.std.proofs.lemmas.List.Elements.{All-contains_itself, recursion_from_All}
use Rattle.lists.specs.Distinct.{firsts}
use Rattle.card_type.specs.declared.card.Card.{Card}
use Rattle.mailbox_model.specs.declared.change.Change.{Change}
use Rattle.mailbox_model.specs.declared.change.Change.TheVariants.{Arrive, ArriveFault, Expunge, Seen, At}
use Rattle.mailbox_model.specs.declared.turn.Turn.TheVariants.{Nothing, Replace, Marked, Moved}
use Rattle.lists.specs.Sorted.{insert_by}
use Rattle.mailbox_model.specs.Mailbox.{Mailbox, after, RiseBelow}
use Rattle.mailbox_model.specs.Present.{Mail, spot, mail_cmp, mails, same_id, present, same_uid}
use Rattle.mailbox_model.specs.Turns.{arriving, is_mail, is_unseen, mark_mail, turn, turn_in, turn_out, turn_without, Turns, MovesClock, IsTurn}
use Rattle.lists.proofs.DistinctLaws.{IsDistinct-firsts}
use Rattle.lists.proofs.Rising.{Rising, Rising-filter, Rising-firsts, firsts-insert_by, is_preceded, unlike}
use Rattle.lists.proofs.Inserts.{None_of, none_found, none_from_found, none_filtered, filter_none, All-filter, All-firsts, found_all, found_passes, find-firsts, find-insert_by, OneAtMost, one_at_most, put_back, preceded_none, preceded_first}
use Rattle.mailbox_model.proofs.MailLaws.{is_below, is_never_back, is_alike, uid_alike, line_of, mails-arrive, mails-fault, mails-expunge, mails-seen}

-- what is present of all and y: y among the others, unless one with its id precedes it
abbrev displaced : Mail → List Mail → List Mail → List Mail
displaced y all ps = if is_preceded same_id mail_cmp y all then ps else insert_by mail_cmp y (unlike same_id mail_cmp y ps)

same_for : (y x z : Mail) → same_id x z ≡ true → same_id y x ≡ same_id y z
same_for y x z e = is_alike.turn y x ∙ is_alike.alike x z y e ∙ is_alike.turn z y

-- the first of the id of y, among the present and among all
found_both : (y : Mail) (zs : List Mail) → find (same_id y) (firsts same_id zs) ≡ find (same_id y) zs
found_both y zs = find-firsts same_id (same_id y) (same_for y) zs

-- the present ones with u inserted again where one with the id of y is found
taken : (y u : Mail) (zs : List Mail) → Rising mail_cmp zs → find (same_id y) (firsts same_id zs) ≡ Some u
    → firsts same_id zs ≡ insert_by mail_cmp u (unlike same_id mail_cmp y (firsts same_id zs))
taken y u zs r e =
    put_back mail_cmp is_below is_never_back (same_id y) u (firsts same_id zs) (Rising-firsts same_id mail_cmp zs r)
    (one_at_most mail_cmp same_id is_alike (same_id y) (λ x z h. sym (is_alike.alike y x z h)) (firsts same_id zs) (IsDistinct-firsts same_id zs)) e

same_bytes : (y u : Mail) → same_id y u ≡ true → y.placed.card.id ≡ u.placed.card.id
same_bytes y u e = (bytes_decides y.placed.card.id u.placed.card.id).0 e

-- ---- an new_entry

arrived : (m : Mailbox) (card : Card) → RiseBelow 1 m.entries m.next_uid
    → present (after m (Arrive card)) ≡ displaced (arriving m card) (mails m) (present m)
arrived m card u =
    ap (firsts same_id) (mails-arrive m card)
    ∙ firsts-insert_by same_id mail_cmp is_alike is_below (arriving m card) (mails m) (line_of m u).rising

pub arrive_turn : (m : Mailbox) (card : Card) → RiseBelow 1 m.entries m.next_uid → (o : Option Mail)
    → find (same_id (arriving m card)) (present m) ≡ o →
    Turns (present m) (present (after m (Arrive card))) m.now (turn_in (arriving m card) o)
arrive_turn m card u None e =
    let y = arriving m card in
    let first : is_preceded same_id mail_cmp y (mails m) ≡ false = preceded_none mail_cmp is_below is_never_back same_id y (mails m) (none_from_found (same_id y) (mails m) (sym (found_both y (mails m)) ∙ e)) in
    (y, refl, arrived m card u ∙ rw first (ap (insert_by mail_cmp y) (none_filtered (same_id y) (present m) (none_from_found (same_id y) (present m) e))))
arrive_turn m card u (Some x) e =
    elim (is_lt (mail_cmp y x)) as (λ b. is_lt (mail_cmp y x) ≡ b → Turns (present m) (present (after m (Arrive card))) m.now (if b then Replace (spot x.placed) (spot y.placed) else Nothing)) [
      | true ↦ λ h. (
        x,
        y,
        refl,
        refl,
        record {
          apart = λ k. let low : x.placed.uid < m.next_uid = found_all (λ z. z.placed.uid < m.next_uid) (same_id y) (present m) x (All-firsts (λ z. z.placed.uid < m.next_uid) same_id (mails m) (line_of m u).under) e in omega (arith, k);
          id = sym (same_bytes y x (found_passes (same_id y) (present m) x e));
          others = unlike same_id mail_cmp y (present m);
          first = taken y x (mails m) (line_of m u).rising e;
          second = arrived m card u ∙ rw (after_x ∙ ap not h) refl;
        },
      )
      | false ↦ λ h. arrived m card u ∙ rw (after_x ∙ ap not h) refl
    ] refl
  where
    y : Mail
    y = arriving m card

    after_x : is_preceded same_id mail_cmp y (mails m) ≡ not (is_lt (mail_cmp y x))
    after_x =
        preceded_first mail_cmp is_below is_never_back same_id y x (mails m) (line_of m u).rising (sym (found_both y (mails m)) ∙ e)

-- ---- an expunge

module _ (m : Mailbox) (uid : ℕ) (u : RiseBelow 1 m.entries m.next_uid) where
  abbrev n : Mailbox
  n = after m (Expunge uid)

  gone : None_of (is_mail uid) (mails n)
  gone = subst (None_of (is_mail uid)) (sym (mails-expunge m uid u)) (filter_none (is_mail uid) (mails m))

  gone_present : None_of (is_mail uid) (present n)
  gone_present = All-firsts (λ z. is_mail uid z ≡ false) same_id (mails n) gone

  rising_left : Rising mail_cmp (mails n)
  rising_left =
      subst (Rising mail_cmp) (sym (mails-expunge m uid u)) (Rising-filter mail_cmp (λ z. not (is_mail uid z)) (mails m) (line_of m u).rising)

  -- where none had the uid
  none_left : None_of (is_mail uid) (mails m)
      → Turns (present m) (present n) m.now (turn_without (find (is_mail uid) (present m)) (present n))
  none_left none =
      subst (λ o. Turns (present m) (present n) m.now (turn_without o (present n)))
      (sym (none_found (is_mail uid) (present m) (All-firsts (λ z. is_mail uid z ≡ false) same_id (mails m) none)))
      (ap (firsts same_id) (mails-expunge m uid u ∙ none_filtered (is_mail uid) (mails m) none))

  module _ (y : Mail) (e : find (is_mail uid) (mails m) ≡ Some y) where
    its_uid : is_mail uid y ≡ true
    its_uid = found_passes (is_mail uid) (mails m) y e

    uid_at_most_once : OneAtMost mail_cmp (is_mail uid) (mails m)
    uid_at_most_once =
        one_at_most mail_cmp same_uid uid_alike (is_mail uid) (λ x z h. same x z h) (mails m) (line_of m u).once
      where
        same : (x z : Mail) → is_mail uid x ≡ true → same_uid x z ≡ is_mail uid z
        same x z h = ap (λ k. k == z.placed.uid) (eqb-true x.placed.uid uid h) ∙ uid_alike.turn (record z { placed = record z.placed { uid = uid } }) z

    before : present m ≡ displaced y (mails n) (present n)
    before =
        ap (firsts same_id) (put_back mail_cmp is_below is_never_back (is_mail uid) y (mails m) (line_of m u).rising uid_at_most_once e ∙ ap (insert_by mail_cmp y) (sym (mails-expunge m uid u)))
        ∙ firsts-insert_by same_id mail_cmp is_alike is_below y (mails n) rising_left

    -- it came after one with its id
    hidden : is_preceded same_id mail_cmp y (mails n) ≡ true
        → Turns (present m) (present n) m.now (turn_without (find (is_mail uid) (present m)) (present n))
    hidden b =
        let same : present m ≡ present n = before ∙ rw b refl in
        subst (λ o. Turns (present m) (present n) m.now (turn_without o (present n)))
        (sym (ap (find (is_mail uid)) same ∙ none_found (is_mail uid) (present n) gone_present)) (sym same)

    -- it was present, and the next one with its id is now, if there is one
    was_present : is_preceded same_id mail_cmp y (mails n) ≡ false
        → Turns (present m) (present n) m.now (turn_without (find (is_mail uid) (present m)) (present n))
    was_present b =
        let was : present m ≡ insert_by mail_cmp y (unlike same_id mail_cmp y (present n)) = before ∙ rw b refl in
        let here : find (is_mail uid) (present m) ≡ Some y =
        ap (find (is_mail uid)) was
        ∙ find-insert_by mail_cmp (is_mail uid) y (unlike same_id mail_cmp y (present n)) its_uid (All-filter (λ z. is_mail uid z ≡ false) (λ z. not (same_id y z)) (present n) gone_present) in
        subst (λ o. Turns (present m) (present n) m.now (turn_without o (present n))) (sym here) (next was (find (same_id y) (present n)) refl)
      where
        next : present m ≡ insert_by mail_cmp y (unlike same_id mail_cmp y (present n)) → (o : Option Mail)
            → find (same_id y) (present n) ≡ o → Turns (present m) (present n) m.now (turn_out y o)
        next was None k =
            (y, refl, was ∙ ap (insert_by mail_cmp y) (none_filtered (same_id y) (present n) (none_from_found (same_id y) (present n) k)))
        next was (Some z) k = (
          y,
          z,
          refl,
          refl,
          record {
            apart = λ s. both_ways (is_mail uid z) (found_all (λ z. is_mail uid z ≡ false) (same_id y) (present n) z gone_present k) (ap (λ i. i == uid) (sym s) ∙ its_uid);
            id = same_bytes y z (found_passes (same_id y) (present n) z k);
            others = unlike same_id mail_cmp y (present n);
            first = was;
            second = taken y z (mails n) rising_left k;
          },
        )

  pub expunge_turn : Turns (present m) (present n) m.now (turn m (Expunge uid))
  expunge_turn = by (find (is_mail uid) (mails m)) refl
    where
      by : (o : Option Mail) → find (is_mail uid) (mails m) ≡ o
          → Turns (present m) (present n) m.now (turn m (Expunge uid))
      by None e = none_left (none_from_found (is_mail uid) (mails m) e)
      by (Some y) e =
          elim (is_preceded same_id mail_cmp y (mails n)) as (λ b. is_preceded same_id mail_cmp y (mails n) ≡ b → Turns (present m) (present n) m.now (turn m (Expunge uid))) [
            | true ↦ λ b. hidden y e b
            | false ↦ λ b. was_present y e b
          ] refl

-- ---- a seen mark

same_seen : (uid now : ℕ) (a b : Mail) → same_id (mark_mail uid now a) (mark_mail uid now b) ≡ same_id a b
same_seen uid now a b =
    elim (is_mail uid a) as (λ c. same_id (if c then record a { seen = option_or a.seen (Some now) } else a) (mark_mail uid now b) ≡ same_id a b) [
      | true ↦ elim (is_mail uid b) as (λ c. same_id a (if c then record b { seen = option_or b.seen (Some now) } else b) ≡ same_id a b) [ true ↦ refl | false ↦ refl ]
      | false ↦ elim (is_mail uid b) as (λ c. same_id a (if c then record b { seen = option_or b.seen (Some now) } else b) ≡ same_id a b) [ true ↦ refl | false ↦ refl ]
    ]

filter-map : {X : Type 0} (f : X → X) (p q : X → Bool) → ((x : X) → p (f x) ≡ q x) → (xs : List X)
    → filter p (map f xs) ≡ map f (filter q xs)
filter-map f p q h [] = refl
filter-map f p q h (x ∷ xs) = rw (h x) (elim (q x) as (λ b. cond b (f x ∷ filter p (map f xs)) (filter p (map f xs)) ≡ map f (cond b (x ∷ filter q xs) (filter q xs))) [ true ↦ ap (λ ys. f x ∷ ys) (filter-map f p q h xs) | false ↦ filter-map f p q h xs ])

firsts-map : {X : Type 0} (same : X → X → Bool) (f : X → X) → ((x y : X) → same (f x) (f y) ≡ same x y) → (xs : List X)
    → firsts same (map f xs) ≡ map f (firsts same xs)
firsts-map same f h [] = refl
firsts-map same f h (x ∷ xs) =
    ap (λ ys. f x ∷ filter (λ y. not (same (f x) y)) ys) (firsts-map same f h xs)
    ∙ ap (λ ys. f x ∷ ys) (filter-map f (λ y. not (same (f x) y)) (λ y. not (same x y)) (λ y. ap not (h x y)) (firsts same xs))

present-seen : (m : Mailbox) (uid : ℕ) → present (after m (Seen uid)) ≡ map (mark_mail uid m.now) (present m)
present-seen m uid =
    ap (firsts same_id) (mails-seen m uid)
    ∙ firsts-map same_id (mark_mail uid m.now) (same_seen uid m.now) (mails m)

-- one that is not unseen under the uid stays as it is
stays : (uid now : ℕ) (t : Mail) → is_unseen uid t ≡ false → mark_mail uid now t ≡ t
stays uid now t h =
    elim (is_mail uid t) as (λ b. (b && not (is_some t.seen)) ≡ false → (if b then record t { seen = option_or t.seen (Some now) } else t) ≡ t) [
      | true ↦ λ k. by t.seen refl k
      | false ↦ λ k. refl
    ] h
  where
    by : (o : Option ℕ) → t.seen ≡ o → not (is_some t.seen) ≡ false → record t { seen = option_or t.seen (Some now) } ≡ t
    by (Some s) e k = λ i. record t { seen = (ap (λ o. option_or o (Some now)) e ∙ sym e) i }
    by None e k = absurd (both_ways (not (is_some t.seen)) k (ap (λ o. not (is_some o)) e))

all_stay : (uid now : ℕ) (ts : List Mail) → None_of (is_unseen uid) ts → map (mark_mail uid now) ts ≡ ts
all_stay uid now [] n = refl
all_stay uid now (t ∷ ts) n = λ i. stays uid now t n.0 i ∷ all_stay uid now ts n.1 i

pub seen_turn : (m : Mailbox) (uid : ℕ) → Turns (present m) (present (after m (Seen uid))) m.now (turn m (Seen uid))
seen_turn m uid = by (find (is_unseen uid) (present m)) refl
  where
    by : (o : Option Mail) → find (is_unseen uid) (present m) ≡ o
        → Turns (present m) (present (after m (Seen uid))) m.now (if is_some o then Marked uid else Nothing)
    by None e = present-seen m uid ∙ all_stay uid m.now (present m) (none_from_found (is_unseen uid) (present m) e)
    by (Some t) e =
        let passes = and_parts (is_mail uid t) (not (is_some t.seen)) (found_passes (is_unseen uid) (present m) t e) in
        (t, found_all (Contains (present m)) (is_unseen uid) (present m) t (recursion_from_All (Contains (present m)) (present m) (All-contains_itself (present m))) e, eqb-true t.placed.uid uid passes.0, unseen t.seen refl passes.1, present-seen m uid)
      where
        unseen : (o : Option ℕ) → t.seen ≡ o → not (is_some t.seen) ≡ true → t.seen ≡ None
        unseen None h k = h
        unseen (Some s) h k = absurd (both_ways (not (is_some t.seen)) (ap (λ o. not (is_some o)) h) k)

-- ---- every change

pub present_turn : (m : Mailbox) (change : Change) → RiseBelow 1 m.entries m.next_uid
    → Turns (present m) (present (after m change)) m.now (turn m change)
present_turn m (Arrive card) u = arrive_turn m card u (find (same_id (arriving m card)) (present m)) refl
present_turn m (ArriveFault fault) u = ap (firsts same_id) (mails-fault m fault)
present_turn m (Expunge uid) u = expunge_turn m uid u
present_turn m (Seen uid) u = seen_turn m uid
present_turn m (At moment) u =
    elim (nat_lt m.now moment) as (λ b. Turns (present m) (present m) m.now (if b then Moved moment else Nothing)) [ true ↦ refl | false ↦ refl ]

pub clock_turn : (m : Mailbox) (change : Change) → MovesClock m.now (after m change).now (turn m change)
clock_turn m (Arrive card) = by (find (same_id (arriving m card)) (present m))
  where
    by : (o : Option Mail) → MovesClock m.now m.now (turn_in (arriving m card) o)
    by None = refl
    by (Some x) =
        elim (is_lt (mail_cmp (arriving m card) x)) as (λ b. MovesClock m.now m.now (if b then Replace (spot x.placed) (spot (arriving m card).placed) else Nothing)) [ true ↦ refl | false ↦ refl ]
clock_turn m (ArriveFault fault) = refl
clock_turn m (Expunge uid) = by (find (is_mail uid) (present m))
  where
    to : (t : Mail) (o : Option Mail) → MovesClock m.now m.now (turn_out t o)
    to t None = refl
    to t (Some u) = refl

    by : (o : Option Mail) → MovesClock m.now m.now (turn_without o (present (after m (Expunge uid))))
    by None = refl
    by (Some t) = to t (find (same_id t) (present (after m (Expunge uid))))
clock_turn m (Seen uid) =
    elim (is_some (find (is_unseen uid) (present m))) as (λ b. MovesClock m.now m.now (if b then Marked uid else Nothing)) [ true ↦ refl | false ↦ refl ]
clock_turn m (At moment) =
    elim (nat_lt m.now moment) as (λ b. nat_lt m.now moment ≡ b → MovesClock m.now (max m.now moment) (if b then Moved moment else Nothing)) [
      | true ↦ λ e. (ltb-true m.now moment e, omega (arith, ltb-true m.now moment e))
      | false ↦ λ e. omega (arith, ltb-false m.now moment e)
    ] refl

pub turn_law : (m : Mailbox) (change : Change) → RiseBelow 1 m.entries m.next_uid → IsTurn m (after m change) (turn m change)
turn_law m change u = record { present = present_turn m change u; clock = clock_turn m change }
