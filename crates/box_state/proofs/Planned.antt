-- What the kept spots say of the present mails, and so of what a change would do to them.
use Rattle.std.proofs.Common.{◌≡◌, ◌≢◌, refl, sym, ap, ◌∙◌, subst, ℕ, zero, suc, ◌==◌, Bool, true, false, not, ◌&&◌, cond, is_some, Option, Some, None, Result, Ok, Err, List, [], ◌∷◌, slice_get}
use Rattle.std.specs.Prelude.{if◌then◌else◌, filter, find, option_map, option_and_then}
use Rattle.std.specs.List.{AllByRecursion, IsDistinct}
use Rattle.std.specs.Option.{option_map_or}
use Rattle.std.specs.Cmp.Lexicographic.{bytes_decides}
use Rattle.std.proofs.lemmas.Bool.{false≢true, eq-eqb, eqb-true}
use Rattle.std.proofs.lemmas.Option.{slice_get-map}
use Rattle.kit.specs.Options.{◌>>=◌}
use Rattle.card_type.specs.declared.card.Card.{Card}
use Rattle.card_type.specs.declared.spot.Spot.{Spot}
use Rattle.lists.proofs.Inserts.{None_of, none_filtered, none_from_found, All-filter, found_all, found_passes}
use Rattle.mailbox_model.specs.declared.change.Fault.{Fault}
use Rattle.mailbox_model.specs.declared.change.Change.TheVariants.{Expunge, Seen}
use Rattle.mailbox_model.specs.declared.turn.Turn.TheVariants.{Nothing, Remove, Replace, Marked}
use Rattle.mailbox_model.specs.Lists.{Bytes}
use Rattle.mailbox_model.specs.Mailbox.{Mailbox, Entry, item_of, entry_at, item_at, after, RiseBelow}
use Rattle.mailbox_model.specs.Present.{Mail, mail_by, mail_of, spot_of, has_id, same_id, same_uid, mail_at, mails, present}
use Rattle.mailbox_model.specs.Turns.{is_mail, is_unseen, turn, turn_out, turn_without}
use Rattle.mailbox_model.proofs.MailLaws.{line_of, mails-expunge}
use Rattle.mailbox_model.proofs.PresentLaws.{present_first, present_once}
use Rattle.mailbox_model.proofs.UidLaws.{mails_own, present_own}
use Rattle.box_state.specs.Spots.{SpotTable, spot_at, copies_at}
use Rattle.box_state.specs.Inside.{AreSpots}
use Rattle.box_state.proofs.Places.{spot_in, copy_in, mail_with}

-- ---- lists

first_found : {X : Type 0} (p : X → Bool) (xs : List X) → find p xs ≡ slice_get (filter p xs) 0
first_found p [] = refl
first_found p (x ∷ xs) = elim (p x) as (λ b. cond b (Some x) (find p xs) ≡ slice_get (cond b (x ∷ filter p xs) (filter p xs)) 0) [ true ↦ refl | false ↦ first_found p xs ]

at_index : {X : Type 0} (P : X → Type 0) (xs : List X) (n : ℕ) (x : X) → AllByRecursion P xs → slice_get xs n ≡ Some x → P x
at_index P [] n x a h = cc
at_index P (y ∷ ys) zero x a h = let same : y ≡ x = cc in subst P same a.0
at_index P (y ∷ ys) (suc n) x a h = at_index P ys n x a.1 h

-- one is found by each test that it alone passes
only_found : {X : Type 0} (p q : X → Bool) (xs : List X) (x : X) → find p xs ≡ Some x → q x ≡ true
    → AllByRecursion (λ y. q y ≡ true → y ≡ x) xs → find q xs ≡ Some x
only_found p q [] x h k a = cc
only_found {X} p q (y ∷ ys) x h k a = by (q y) refl (λ r. only_found p q ys x r k a.1)
  where
    rest : (b : Bool) → cond b (Some y) (find p ys) ≡ Some x → q y ≡ false → find p ys ≡ Some x
    rest true h e = let same : y ≡ x = cc in absurd (false≢true (sym e ∙ ap q same ∙ k))
    rest false h e = h

    by : (b : Bool) → q y ≡ b → (find p ys ≡ Some x → find q ys ≡ Some x) → cond b (Some y) (find q ys) ≡ Some x
    by true e ih = ap Some (a.0 e)
    by false e ih = ih (rest (p y) h e)

none_passes : {X : Type 0} (q : X → Bool) (xs : List X) → AllByRecursion (λ y. q y ≢ true) xs → find q xs ≡ None
none_passes q [] a = refl
none_passes q (x ∷ xs) a =
    elim (q x) as (λ b. q x ≡ b → cond b (Some x) (find q xs) ≡ None) [ true ↦ λ e. absurd (a.0 e) | false ↦ λ e. none_passes q xs a.1 ] refl

each : {X : Type 0} (P Q : X → Type 0) → ((x : X) → P x → Q x) → (xs : List X) → AllByRecursion P xs → AllByRecursion Q xs
each P Q h [] a = tt
each P Q h (x ∷ xs) a = (h x a.0, each P Q h xs a.1)

both : {X : Type 0} (P Q : X → Type 0) (xs : List X) → AllByRecursion P xs → AllByRecursion Q xs → AllByRecursion (λ x. P x × Q x) xs
both P Q [] a b = tt
both P Q (x ∷ xs) a b = ((a.0, b.0), both P Q xs a.1 b.1)

-- ---- mails with one id, or with one uid

id_alone : (id : Bytes) (ts : List Mail) (p : Mail) → IsDistinct same_id ts → find (has_id id) ts ≡ Some p
    → AllByRecursion (λ t. has_id id t ≡ true → t ≡ p) ts
unfolding IsDistinct
id_alone id [] p d h = tt
id_alone id (t ∷ ts) p d h = by (has_id id t) refl h (λ k. id_alone id ts p d.1 k)
  where
    others : (us : List Mail) → has_id id t ≡ true → AllByRecursion (λ u. same_id t u ≡ false) us → AllByRecursion (λ u. has_id id u ≡ true → u ≡ p) us
    others [] e a = tt
    others (u ∷ us) e a =
        (λ k. absurd (false≢true (sym a.0 ∙ (bytes_decides t.placed.card.id u.placed.card.id).1 (sym ((bytes_decides id t.placed.card.id).0 e) ∙ (bytes_decides id u.placed.card.id).0 k))), others us e a.1)

    by : (b : Bool) → has_id id t ≡ b → cond b (Some t) (find (has_id id) ts) ≡ Some p
        → (find (has_id id) ts ≡ Some p → AllByRecursion (λ u. has_id id u ≡ true → u ≡ p) ts)
        → (has_id id t ≡ true → t ≡ p) × AllByRecursion (λ u. has_id id u ≡ true → u ≡ p) ts
    by true e h ih = let same : t ≡ p = cc in ((λ k. same), others ts e d.0)
    by false e h ih = ((λ k. absurd (false≢true (sym e ∙ k))), ih h)

-- the first of those that pass a test goes: the second is the first
second_found : (p : Mail → Bool) (uid : ℕ) (ts : List Mail) (t : Mail) → IsDistinct same_uid ts → find p ts ≡ Some t → t.placed.uid ≡ uid
    → find p (filter (λ u. not (is_mail uid u)) ts) ≡ slice_get (filter p ts) 1
unfolding IsDistinct
second_found p uid [] t d h k = cc
second_found p uid (x ∷ xs) t d h k = by (p x) refl h (λ f. second_found p uid xs t d.1 f k)
  where
    left : List Mail
    left = filter (λ u. not (is_mail uid u)) xs

    others : (ys : List Mail) → x.placed.uid ≡ uid → AllByRecursion (λ u. same_uid x u ≡ false) ys → None_of (is_mail uid) ys
    others [] e a = tt
    others (y ∷ ys) e a = (by (is_mail uid y) refl, others ys e a.1)
      where
        by : (b : Bool) → is_mail uid y ≡ b → b ≡ false
        by true f = absurd (false≢true (sym a.0 ∙ eq-eqb x.placed.uid y.placed.uid (e ∙ sym (eqb-true y.placed.uid uid f))))
        by false f = refl

    dropped : (b : Bool) → find p left ≡ slice_get (filter p xs) 1 → p x ≡ false → find p (cond b (x ∷ left) left) ≡ slice_get (filter p xs) 1
    dropped true h e = rw e h
    dropped false h e = h

    by : (b : Bool) → p x ≡ b → cond b (Some x) (find p xs) ≡ Some t → (find p xs ≡ Some t → find p left ≡ slice_get (filter p xs) 1)
        → find p (cond (not (is_mail uid x)) (x ∷ left) left) ≡ slice_get (cond b (x ∷ filter p xs) (filter p xs)) 1
    by true e h ih =
        let same : x ≡ t = cc in
        let here : x.placed.uid ≡ uid = ap (λ y. y.placed.uid) same ∙ k in
        rw (eq-eqb x.placed.uid uid here) (ap (find p) (none_filtered (is_mail uid) xs (others xs here d.0)) ∙ first_found p xs)
    by false e h ih = dropped (not (is_mail uid x)) (ih h) e

-- ---- in a mailbox that keeps the rules

module _ (m : Mailbox) (rises : RiseBelow 1 m.entries m.next_uid) where
  -- the present mail with a uid is the first of its id, or none is
  uid_present : (uid : ℕ) (t : Mail) → mail_at m uid ≡ Some t
      → find (is_mail uid) (present m) ≡ (find (has_id t.placed.card.id) (present m) >>= λ p. if p.placed.uid == uid then Some p else None)
  uid_present uid t is = by (find (has_id t.placed.card.id) (present m)) refl
    where
      own : AllByRecursion (λ x. mail_at m x.placed.uid ≡ Some x) (present m)
      own = present_own m rises

      -- a present mail with the uid is t
      is_it : (x : Mail) → mail_at m x.placed.uid ≡ Some x → is_mail uid x ≡ true → x ≡ t
      is_it x h e = let both : Some x ≡ Some t = sym h ∙ ap (mail_at m) (eqb-true x.placed.uid uid e) ∙ is in cc

      has : (x : Mail) → x ≡ t → has_id t.placed.card.id x ≡ true
      has x e = (bytes_decides t.placed.card.id x.placed.card.id).1 (ap (λ y. y.placed.card.id) (sym e))

      by : (o : Option Mail) → find (has_id t.placed.card.id) (present m) ≡ o
          → find (is_mail uid) (present m) ≡ (o >>= λ p. if p.placed.uid == uid then Some p else None)
      by None k =
          none_passes (is_mail uid) (present m)
          (each (λ x. (mail_at m x.placed.uid ≡ Some x) × (has_id t.placed.card.id x ≡ false)) (λ x. is_mail uid x ≢ true) (λ x h e. false≢true (sym h.1 ∙ has x (is_it x h.0 e))) (present m) (both (λ x. mail_at m x.placed.uid ≡ Some x) (λ x. has_id t.placed.card.id x ≡ false) (present m) own (none_from_found (has_id t.placed.card.id) (present m) k)))
      by (Some p) k =
          elim (p.placed.uid == uid) as (λ b. (p.placed.uid == uid) ≡ b → find (is_mail uid) (present m) ≡ (if b then Some p else None)) [
            | true ↦ λ e.
                let here = is_it p (found_all (λ x. mail_at m x.placed.uid ≡ Some x) (has_id t.placed.card.id) (present m) p own k) e in
                only_found (has_id t.placed.card.id) (is_mail uid) (present m) p k e (each (λ x. mail_at m x.placed.uid ≡ Some x) (λ x. is_mail uid x ≡ true → x ≡ p) (λ x h f. is_it x h f ∙ sym here) (present m) own)
            | false ↦ λ e.
                none_passes (is_mail uid) (present m)
                (each (λ x. (mail_at m x.placed.uid ≡ Some x) × (has_id t.placed.card.id x ≡ true → x ≡ p)) (λ x. is_mail uid x ≢ true) (λ x h f. false≢true (sym e ∙ ap (λ y. y.placed.uid == uid) (sym (h.1 (has x (is_it x h.0 f)))) ∙ f)) (present m) (both (λ x. mail_at m x.placed.uid ≡ Some x) (λ x. has_id t.placed.card.id x ≡ true → x ≡ p) (present m) own (id_alone t.placed.card.id (present m) p (present_once m) k)))
          ] refl

  uid_absent : (uid : ℕ) → mail_at m uid ≡ None → find (is_mail uid) (present m) ≡ None
  uid_absent uid none =
      none_passes (is_mail uid) (present m)
      (each (λ x. mail_at m x.placed.uid ≡ Some x) (λ x. is_mail uid x ≢ true) (λ x h e. let no : Some x ≡ None = sym h ∙ ap (mail_at m) (eqb-true x.placed.uid uid e) ∙ none in cc) (present m) (present_own m rises))

  -- a present mail is the first of its id
  first_of_id : (uid : ℕ) (t : Mail) → find (is_mail uid) (present m) ≡ Some t → find (has_id t.placed.card.id) (mails m) ≡ Some t
  first_of_id uid t h =
      let own = found_all (λ x. mail_at m x.placed.uid ≡ Some x) (is_mail uid) (present m) t (present_own m rises) h in
      let same = eqb-true t.placed.uid uid (found_passes (is_mail uid) (present m) t h) in
      sym (present_first m t.placed.card.id) ∙ by (find (has_id t.placed.card.id) (present m)) (sym (uid_present uid t (subst (λ u. mail_at m u ≡ Some t) same own)) ∙ h)
    where
      by : (o : Option Mail) → (o >>= λ p. if p.placed.uid == uid then Some p else None) ≡ Some t → o ≡ Some t
      by None e = cc
      by (Some p) e = at (p.placed.uid == uid) e
        where
          at : (b : Bool) → (if b then Some p else None) ≡ Some t → Some p ≡ Some t
          at true e = e
          at false e = cc

  module _ (table : SpotTable) (are : AreSpots m table) where
    -- the copies of an id are the mails with it, in mail order
    copy_spot : (id : Bytes) (n : ℕ)
        → option_and_then (λ copy. spot_at table copy.1) (slice_get (copies_at table id) n) ≡ option_map spot_in (slice_get (filter (has_id id) (mails m)) n)
    copy_spot id n =
        ap (λ cs. option_and_then (λ copy. spot_at table copy.1) (slice_get cs n)) (are.copies id)
        ∙ ap (option_and_then (λ copy. spot_at table copy.1)) (slice_get-map copy_in (filter (has_id id) (mails m)) n)
        ∙ by (slice_get (filter (has_id id) (mails m)) n) refl
      where
        by : (o : Option Mail) → slice_get (filter (has_id id) (mails m)) n ≡ o
            → option_and_then (λ copy. spot_at table copy.1) (option_map copy_in o) ≡ option_map spot_in o
        by None k = refl
        by (Some t) k =
            are.spots t.placed.uid
            ∙ ap (option_map spot_in) (at_index (λ x. mail_at m x.placed.uid ≡ Some x) (filter (has_id id) (mails m)) n t (All-filter (λ x. mail_at m x.placed.uid ≡ Some x) (has_id id) (mails m) (mails_own m rises)) k)

    pub first_is : (id : Bytes) → option_and_then (λ copy. spot_at table copy.1) (slice_get (copies_at table id) 0) ≡ spot_of m id
    first_is id = copy_spot id 0 ∙ ap (option_map spot_in) (sym (present_first m id ∙ first_found (has_id id) (mails m)))

    -- ---- the present spot of a uid

    own_mail : (uid : ℕ) (s : Spot) → spot_at table uid ≡ Some s → record { mail : Mail; there : mail_at m uid ≡ Some mail; spot_is : spot_in mail ≡ s }
    own_mail uid s h = by (mail_at m uid) refl (sym (are.spots uid) ∙ h)
      where
        by : (o : Option Mail) → mail_at m uid ≡ o → option_map spot_in o ≡ Some s → record { mail : Mail; there : mail_at m uid ≡ Some mail; spot_is : spot_in mail ≡ s }
        by None k e = cc
        by (Some t) k e = record { mail = t; there = k; spot_is = let same : spot_in t ≡ s = cc in same }

    pub no_spot_present : (uid : ℕ) → spot_at table uid ≡ None → option_map spot_in (find (is_mail uid) (present m)) ≡ None
    no_spot_present uid h = ap (option_map spot_in) (uid_absent uid (by (mail_at m uid) (sym (are.spots uid) ∙ h)))
      where
        by : (o : Option Mail) → option_map spot_in o ≡ None → o ≡ None
        by None e = refl
        by (Some t) e = cc

    pub spot_present : (uid : ℕ) (s : Spot) → spot_at table uid ≡ Some s
        → option_map spot_in (find (is_mail uid) (present m)) ≡ (spot_of m s.id >>= λ p. if p.uid == uid then Some p else None)
    spot_present uid s h =
        let own = own_mail uid s h in
        ap (option_map spot_in) (uid_present uid own.mail own.there) ∙ by (find (has_id own.mail.placed.card.id) (present m))
        ∙ ap (λ id. spot_of m id >>= λ p. if p.uid == uid then Some p else None) (ap (λ x. x.id) own.spot_is)
      where
        at : (b : Bool) (p : Mail) → option_map spot_in (if b then Some p else None) ≡ (if b then Some (spot_in p) else None)
        at true p = refl
        at false p = refl

        by : (o : Option Mail) → option_map spot_in (o >>= λ p. if p.placed.uid == uid then Some p else None) ≡ (option_map spot_in o >>= λ p. if p.uid == uid then Some p else None)
        by None = refl
        by (Some p) = at (p.placed.uid == uid) p

    -- ---- what an expunge would do

    pub stays : (uid : ℕ) → option_map spot_in (find (is_mail uid) (present m)) ≡ None → turn m (Expunge uid) ≡ Nothing
    stays uid h = by (find (is_mail uid) (present m)) h
      where
        by : (o : Option Mail) → option_map spot_in o ≡ None → turn_without o (present (after m (Expunge uid))) ≡ Nothing
        by None e = refl
        by (Some t) e = cc

    pub leaves : (uid : ℕ) (s : Spot) (next : Option Spot) → option_map spot_in (find (is_mail uid) (present m)) ≡ Some s
        → next ≡ option_and_then (λ copy. spot_at table copy.1) (slice_get (copies_at table s.id) 1)
        → turn m (Expunge uid) ≡ (option_map_or (λ n. Replace s n) next (Remove s))
    leaves uid s next h is = by (find (is_mail uid) (present m)) refl h
      where
        left : Mail → Option Mail
        left t = find (same_id t) (present (after m (Expunge uid)))

        second : (t : Mail) → find (is_mail uid) (present m) ≡ Some t → option_map spot_in (left t) ≡ option_map spot_in (slice_get (filter (has_id t.placed.card.id) (mails m)) 1)
        second t k =
            ap (option_map spot_in)
            (present_first (after m (Expunge uid)) t.placed.card.id ∙ ap (find (has_id t.placed.card.id)) (mails-expunge m uid rises)
            ∙ second_found (has_id t.placed.card.id) uid (mails m) t (line_of m rises).once (first_of_id uid t k) (eqb-true t.placed.uid uid (found_passes (is_mail uid) (present m) t k)))

        out : (t : Mail) (o : Option Mail) → turn_out t o ≡ option_map_or (λ n. Replace (spot_in t) n) (option_map spot_in o) (Remove (spot_in t))
        out t None = refl
        out t (Some u) = refl

        by : (o : Option Mail) → find (is_mail uid) (present m) ≡ o → option_map spot_in o ≡ Some s
            → turn_without o (present (after m (Expunge uid))) ≡ option_map_or (λ n. Replace s n) next (Remove s)
        by None k e = cc
        by (Some t) k e =
            let same : spot_in t ≡ s = cc in
            let others = is ∙ copy_spot s.id 1 ∙ ap (λ id. option_map spot_in (slice_get (filter (has_id id) (mails m)) 1)) (sym (ap (λ x. x.id) same)) ∙ sym (second t k) in
            out t (left t) ∙ (λ i. option_map_or (λ n. Replace (same i) n) (sym others i) (Remove (same i)))

  -- ---- what a seen mark would do

  some_unseen : (uid : ℕ) (b : Bool) (ts : List Mail) → AllByRecursion (λ t. is_mail uid t ≡ true → not (is_some t.seen) ≡ b) ts
      → is_some (find (is_unseen uid) ts) ≡ (b && is_some (find (is_mail uid) ts))
  some_unseen uid true [] a = refl
  some_unseen uid false [] a = refl
  some_unseen uid b (t ∷ ts) a = by (is_mail uid t) refl b a.0 (some_unseen uid b ts a.1)
    where
      by : (c : Bool) → is_mail uid t ≡ c → (b : Bool) → (is_mail uid t ≡ true → not (is_some t.seen) ≡ b)
          → is_some (find (is_unseen uid) ts) ≡ (b && is_some (find (is_mail uid) ts))
          → is_some (cond (c && not (is_some t.seen)) (Some t) (find (is_unseen uid) ts)) ≡ (b && is_some (cond c (Some t) (find (is_mail uid) ts)))
      by true e true h k = rw (h e) refl
      by true e false h k = rw (h e) k
      by false e b h k = k

  pub marks : (uid : ℕ) → is_some (find (is_unseen uid) (present m))
      ≡ (option_map_or (λ item. not (is_some item.seen)) (item_at m uid) false && is_some (find (is_mail uid) (present m)))
  marks uid =
      some_unseen uid (option_map_or (λ item. not (is_some item.seen)) (item_at m uid) false) (present m)
      (each (λ t. mail_at m t.placed.uid ≡ Some t) (λ t. is_mail uid t ≡ true → not (is_some t.seen) ≡ option_map_or (λ item. not (is_some item.seen)) (item_at m uid) false) unseen (present m) (present_own m rises))
    where
      read : (t : Mail) (e : Entry) (r : Result Card Fault) → mail_by e r ≡ Some t → not (is_some t.seen) ≡ not (is_some e.seen)
      read t e (Ok card) h = let same : mail_with e card ≡ t = cc in ap (λ x. not (is_some x.seen)) (sym same)
      read t e (Err fault) h = cc

      by : (t : Mail) (o : Option Entry) → (o >>= mail_of) ≡ Some t → not (is_some t.seen) ≡ option_map_or (λ item. not (is_some item.seen)) (option_map item_of o) false
      by t None h = cc
      by t (Some e) h = read t e e.read h

      unseen : (t : Mail) → mail_at m t.placed.uid ≡ Some t → is_mail uid t ≡ true → not (is_some t.seen) ≡ option_map_or (λ item. not (is_some item.seen)) (item_at m uid) false
      unseen t own e = by t (entry_at m uid) (ap (mail_at m) (sym (eqb-true t.placed.uid uid e)) ∙ own)

  some_map : {X Y : Type 0} (f : X → Y) (o : Option X) → is_some (option_map f o) ≡ is_some o
  some_map f None = refl
  some_map f (Some x) = refl

  pub marked_if : (uid : ℕ) (there : Option Spot) (unseen : Bool) → there ≡ option_map spot_in (find (is_mail uid) (present m))
      → unseen ≡ option_map_or (λ item. not (is_some item.seen)) (item_at m uid) false
      → turn m (Seen uid) ≡ (if unseen && is_some there then Marked uid else Nothing)
  marked_if uid there unseen is same =
      ap (λ b. if b then Marked uid else Nothing)
      (marks uid ∙ (λ i. sym same i && sym (some_map spot_in (find (is_mail uid) (present m))) i) ∙ ap (λ o. unseen && is_some o) (sym is))

  and_false : (b : Bool) → (b && false) ≡ false
  and_false true = refl
  and_false false = refl

  pub not_marked : (uid : ℕ) (there : Option Spot) → there ≡ option_map spot_in (find (is_mail uid) (present m)) → is_some there ≡ false
      → turn m (Seen uid) ≡ Nothing
  not_marked uid there is none =
      let unseen = option_map_or (λ item. not (is_some item.seen)) (item_at m uid) false in
      marked_if uid there unseen is refl ∙ ap (λ b. if b then Marked uid else Nothing) (ap (λ b. unseen && b) none ∙ and_false unseen)
