-- The deadlines that are taken out one after the other are those of the rows that fall due.
use Rattle.std.proofs.Common.{◌≡◌, refl, sym, ap, ◌∙◌, subst, ℕ, ◌+◌, ◌<◌, ◌≤◌, Bool, true, false, ◌||◌, ◌&&◌, ◌==◌, nat_eq, cond, Option, Some, None, is_some, List, [], ◌∷◌, arith}
use Rattle.std.specs.Prelude.{if◌then◌else◌, find, nat_le}
use Rattle.std.specs.List.{list_any, AllByRecursion, IsDistinct}
use Rattle.std.specs.Option.{option_and_then, option_map, option_map_or}
use Rattle.std.specs.Str.{bytes_eq}
use Rattle.std.specs.Cmp.Lexicographic.{bytes_decides}
use Rattle.std.proofs.Math.Bool.{or_assoc, or_comm, or-false}
use Rattle.std.proofs.lemmas.Bool.{both_ways, eq-eqb, eqb-true, le-leb, leb-true, false≢true, false_from_ne_true}
use Rattle.lists.proofs.Inserts.{agree, All-filter, filter_none, found_all, found_passes, none_found}
use Rattle.card_type.specs.declared.card.Card.{Card}
use Rattle.card_type.specs.Effects.{is_among}
use Rattle.mailbox_model.specs.Lists.{Bytes}
use Rattle.mailbox_model.specs.Mailbox.{Mailbox, IsMailbox, card_at}
use Rattle.mailbox_model.specs.Present.{Mail, mail_at, has_id, present, contents}
use Rattle.mailbox_model.specs.Rows.{expiry, row}
use Rattle.mailbox_model.specs.Turns.{is_mail}
use Rattle.mailbox_model.proofs.UidLaws.{present_own}
use Rattle.touched_chats.specs.Suspects.{is_due, falls_due, uid_falls_due}
use Rattle.touched_chats.proofs.Among.{any_found, found_any, found_among, among_all}
use Rattle.touched_chats.proofs.CardsOfSuspects.{found_by_id}
use Rattle.touched_chats.proofs.Lists.{each_not}
use Rattle.touched_chats.proofs.Near.{is_content_mail}
use Rattle.touched_chats.proofs.Telling.{contents_by_uid}
use Rattle.timers.specs.Deadlines.{without_uid}
use Rattle.indexes.specs.Kept.{deadline_at, deadline_of, AreDeadlines}
use Rattle.indexes.proofs.Mails.{card_is}
use Rattle.repair.specs.Due.{ReadsDue}

abbrev pub Deadlines : Type 0
Deadlines = List (ℕ × ℕ)

-- ---- a deadline that is reached

abbrev is_reached : ℕ → Option ℕ → Bool
is_reached now deadline = option_map_or (λ end. nat_le end now) deadline false

due_is : (m : Mailbox) (now : ℕ) (t : Mail) → is_due m now t ≡ is_reached now (deadline_of m t)
due_is m now t = by (is_some (row m t))
  where
    by : (b : Bool) → (b && is_reached now (expiry m.me t)) ≡ is_reached now (if b then expiry m.me t else None)
    by true = refl
    by false = refl

-- the first one is that of its uid, and the others have theirs
own_deadline : (end uid : ℕ) (left : Deadlines) → deadline_at ((end, uid) ∷ left) uid ≡ Some end
own_deadline end uid left = rw (eq-eqb uid uid refl) refl

other_deadline : (end uid other : ℕ) (left : Deadlines) → (uid == other) ≡ false → deadline_at ((end, uid) ∷ left) other ≡ deadline_at left other
other_deadline end uid other left h = rw h refl

none_left : (uid : ℕ) (left : Deadlines) → without_uid uid left ≡ left → deadline_at left uid ≡ None
none_left uid left h =
    ap (λ ds. deadline_at ds uid) (sym h)
    ∙ ap (option_map (λ d. d.0)) (none_found (λ d. d.1 == uid) (without_uid uid left) (filter_none (λ d. d.1 == uid) left))

-- where none is reached, that of no uid is
none_reached : (now : ℕ) (left : Deadlines) (uid : ℕ) → AllByRecursion (λ d. now < d.0) left → is_reached now (deadline_at left uid) ≡ false
none_reached now [] uid a = refl
none_reached now (d ∷ left) uid a = by (d.1 == uid) (none_reached now left uid a.1)
  where
    later : nat_le d.0 now ≡ false
    later = false_from_ne_true (nat_le d.0 now) (λ h. let le = leb-true d.0 now h in let lt : now < d.0 = a.0 in omega (arith, le, lt))

    by : (b : Bool) → is_reached now (deadline_at left uid) ≡ false
        → is_reached now (option_map (λ e. e.0) (cond b (Some d) (find (λ e. e.1 == uid) left))) ≡ false
    by true rest = later
    by false rest = rest

module _ (m : Mailbox) (now : ℕ) where
  -- the content card with a uid has the id
  abbrev pub is_of : Bytes → ℕ → Bool
  is_of id uid = option_map_or (has_id id) (find (is_mail uid) (contents m)) false

  -- the deadlines of some uids were taken out, and their ids put in
  pub record IsDrained (timers left : Deadlines) (before ids : List Bytes) (old new : ℕ) : Type 0 where
    pub read : ReadsDue m now old new
    pub rest : (uid : ℕ) → deadline_at left uid ≡ (if list_any (nat_eq uid) read.uids then None else deadline_at timers uid)
    pub noted : (id : Bytes) → is_among ids id ≡ (is_among before id || list_any (is_of id) read.uids)

  pub none_drained : (timers : Deadlines) (ids : List Bytes) (steps : ℕ) → IsDrained timers timers ids ids steps steps
  unfolding IsDistinct
  none_drained timers ids steps = record {
    read = record { uids = []; once = tt; due = tt; cost = omega arith };
    rest = λ uid. refl;
    noted = λ id. sym (or-false (is_among ids id));
  }

  module _ (rules : IsMailbox m) (timers : Deadlines) (kept : AreDeadlines m (present m) timers) where
    falls_is : (uid : ℕ) → uid_falls_due m now uid ≡ is_reached now (deadline_at timers uid)
    falls_is uid = by (find (is_mail uid) (contents m)) ∙ ap (is_reached now) (sym (kept uid))
      where
        by : (o : Option Mail) → option_map_or (is_due m now) o false ≡ is_reached now (option_and_then (deadline_of m) o)
        by None = refl
        by (Some t) = due_is m now t

    content_card : (uid : ℕ) (t : Mail) → find (is_mail uid) (contents m) ≡ Some t → card_at m uid ≡ Some t.placed.card
    content_card uid t h =
        let each = All-filter (λ u. mail_at m u.placed.uid ≡ Some u) is_content_mail (present m) (present_own m rules.uids) in
        let at : mail_at m t.placed.uid ≡ Some t = found_all (λ u. mail_at m u.placed.uid ≡ Some u) (is_mail uid) (contents m) t each h in
        let own : t.placed.uid ≡ uid = eqb-true t.placed.uid uid (found_passes (is_mail uid) (contents m) t h) in
        card_is m uid t (subst (λ n. mail_at m n ≡ Some t) own at)

    -- ---- one more is taken out

    module _ {held : Deadlines} {before ids : List Bytes} {old new : ℕ} (drained : IsDrained timers held before ids old new) (left : Deadlines)
        (uid : ℕ) (taken : (end : ℕ) × (end ≤ now) × (held ≡ (end, uid) ∷ left)) (once : without_uid uid left ≡ left) where
      abbrev uids : List ℕ
      uids = drained.read.uids

      held_own : deadline_at held uid ≡ Some taken.0
      held_own = ap (λ ds. deadline_at ds uid) taken.2 ∙ own_deadline taken.0 uid left

      fresh : list_any (nat_eq uid) uids ≡ false
      fresh = by (list_any (nat_eq uid) uids) refl
        where
          by : (b : Bool) → list_any (nat_eq uid) uids ≡ b → b ≡ false
          by true e =
              let gone : None ≡ Some taken.0 = sym (ap (λ b. if b then None else deadline_at timers uid) e) ∙ sym (drained.rest uid) ∙ held_own in
              cc
          by false e = refl

      was : deadline_at timers uid ≡ Some taken.0
      was = ap (λ b. if b then None else deadline_at timers uid) (sym fresh) ∙ sym (drained.rest uid) ∙ held_own

      falls : uid_falls_due m now uid ≡ true
      falls = falls_is uid ∙ ap (is_reached now) was ∙ le-leb taken.0 now taken.1

      -- it is that of a content mail
      pub due_mail : (t : Mail) × (find (is_mail uid) (contents m) ≡ Some t)
      due_mail = by (find (is_mail uid) (contents m)) refl (sym (kept uid) ∙ was)
        where
          by : (o : Option Mail) → find (is_mail uid) (contents m) ≡ o → option_and_then (deadline_of m) o ≡ Some taken.0
              → (t : Mail) × (find (is_mail uid) (contents m) ≡ Some t)
          by None e k = cc
          by (Some t) e k = (t, e)

      pub due_card : card_at m uid ≡ Some due_mail.0.placed.card
      due_card = content_card uid due_mail.0 due_mail.1

      pub read_more : (steps : ℕ) → steps ≤ new + 1 → ReadsDue m now old steps
      unfolding IsDistinct
      read_more steps few = record {
        uids = uid ∷ uids;
        once = (each_not (nat_eq uid) uids fresh, drained.read.once);
        due = (falls, drained.read.due);
        cost = let so_far = drained.read.cost in omega (arith, so_far, few);
      }

      pub drained_more : (card : Card) → card_at m uid ≡ Some card → (more : List Bytes)
          → ((id : Bytes) → is_among more id ≡ (is_among ids id || bytes_eq id card.id))
          → (steps : ℕ) → steps ≤ new + 1 → IsDrained timers left before more old steps
      unfolding read_more
      drained_more card is more noted steps few = record { read = read_more steps few; rest = rest; noted = ids_more }
        where
          rest : (other : ℕ) → deadline_at left other ≡ (if nat_eq other uid || list_any (nat_eq other) uids then None else deadline_at timers other)
          rest other = by (nat_eq other uid) refl
            where
              by : (b : Bool) → nat_eq other uid ≡ b
                  → deadline_at left other ≡ (if b || list_any (nat_eq other) uids then None else deadline_at timers other)
              by true e = ap (deadline_at left) (eqb-true other uid e) ∙ none_left uid left once
              by false e =
                  sym (other_deadline taken.0 uid other left (grind (arith, e)))
                  ∙ sym (ap (λ ds. deadline_at ds other) taken.2) ∙ drained.rest other

          ids_more : (id : Bytes) → is_among more id ≡ (is_among before id || (is_of id uid || list_any (is_of id) uids))
          ids_more id =
              noted id ∙ (λ i. drained.noted id i || own i) ∙ or_assoc (is_among before id) (list_any (is_of id) uids) (is_of id uid)
              ∙ ap (λ b. is_among before id || b) (or_comm (list_any (is_of id) uids) (is_of id uid))
            where
              own : bytes_eq id card.id ≡ is_of id uid
              own =
                  let read : Some card ≡ Some due_mail.0.placed.card = sym is ∙ due_card in
                  let same : card ≡ due_mail.0.placed.card = cc in
                  ap (λ c. bytes_eq id c.id) same ∙ ap (λ o. option_map_or (has_id id) o false) (sym due_mail.1)

    -- ---- where none is left that is reached

    module _ {left : Deadlines} {before ids : List Bytes} {old new : ℕ} (drained : IsDrained timers left before ids old new)
        (none : AllByRecursion (λ d. now < d.0) left) where
      abbrev all : List ℕ
      all = drained.read.uids

      all_due : (uid : ℕ) → list_any (nat_eq uid) all ≡ uid_falls_due m now uid
      all_due uid = agree (list_any (nat_eq uid) all) (uid_falls_due m now uid) there (λ h. by (list_any (nat_eq uid) all) refl h)
        where
          there : list_any (nat_eq uid) all ≡ true → uid_falls_due m now uid ≡ true
          there h =
              let u = any_found (nat_eq uid) all h in
              ap (uid_falls_due m now) (eqb-true uid u.it u.passes)
              ∙ among_all (λ v. uid_falls_due m now v ≡ true) u.it all drained.read.due u.among

          by : (b : Bool) → list_any (nat_eq uid) all ≡ b → uid_falls_due m now uid ≡ true → list_any (nat_eq uid) all ≡ true
          by true e h = e
          by false e h =
              let same : deadline_at left uid ≡ deadline_at timers uid = drained.rest uid ∙ ap (λ b. if b then None else deadline_at timers uid) e in
              let later = falls_is uid ∙ ap (is_reached now) (sym same) ∙ none_reached now left uid none in
              absurd (both_ways (uid_falls_due m now uid) later h)

      pub timers_left : (uid : ℕ) → deadline_at left uid ≡ (if uid_falls_due m now uid then None else deadline_at timers uid)
      timers_left uid = drained.rest uid ∙ ap (λ b. if b then None else deadline_at timers uid) (all_due uid)

      ids_due : (id : Bytes) → list_any (is_of id) all ≡ falls_due m now id
      ids_due id = agree (list_any (is_of id) all) (falls_due m now id) there back
        where
          there : list_any (is_of id) all ≡ true → falls_due m now id ≡ true
          there h =
              let u = any_found (is_of id) all h in
              by u.it (find (is_mail u.it) (contents m)) refl u.passes
              (among_all (λ v. uid_falls_due m now v ≡ true) u.it all drained.read.due u.among)
            where
              by : (uid : ℕ) (o : Option Mail) → find (is_mail uid) (contents m) ≡ o → option_map_or (has_id id) o false ≡ true
                  → option_map_or (is_due m now) o false ≡ true → falls_due m now id ≡ true
              by uid None e own due = absurd (false≢true due)
              by uid (Some t) e own due =
                  let same : id ≡ t.placed.card.id = (bytes_decides id t.placed.card.id).0 own in
                  let found = found_by_id m t (found_among (is_mail uid) (contents m) t e) in
                  ap (falls_due m now) same ∙ ap (λ o. option_map_or (is_due m now) o false) found ∙ due

          back : falls_due m now id ≡ true → list_any (is_of id) all ≡ true
          back h = by (find (has_id id) (contents m)) refl h
            where
              by : (o : Option Mail) → find (has_id id) (contents m) ≡ o → option_map_or (is_due m now) o false ≡ true
                  → list_any (is_of id) all ≡ true
              by None e due = absurd (false≢true due)
              by (Some t) e due =
                  let among = found_among (has_id id) (contents m) t e in
                  let own = among_all (λ u. find (is_mail u.placed.uid) (contents m) ≡ Some u) t (contents m) (contents_by_uid m rules) among in
                  let u = any_found (nat_eq t.placed.uid) all (all_due t.placed.uid ∙ ap (λ o. option_map_or (is_due m now) o false) own ∙ due) in
                  let same : t.placed.uid ≡ u.it = eqb-true t.placed.uid u.it u.passes in
                  found_any (is_of id) u.it all u.among
                  (ap (is_of id) (sym same) ∙ ap (λ o. option_map_or (has_id id) o false) own ∙ found_passes (has_id id) (contents m) t e)

      pub ids_noted : (id : Bytes) → is_among ids id ≡ (is_among before id || falls_due m now id)
      ids_noted id = drained.noted id ∙ ap (λ b. is_among before id || b) (ids_due id)
