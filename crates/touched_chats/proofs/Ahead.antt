-- What is told ahead of a change is what the change leaves.
use Rattle.std.proofs.Common.{◌≡◌, refl, sym, ap, ◌∙◌, subst, ℕ, Bool, true, false, not, cond, Option, Some, None, Ok, Err, Result, List, [], ◌∷◌, ◌++◌, map, arith}
use Rattle.std.specs.Prelude.{if◌then◌else◌, filter, find, option_map, ◌==◌, ◌<◌}
use Rattle.std.specs.List.{IsDistinct, AllByRecursion}
use Rattle.std.specs.Option.{option_or}
use Rattle.std.specs.Ordering.{is_lt}
use Rattle.std.specs.Str.{bytes_eq}
use Rattle.std.specs.Cmp.Lexicographic.{bytes_decides}
use Rattle.std.proofs.lemmas.Bool.{both_ways, ne_eqb, eqb-true, eq-eqb}
use Rattle.lists.proofs.DistinctLaws.{IsDistinct-firsts}
use Rattle.lists.proofs.Inserts.{None_of, none_found, find-insert_by}
use Rattle.lists.proofs.OneMore.{none_alike}
use Rattle.card_type.specs.declared.card.Card.{Card}
use Rattle.card_type.specs.declared.spot.Spot.{Spot}
use Rattle.mailbox_model.specs.declared.change.Fault.{Fault}
use Rattle.mailbox_model.specs.declared.change.Change.{Change}
use Rattle.mailbox_model.specs.declared.change.Change.TheVariants.{Arrive, ArriveFault, Expunge, Seen, At}
use Rattle.mailbox_model.specs.declared.turn.Turn.{Turn}
use Rattle.mailbox_model.specs.declared.turn.Turn.TheVariants.{Nothing, Add, Remove, Replace, Marked, Moved}
use Rattle.mailbox_model.specs.Lists.{Bytes}
use Rattle.mailbox_model.specs.Mailbox.{Mailbox, Entry, after, has_uid, entry_at, new_entry, mark_entry, marked_at, RiseBelow, IsMailbox}
use Rattle.mailbox_model.specs.Present.{Mail, spot, mail_cmp, mails, has_id, same_id, present, spot_of}
use Rattle.mailbox_model.specs.Turns.{with_mail, is_mail, mark_mail, IsTurn}
use Rattle.mailbox_model.proofs.MailLaws.{is_alike}
use Rattle.mailbox_model.proofs.UidLaws.{below}
use Rattle.touched_chats.specs.Ahead.{entry_ahead, spot_ahead, now_ahead}

-- ---- by the change

none_next : (next : ℕ) (entries : List Entry) → AllByRecursion (λ e. e.uid < next) entries → find (has_uid next) entries ≡ None
none_next next [] a = refl
none_next next (e ∷ es) a = rw (ne_eqb e.uid next (λ k. let lt = a.0 in omega (arith, lt, k))) (none_next next es a.1)

find-append : (p : Entry → Bool) (xs ys : List Entry) → find p (xs ++ ys) ≡ option_or (find p xs) (find p ys)
find-append p [] ys = refl
find-append p (x ∷ xs) ys = elim (p x) as (λ b. cond b (Some x) (find p (xs ++ ys)) ≡ option_or (cond b (Some x) (find p xs)) (find p ys)) [ true ↦ refl | false ↦ find-append p xs ys ]

or_none : {X : Type 0} (o : Option X) → option_or o None ≡ o
or_none None = refl
or_none (Some x) = refl

arrived : (m : Mailbox) (read : Result Card Fault) (uid : ℕ) → RiseBelow 1 m.entries m.next_uid
    → (if m.next_uid == uid then Some (new_entry m read) else entry_at m uid) ≡ find (has_uid uid) (m.entries ++ new_entry m read ∷ [])
arrived m read uid u = sym (find-append (has_uid uid) m.entries (new_entry m read ∷ []) ∙ by (m.next_uid == uid) refl)
  where
    by : (b : Bool) → (m.next_uid == uid) ≡ b
        → option_or (entry_at m uid) (cond b (Some (new_entry m read)) None) ≡ (if b then Some (new_entry m read) else entry_at m uid)
    by true e =
        let none : entry_at m uid ≡ None = subst (λ n. find (has_uid n) m.entries ≡ None) (eqb-true m.next_uid uid e) (none_next m.next_uid m.entries (below 1 m.next_uid m.entries u).1) in
        ap (λ o. option_or o (Some (new_entry m read))) none
    by false e = or_none (entry_at m uid)

find-gone : (gone uid : ℕ) (entries : List Entry)
    → find (has_uid uid) (filter (λ e. not (has_uid gone e)) entries) ≡ (if gone == uid then None else find (has_uid uid) entries)
find-gone gone uid [] = none (gone == uid)
  where
    none : (b : Bool) → find (has_uid uid) [] ≡ (if b then None else find (has_uid uid) [])
    none true = refl
    none false = refl
find-gone gone uid (e ∷ es) = by (e.uid == gone) (e.uid == uid) refl refl (find-gone gone uid es)
  where
    by : (b c : Bool) → (e.uid == gone) ≡ b → (e.uid == uid) ≡ c
        → find (has_uid uid) (filter (λ e. not (has_uid gone e)) es) ≡ (if gone == uid then None else find (has_uid uid) es)
        → find (has_uid uid) (cond (not b) (e ∷ filter (λ e. not (has_uid gone e)) es) (filter (λ e. not (has_uid gone e)) es)) ≡ (if gone == uid then None else cond c (Some e) (find (has_uid uid) es))
    by true true g h rest =
        let same : (gone == uid) ≡ true = eq-eqb gone uid (sym (eqb-true e.uid gone g) ∙ eqb-true e.uid uid h) in
        rest ∙ rw same refl
    by true false g h rest = rest
    by false true g h rest =
        let other : (gone == uid) ≡ false = ne_eqb gone uid (λ k. both_ways (e.uid == gone) g (eq-eqb e.uid gone (eqb-true e.uid uid h ∙ sym k))) in
        rw (h, other) refl
    by false false g h rest = rw h rest

find-marked : (marked uid now : ℕ) (entries : List Entry)
    → find (has_uid uid) (map (mark_entry marked now) entries) ≡ option_map (mark_entry marked now) (find (has_uid uid) entries)
find-marked marked uid now [] = refl
find-marked marked uid now (e ∷ es) =
    rw (same_uid e) (elim (has_uid uid e) as (λ b. cond b (Some (mark_entry marked now e)) (find (has_uid uid) (map (mark_entry marked now) es)) ≡ option_map (mark_entry marked now) (cond b (Some e) (find (has_uid uid) es))) [
      | true ↦ refl
      | false ↦ find-marked marked uid now es
    ])
  where
    same_uid : (e : Entry) → has_uid uid (mark_entry marked now e) ≡ has_uid uid e
    same_uid e = elim (has_uid marked e) as (λ b. has_uid uid (if b then record e { seen = marked_at now e.seen } else e) ≡ has_uid uid e) [ true ↦ refl | false ↦ refl ]

pub entries_ahead : (m : Mailbox) (change : Change) (uid : ℕ) → IsMailbox m → entry_ahead m change uid ≡ entry_at (after m change) uid
entries_ahead m (Arrive card) uid k = arrived m (Ok card) uid k.uids
entries_ahead m (ArriveFault fault) uid k = arrived m (Err fault) uid k.uids
entries_ahead m (Expunge gone) uid k = sym (find-gone gone uid m.entries)
entries_ahead m (Seen marked) uid k = sym (find-marked marked uid m.now m.entries)
entries_ahead m (At moment) uid k = refl

-- ---- by the turn

abbrev spot_in : List Mail → Bytes → Option Spot
spot_in ts id = option_map (λ t. spot t.placed) (find (has_id id) ts)

find_beside : (p : Mail → Bool) (t : Mail) (ts : List Mail) → p t ≡ false → find p (with_mail t ts) ≡ find p ts
find_beside p t [] h = rw h refl
find_beside p t (x ∷ xs) h =
    elim (is_lt (mail_cmp t x)) as (λ b. find p (if b then t ∷ x ∷ xs else x ∷ with_mail t xs) ≡ find p (x ∷ xs)) [
      | true ↦ rw h refl
      | false ↦ ap (λ o. cond (p x) (Some x) o) (find_beside p t xs h)
    ]

-- no other has the id
none_other : (t : Mail) (ts : List Mail) → IsDistinct same_id (with_mail t ts) → None_of (has_id t.placed.card.id) ts
none_other t ts once = none_alike mail_cmp same_id is_alike.turn t ts once

spot_with : (t : Mail) (ts : List Mail) (id : Bytes) → None_of (has_id t.placed.card.id) ts
    → spot_in (with_mail t ts) id ≡ (if bytes_eq id t.placed.card.id then Some (spot t.placed) else spot_in ts id)
spot_with t ts id none = by (bytes_eq id t.placed.card.id) refl
  where
    by : (b : Bool) → bytes_eq id t.placed.card.id ≡ b
        → spot_in (with_mail t ts) id ≡ (if b then Some (spot t.placed) else spot_in ts id)
    by true e = ap (option_map (λ u. spot u.placed)) (find-insert_by mail_cmp (has_id id) t ts e (subst (λ i. None_of (has_id i) ts) (sym ((bytes_decides id t.placed.card.id).0 e)) none))
    by false e = ap (option_map (λ u. spot u.placed)) (find_beside (has_id id) t ts e)

once : (m : Mailbox) → IsDistinct same_id (present m)
once m = IsDistinct-firsts same_id (mails m)

-- one that leaves
spot_without : (t : Mail) (ts : List Mail) (id : Bytes) → None_of (has_id t.placed.card.id) ts
    → spot_in ts id ≡ (if bytes_eq id t.placed.card.id then None else spot_in (with_mail t ts) id)
spot_without t ts id none = by (bytes_eq id t.placed.card.id) refl
  where
    by : (b : Bool) → bytes_eq id t.placed.card.id ≡ b → spot_in ts id ≡ (if b then None else spot_in (with_mail t ts) id)
    by true e = ap (option_map (λ u. spot u.placed)) (none_found (has_id id) ts (subst (λ i. None_of (has_id i) ts) (sym ((bytes_decides id t.placed.card.id).0 e)) none))
    by false e = sym (ap (option_map (λ u. spot u.placed)) (find_beside (has_id id) t ts e))

-- one in the place of another with its id
spot_instead : (t u : Mail) (ts : List Mail) (id : Bytes) → t.placed.card.id ≡ u.placed.card.id → None_of (has_id u.placed.card.id) ts
    → spot_in (with_mail u ts) id ≡ (if bytes_eq id u.placed.card.id then Some (spot u.placed) else spot_in (with_mail t ts) id)
spot_instead t u ts id same none = spot_with u ts id none ∙ by (bytes_eq id u.placed.card.id) refl
  where
    by : (b : Bool) → bytes_eq id u.placed.card.id ≡ b
        → (if b then Some (spot u.placed) else spot_in ts id) ≡ (if b then Some (spot u.placed) else spot_in (with_mail t ts) id)
    by true e = refl
    by false e = sym (ap (option_map (λ v. spot v.placed)) (find_beside (has_id id) t ts (ap (bytes_eq id) same ∙ e)))

spot-marked : (uid now : ℕ) (ts : List Mail) (id : Bytes) → spot_in (map (mark_mail uid now) ts) id ≡ spot_in ts id
spot-marked uid now [] id = refl
spot-marked uid now (t ∷ ts) id = by (is_mail uid t) (spot-marked uid now ts id)
  where
    next : Mail → Option Spot → Option Spot
    next u rest = if has_id id u then Some (spot u.placed) else rest

    unfolded : (u : Mail) (us : List Mail) → spot_in (u ∷ us) id ≡ next u (spot_in us id)
    unfolded u us = elim (has_id id u) as (λ b. option_map (λ v. spot v.placed) (cond b (Some u) (find (has_id id) us)) ≡ (if b then Some (spot u.placed) else spot_in us id)) [ true ↦ refl | false ↦ refl ]

    by : (b : Bool) → spot_in (map (mark_mail uid now) ts) id ≡ spot_in ts id
        → spot_in ((if b then record t { seen = marked_at now t.seen } else t) ∷ map (mark_mail uid now) ts) id ≡ spot_in (t ∷ ts) id
    by true rest = unfolded (record t { seen = marked_at now t.seen }) (map (mark_mail uid now) ts) ∙ ap (next t) rest ∙ sym (unfolded t ts)
    by false rest = unfolded t (map (mark_mail uid now) ts) ∙ ap (next t) rest ∙ sym (unfolded t ts)

pub spots_ahead : (m n : Mailbox) (turn : Turn) (id : Bytes) → IsTurn m n turn → spot_of n id ≡ spot_ahead m turn id
spots_ahead m n Nothing id is = ap (λ ts. spot_in ts id) is.present
spots_ahead m n (Add at) id is =
    let t = is.present.0 in
    ap (λ ts. spot_in ts id) is.present.2
    ∙ spot_with t (present m) id (none_other t (present m) (subst (IsDistinct same_id) is.present.2 (once n)))
    ∙ ap (λ (s : Spot). if bytes_eq id s.id then Some s else spot_of m id) is.present.1
spots_ahead m n (Remove at) id is =
    let t = is.present.0 in
    spot_without t (present n) id (none_other t (present n) (subst (IsDistinct same_id) is.present.2 (once m)))
    ∙ (λ i. if bytes_eq id (is.present.1 i).id then None else spot_in (sym is.present.2 i) id)
spots_ahead m n (Replace from to) id is =
    let t = is.present.0 in
    let u = is.present.1 in
    let both = is.present.4 in
    ap (λ ts. spot_in ts id) both.second
    ∙ spot_instead t u both.others id both.id (none_other u both.others (subst (IsDistinct same_id) both.second (once n)))
    ∙ (λ i. if bytes_eq id (is.present.3 i).id then Some (is.present.3 i) else spot_in (sym both.first i) id)
spots_ahead m n (Marked uid) id is = ap (λ ts. spot_in ts id) is.present.4 ∙ spot-marked uid m.now (present m) id
spots_ahead m n (Moved moment) id is = ap (λ ts. spot_in ts id) is.present

pub moment_ahead : (m n : Mailbox) (turn : Turn) → IsTurn m n turn → n.now ≡ now_ahead m.now turn
moment_ahead m n Nothing is = is.clock
moment_ahead m n (Add at) is = is.clock
moment_ahead m n (Remove at) is = is.clock
moment_ahead m n (Replace from to) is = is.clock
moment_ahead m n (Marked uid) is = is.clock
moment_ahead m n (Moved moment) is = is.clock.1
