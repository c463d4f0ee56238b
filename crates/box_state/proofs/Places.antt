-- The spots of a mailbox and the copies of each id, and what each change does to them.
use Rattle.std.proofs.Common.{◌≡◌, ◌≢◌, refl, sym, ap, ◌∙◌, subst, ℕ, ◌<◌, Bool, true, false, not, cond, nat_eq, Option, Some, None, Result, Ok, Err, List, [], ◌∷◌, ◌++◌, map, arith}
use Rattle.std.specs.Prelude.{if◌then◌else◌, filter, filter_map, option_map}
use Rattle.std.specs.List.{AllByRecursion, list_any, cons_option}
use Rattle.std.specs.Ordering.{nat_cmp, is_lt, is_eq, ordering_then}
use Rattle.std.specs.declared.cmp.Ordering.{Ordering}
use Rattle.std.specs.declared.cmp.Ordering.TheVariants.{Less, Equal, Greater}
use Rattle.std.specs.Cmp.Lexicographic.{slice_cmp, bytes_decides}
use Rattle.std.specs.Str.{bytes_eq}
use Rattle.std.proofs.lemmas.Bool.{false≢true, eq-eqb, eqb-true, ne_eqb}
use Rattle.std.proofs.lemmas.List.{append-nil}
use Rattle.std.proofs.lemmas.List.Elements.{filter_map-append}
use Rattle.std.proofs.lemmas.List.Sums.{fold_push}
use Rattle.std.proofs.lemmas.Map.Text.{is_eq-slice_cmp}
use Rattle.kit.specs.Options.{◌>>=◌}
use Rattle.card_type.specs.declared.card.Card.{Card}
use Rattle.card_type.specs.declared.spot.Spot.{Spot}
use Rattle.lists.specs.Sorted.{insert_by, sorted_by}
use Rattle.lists.proofs.Inserts.{found_passes}
use Rattle.lists.proofs.Rising.{filter-insert_by-kept, filter-insert_by-dropped}
use Rattle.mailbox_model.specs.declared.change.Fault.{Fault}
use Rattle.mailbox_model.specs.declared.change.Change.TheVariants.{Expunge, Seen}
use Rattle.mailbox_model.specs.Lists.{Bytes}
use Rattle.mailbox_model.specs.Mailbox.{Mailbox, Entry, has_uid, entry_at, mark_entry, marked_at, after, RiseBelow}
use Rattle.mailbox_model.specs.Present.{Mail, placed_by, mail_by, mail_of, spot, has_id, mail_at, mail_cmp, mails}
use Rattle.mailbox_model.specs.Turns.{is_mail, mark_mail}
use Rattle.mailbox_model.proofs.MailLaws.{is_below, line_of, mails-expunge, mails-seen, AllUnder}
use Rattle.mailbox_model.proofs.UidLaws.{mails_own}
use Rattle.box_state.specs.Spots.{SpotTable, spot_at, copies_at, copies_with, copies_but, dated, dated_cmp, ties}
use Rattle.box_state.specs.Kept.{with_entry}
use Rattle.box_state.specs.Inside.{AreSpots}
use Rattle.box_state.proofs.Entries.{AllBelow, not_there, entry_put, entry_left, entry_marked, under_put, under_left}

abbrev pub spot_in : Mail → Spot
spot_in t = spot t.placed

abbrev pub copy_in : Mail → ℕ × ℕ
copy_in t = dated (spot t.placed)

-- the mail of an entry that has a card
abbrev pub mail_with : Entry → Card → Mail
mail_with e card = record { placed = placed_by e card; seen = e.seen }

-- the mail under a uid has that uid
pub mail_uid : (m : Mailbox) (uid : ℕ) (t : Mail) → mail_at m uid ≡ Some t → t.placed.uid ≡ uid
mail_uid m uid t = by (entry_at m uid) refl
  where
    read : (e : Entry) (r : Result Card Fault) → mail_by e r ≡ Some t → t.placed.uid ≡ e.uid
    read e (Ok card) h = let same : mail_with e card ≡ t = cc in sym (ap (λ x. x.placed.uid) same)
    read e (Err fault) h = cc

    by : (o : Option Entry) → entry_at m uid ≡ o → (o >>= mail_of) ≡ Some t → t.placed.uid ≡ uid
    by None k h = cc
    by (Some e) k h = read e e.read h ∙ eqb-true e.uid uid (found_passes (has_uid uid) m.entries e k)

-- ---- mail order among the copies of one id

slice_same : (xs : List ℕ) → slice_cmp nat_cmp xs xs ≡ Equal
slice_same xs = is_Equal (slice_cmp nat_cmp xs xs) (is_eq-slice_cmp xs xs ∙ (bytes_decides xs xs).1 refl)
  where
    is_Equal : (o : Ordering) → is_eq o ≡ true → o ≡ Equal
    is_Equal Less e = absurd (false≢true e)
    is_Equal Equal e = refl
    is_Equal Greater e = absurd (false≢true e)

-- of two mails with one id
same_order : (t u : Mail) → t.placed.card.id ≡ u.placed.card.id
    → mail_cmp t u ≡ ordering_then (nat_cmp t.placed.date u.placed.date) (nat_cmp t.placed.uid u.placed.uid)
same_order t u same =
    ap (λ o. ordering_then (nat_cmp t.placed.date u.placed.date) (ordering_then o (nat_cmp t.placed.uid u.placed.uid)))
    (subst (λ id. slice_cmp nat_cmp t.placed.card.id id ≡ Equal) same (slice_same t.placed.card.id))

map_insert : (t : Mail) (ts : List Mail) → AllByRecursion (λ u. t.placed.card.id ≡ u.placed.card.id) ts
    → map copy_in (insert_by mail_cmp t ts) ≡ insert_by dated_cmp (copy_in t) (map copy_in ts)
map_insert t [] a = refl
map_insert t (u ∷ us) a =
    turn (is_lt (mail_cmp t u)) _ _ (map_insert t us a.1)
    ∙ ap (λ o. if is_lt o then copy_in t ∷ copy_in u ∷ map copy_in us else copy_in u ∷ insert_by dated_cmp (copy_in t) (map copy_in us)) (same_order t u a.0)
  where
    turn : (b : Bool) (xs : List Mail) (ys : List (ℕ × ℕ)) → map copy_in xs ≡ ys
        → map copy_in (if b then t ∷ u ∷ us else u ∷ xs) ≡ (if b then copy_in t ∷ copy_in u ∷ map copy_in us else copy_in u ∷ ys)
    turn true xs ys h = refl
    turn false xs ys h = ap (λ zs. copy_in u ∷ zs) h

with_id : (id : Bytes) (ts : List Mail) → AllByRecursion (λ u. id ≡ u.placed.card.id) (filter (has_id id) ts)
with_id id [] = tt
with_id id (t ∷ ts) =
    elim (has_id id t) as (λ b. has_id id t ≡ b → AllByRecursion (λ u. id ≡ u.placed.card.id) (cond b (t ∷ filter (has_id id) ts) (filter (has_id id) ts))) [
      | true ↦ λ k. ((bytes_decides id t.placed.card.id).0 k, with_id id ts)
      | false ↦ λ k. with_id id ts
    ] refl

-- ---- a mail more

mails_put : (m : Mailbox) (e : Entry) (card : Card) → e.read ≡ Ok card
    → mails (with_entry m e) ≡ insert_by mail_cmp (mail_with e card) (mails m)
mails_put m e card is =
    ap (sorted_by mail_cmp) (filter_map-append mail_of m.entries (e ∷ []) ∙ ap (λ read. filter_map mail_of m.entries ++ cons_option (mail_by e read) []) is)
    ∙ fold_push (λ sorted y. insert_by mail_cmp y sorted) [] (filter_map mail_of m.entries) (mail_with e card)

mails_same : (m : Mailbox) (e : Entry) (fault : Fault) → e.read ≡ Err fault → mails (with_entry m e) ≡ mails m
mails_same m e fault is =
    ap (sorted_by mail_cmp) (filter_map-append mail_of m.entries (e ∷ []) ∙ ap (λ read. filter_map mail_of m.entries ++ cons_option (mail_by e read) []) is ∙ append-nil (filter_map mail_of m.entries))

mail_put : (m : Mailbox) (e : Entry) → AllBelow e.uid m.entries → (uid : ℕ)
    → mail_at (with_entry m e) uid ≡ cond (nat_eq e.uid uid) (mail_by e e.read) (mail_at m uid)
mail_put m e a uid = ap (λ o. o >>= mail_of) (entry_put m e a uid) ∙ under_put mail_of (nat_eq e.uid uid) e (entry_at m uid)

option_map_cond : {X Y : Type 0} (f : X → Y) (b : Bool) (o p : Option X) → option_map f (cond b o p) ≡ cond b (option_map f o) (option_map f p)
option_map_cond f true o p = refl
option_map_cond f false o p = refl

pub spots_put : (m : Mailbox) (table made : SpotTable) (e : Entry) (card : Card) → RiseBelow 1 m.entries e.uid → AllBelow e.uid m.entries
    → e.read ≡ Ok card → AreSpots m table
    → ((uid : ℕ) → spot_at made uid ≡ cond (nat_eq e.uid uid) (Some (spot_in (mail_with e card))) (spot_at table uid))
    → ((id : Bytes) → copies_at made id ≡ copies_with (spot_in (mail_with e card)) id (copies_at table id))
    → AreSpots (with_entry m e) made
spots_put m table made e card u a is are spots copies = record {
  spots = λ uid.
      spots uid ∙ ap (cond (nat_eq e.uid uid) (Some (spot_in t))) (are.spots uid)
      ∙ sym (ap (option_map spot_in) (mail_put m e a uid ∙ ap (λ read. cond (nat_eq e.uid uid) (mail_by e read) (mail_at m uid)) is) ∙ option_map_cond spot_in (nat_eq e.uid uid) (Some t) (mail_at m uid));
  copies = λ id. copies id ∙ ap (copies_with (spot_in t) id) (are.copies id) ∙ sym (ap (λ ts. map copy_in (filter (has_id id) ts)) (mails_put m e card is) ∙ one id);
}
  where
    t : Mail
    t = mail_with e card

    one : (id : Bytes) → map copy_in (filter (has_id id) (insert_by mail_cmp t (mails m))) ≡ copies_with (spot_in t) id (map copy_in (filter (has_id id) (mails m)))
    one id =
        elim (bytes_eq t.placed.card.id id) as (λ b. bytes_eq t.placed.card.id id ≡ b → map copy_in (filter (has_id id) (insert_by mail_cmp t (mails m))) ≡ (if b then insert_by dated_cmp (copy_in t) (map copy_in (filter (has_id id) (mails m))) else map copy_in (filter (has_id id) (mails m)))) [
          | true ↦ λ k.
              let same = (bytes_decides t.placed.card.id id).0 k in
              ap (map copy_in) (filter-insert_by-kept mail_cmp is_below.trans (has_id id) t (mails m) (subst (λ x. bytes_eq id x ≡ true) (sym same) ((bytes_decides id id).1 refl)) (line_of (record m { next_uid = e.uid }) u).rising)
              ∙ map_insert t (filter (has_id id) (mails m)) (subst (λ x. AllByRecursion (λ u. x ≡ u.placed.card.id) (filter (has_id id) (mails m))) (sym same) (with_id id (mails m)))
          | false ↦ λ k. ap (map copy_in) (filter-insert_by-dropped mail_cmp (has_id id) t (mails m) (turned id k))
        ] refl
      where
        turned : (id : Bytes) → bytes_eq t.placed.card.id id ≡ false → bytes_eq id t.placed.card.id ≡ false
        turned id k =
            elim (bytes_eq id t.placed.card.id) as (λ b. bytes_eq id t.placed.card.id ≡ b → b ≡ false) [
              | true ↦ λ h. let same = (bytes_decides id t.placed.card.id).0 h in sym ((bytes_decides t.placed.card.id id).1 (sym same)) ∙ k
              | false ↦ λ h. refl
            ] refl

pub spots_same : (m : Mailbox) (table : SpotTable) (e : Entry) (fault : Fault) → AllBelow e.uid m.entries → e.read ≡ Err fault
    → AreSpots m table → AreSpots (with_entry m e) table
spots_same m table e fault a is are = record {
  spots = λ uid. are.spots uid ∙ ap (option_map spot_in) (sym (mail_put m e a uid ∙ none uid));
  copies = λ id. are.copies id ∙ ap (λ ts. map copy_in (filter (has_id id) ts)) (sym (mails_same m e fault is));
}
  where
    none : (uid : ℕ) → cond (nat_eq e.uid uid) (mail_by e e.read) (mail_at m uid) ≡ mail_at m uid
    none uid =
        elim (nat_eq e.uid uid) as (λ b. nat_eq e.uid uid ≡ b → cond b (mail_by e e.read) (mail_at m uid) ≡ mail_at m uid) [
          | true ↦ λ k. ap (mail_by e) is ∙ sym (subst (λ u. mail_at m u ≡ None) (eqb-true e.uid uid k) (ap (λ o. o >>= mail_of) (not_there e.uid m.entries a)))
          | false ↦ λ k. refl
        ] refl

-- the table has no spot under a uid to come
pub spot_absent : (m : Mailbox) (table : SpotTable) (uid : ℕ) → AllBelow uid m.entries → AreSpots m table → spot_at table uid ≡ None
spot_absent m table uid a are = are.spots uid ∙ ap (λ o. option_map spot_in (o >>= mail_of)) (not_there uid m.entries a)

-- and no copy that ties with one
pub copies_apart : (m : Mailbox) (table : SpotTable) (date uid : ℕ) (id : Bytes) → RiseBelow 1 m.entries uid → AreSpots m table
    → list_any (ties (date, uid)) (copies_at table id) ≡ false
copies_apart m table date uid id u are =
    ap (list_any (ties (date, uid))) (are.copies id) ∙ apart (mails m) (line_of (record m { next_uid = uid }) u).under
  where
    other : (copy : ℕ × ℕ) → copy.1 < uid → ties (date, uid) copy ≡ false
    other copy h = by (nat_cmp date copy.0)
      where
        less : is_eq (nat_cmp uid copy.1) ≡ false
        less = grind (arith)

        by : (o : Ordering) → is_eq (ordering_then o (nat_cmp uid copy.1)) ≡ false
        by Less = refl
        by Equal = less
        by Greater = refl

    apart : (ts : List Mail) → AllUnder uid ts → list_any (ties (date, uid)) (map copy_in (filter (has_id id) ts)) ≡ false
    apart [] a = refl
    apart (t ∷ ts) a =
        elim (has_id id t) as (λ b. list_any (ties (date, uid)) (map copy_in (cond b (t ∷ filter (has_id id) ts) (filter (has_id id) ts))) ≡ false) [
          | true ↦ rw (other (copy_in t) a.0) (apart ts a.1)
          | false ↦ apart ts a.1
        ]

-- ---- a mail less

-- what stays of the copies of an id, where the copy of each mail tells whether it stays
left_copies : (id : Bytes) (stays : ℕ × ℕ → Bool) (keep : Mail → Bool) (ts : List Mail)
    → AllByRecursion (λ t. has_id id t ≡ true → stays (copy_in t) ≡ keep t) ts
    → filter stays (map copy_in (filter (has_id id) ts)) ≡ map copy_in (filter (has_id id) (filter keep ts))
left_copies id stays keep [] a = refl
left_copies id stays keep (t ∷ ts) a = by (has_id id t) refl (keep t) refl (left_copies id stays keep ts a.1)
  where
    by : (b : Bool) → has_id id t ≡ b → (c : Bool) → keep t ≡ c
        → filter stays (map copy_in (filter (has_id id) ts)) ≡ map copy_in (filter (has_id id) (filter keep ts))
        → filter stays (map copy_in (cond b (t ∷ filter (has_id id) ts) (filter (has_id id) ts))) ≡ map copy_in (filter (has_id id) (cond c (t ∷ filter keep ts) (filter keep ts)))
    by true e true k h = rw (a.0 e ∙ k) (rw e (ap (λ xs. copy_in t ∷ xs) h))
    by true e false k h = rw (a.0 e ∙ k) h
    by false e true k h = rw e h
    by false e false k h = h

all_stay : (copies : List (ℕ × ℕ)) → filter (λ copy. true) copies ≡ copies
all_stay [] = refl
all_stay (c ∷ cs) = ap (λ xs. c ∷ xs) (all_stay cs)

tie_itself : (copy : ℕ × ℕ) → ties copy copy ≡ true
tie_itself copy = grind (arith)

tie_not : (s c : ℕ × ℕ) → s.1 ≢ c.1 → ties s c ≡ false
tie_not s c h = by (nat_cmp s.0 c.0)
  where
    apart : is_eq (nat_cmp s.1 c.1) ≡ false
    apart = grind (arith, h)

    by : (o : Ordering) → is_eq (ordering_then o (nat_cmp s.1 c.1)) ≡ false
    by Less = refl
    by Equal = apart
    by Greater = refl

pub spots_left : (m : Mailbox) (table made : SpotTable) (gone : ℕ) → RiseBelow 1 m.entries m.next_uid → AreSpots m table
    → ((uid : ℕ) → spot_at made uid ≡ cond (nat_eq gone uid) None (spot_at table uid))
    → ((id : Bytes) → copies_at made id ≡ copies_but (spot_at table gone) id (copies_at table id))
    → AreSpots (after m (Expunge gone)) made
spots_left m table made gone u are spots copies = record {
  spots = λ uid.
      spots uid ∙ ap (cond (nat_eq gone uid) None) (are.spots uid)
      ∙ sym (ap (option_map spot_in) (ap (λ o. o >>= mail_of) (entry_left m gone uid) ∙ under_left mail_of (nat_eq gone uid) (entry_at m uid)) ∙ option_map_cond spot_in (nat_eq gone uid) None (mail_at m uid));
  copies = λ id.
      copies id ∙ ap (λ o. copies_but o id (copies_at table id)) (are.spots gone) ∙ ap (copies_but (option_map spot_in (mail_at m gone)) id) (are.copies id)
      ∙ by id (mail_at m gone) refl ∙ sym (ap (λ ts. map copy_in (filter (has_id id) ts)) (mails-expunge m gone u));
}
  where
    keep : Mail → Bool
    keep t = not (is_mail gone t)

    -- of the mails, only the one with the uid has its copy
    told : (id : Bytes) (stays : ℕ × ℕ → Bool) → ((t : Mail) → mail_at m t.placed.uid ≡ Some t → has_id id t ≡ true → stays (copy_in t) ≡ keep t)
        → (ts : List Mail) → AllByRecursion (λ t. mail_at m t.placed.uid ≡ Some t) ts
        → AllByRecursion (λ t. has_id id t ≡ true → stays (copy_in t) ≡ keep t) ts
    told id stays h [] a = tt
    told id stays h (t ∷ ts) a = (h t a.0, told id stays h ts a.1)

    left : (id : Bytes) (stays : ℕ × ℕ → Bool) → ((t : Mail) → mail_at m t.placed.uid ≡ Some t → has_id id t ≡ true → stays (copy_in t) ≡ keep t)
        → filter stays (map copy_in (filter (has_id id) (mails m))) ≡ map copy_in (filter (has_id id) (filter keep (mails m)))
    left id stays h = left_copies id stays keep (mails m) (told id stays h (mails m) (mails_own m u))

    -- a mail with the uid is the one that goes
    is_it : (t x : Mail) → mail_at m t.placed.uid ≡ Some t → mail_at m gone ≡ Some x → t.placed.uid ≡ gone → t ≡ x
    is_it t x own is same = let both : Some t ≡ Some x = sym own ∙ ap (mail_at m) same ∙ is in cc

    by : (id : Bytes) (o : Option Mail) → mail_at m gone ≡ o
        → copies_but (option_map spot_in o) id (map copy_in (filter (has_id id) (mails m))) ≡ map copy_in (filter (has_id id) (filter keep (mails m)))
    by id None is =
        sym (all_stay (map copy_in (filter (has_id id) (mails m))))
        ∙ left id (λ copy. true) (λ t own has. sym (ap not (ne_eqb t.placed.uid gone (λ same. let no : Some t ≡ None = sym own ∙ ap (mail_at m) same ∙ is in absurd cc))))
    by id (Some x) is =
        elim (bytes_eq x.placed.card.id id) as (λ b. bytes_eq x.placed.card.id id ≡ b → (if b then filter (λ copy. not (ties (copy_in x) copy)) (map copy_in (filter (has_id id) (mails m))) else map copy_in (filter (has_id id) (mails m))) ≡ map copy_in (filter (has_id id) (filter keep (mails m)))) [
          | true ↦ λ k. left id (λ copy. not (ties (copy_in x) copy)) (λ t own has.
              elim (is_mail gone t) as (λ c. is_mail gone t ≡ c → not (ties (copy_in x) (copy_in t)) ≡ not c) [
                | true ↦ λ e. let same = is_it t x own is (eqb-true t.placed.uid gone e) in ap not (ap (λ y. ties (copy_in x) (copy_in y)) same ∙ tie_itself (copy_in x))
                | false ↦ λ e. ap not (tie_not (copy_in x) (copy_in t) (apart t x e is))
              ] refl)
          | false ↦ λ k.
              sym (all_stay (map copy_in (filter (has_id id) (mails m))))
              ∙ left id (λ copy. true) (λ t own has. sym (ap not (ne_eqb t.placed.uid gone (λ same. let it = is_it t x own is same in absurd (false≢true (sym k ∙ other t x it id has))))))
        ] refl
      where
        other : (t x : Mail) → t ≡ x → (id : Bytes) → has_id id t ≡ true → bytes_eq x.placed.card.id id ≡ true
        other t x it id has =
            let same = (bytes_decides id t.placed.card.id).0 has in
            (bytes_decides x.placed.card.id id).1 (sym (same ∙ ap (λ y. y.placed.card.id) it))

        apart : (t x : Mail) → is_mail gone t ≡ false → mail_at m gone ≡ Some x → x.placed.uid ≢ t.placed.uid
        apart t x e is same = absurd (false≢true (sym e ∙ eq-eqb t.placed.uid gone (sym same ∙ mail_uid m gone x is)))

-- ---- a seen mark

pub spots_marked : (m : Mailbox) (table : SpotTable) (uid : ℕ) → AreSpots m table → AreSpots (after m (Seen uid)) table
spots_marked m table uid are = record {
  spots = λ q. are.spots q ∙ sym (ap (λ o. option_map spot_in (o >>= mail_of)) (entry_marked m uid q) ∙ under (entry_at m q));
  copies = λ id. are.copies id ∙ sym (ap (λ ts. map copy_in (filter (has_id id) ts)) (mails-seen m uid) ∙ same id (mails m));
}
  where
    at : (b : Bool) (e : Entry) (read : Result Card Fault)
        → option_map spot_in (mail_by (if b then record e { seen = marked_at m.now e.seen } else e) read) ≡ option_map spot_in (mail_by e read)
    at true e (Ok card) = refl
    at true e (Err fault) = refl
    at false e read = refl

    read_same : (b : Bool) (e : Entry) → (if b then record e { seen = marked_at m.now e.seen } else e).read ≡ e.read
    read_same true e = refl
    read_same false e = refl

    under : (o : Option Entry) → option_map spot_in (option_map (mark_entry uid m.now) o >>= mail_of) ≡ option_map spot_in (o >>= mail_of)
    under None = refl
    under (Some e) = ap (λ read. option_map spot_in (mail_by (mark_entry uid m.now e) read)) (read_same (has_uid uid e) e) ∙ at (has_uid uid e) e e.read

    placed_same : (b : Bool) (t : Mail) → (if b then record t { seen = marked_at m.now t.seen } else t).placed ≡ t.placed
    placed_same true t = refl
    placed_same false t = refl

    same : (id : Bytes) (ts : List Mail) → map copy_in (filter (has_id id) (map (mark_mail uid m.now) ts)) ≡ map copy_in (filter (has_id id) ts)
    same id [] = refl
    same id (t ∷ ts) =
        ap (λ p. map copy_in (cond (bytes_eq id p.card.id) (mark_mail uid m.now t ∷ filter (has_id id) (map (mark_mail uid m.now) ts)) (filter (has_id id) (map (mark_mail uid m.now) ts)))) (placed_same (is_mail uid t) t)
        ∙ by (has_id id t) (same id ts)
      where
        by : (b : Bool) → map copy_in (filter (has_id id) (map (mark_mail uid m.now) ts)) ≡ map copy_in (filter (has_id id) ts)
            → map copy_in (cond b (mark_mail uid m.now t ∷ filter (has_id id) (map (mark_mail uid m.now) ts)) (filter (has_id id) (map (mark_mail uid m.now) ts))) ≡ map copy_in (cond b (t ∷ filter (has_id id) ts) (filter (has_id id) ts))
        by true h = λ i. dated (spot (placed_same (is_mail uid t) t i)) ∷ h i
        by false h = h
