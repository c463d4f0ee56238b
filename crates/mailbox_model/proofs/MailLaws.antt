-- The mails of a mailbox in mail order: they rise, and what each change does to them.
use Rattle.std.proofs.Common.{◌≡◌, ◌≢◌, refl, sym, ap, ◌∙◌, ℕ, ◌+◌, ◌<◌, ◌≤◌, Bool, true, false, not, cond, Option, Some, None, Result, Ok, Err, List, [], ◌∷◌, map, arith}
use Rattle.std.specs.Prelude.{if◌then◌else◌, fold, filter_map, filter, ◌==◌}
use Rattle.std.specs.List.{AllByRecursion, IsDistinct, cons_option}
use Rattle.std.specs.Option.{option_or}
use Rattle.std.specs.Str.{bytes_eq}
use Rattle.std.specs.declared.cmp.Ordering.TheVariants.{Equal}
use Rattle.std.specs.Ordering.{nat_cmp, is_lt, ordering_then}
use Rattle.std.specs.Cmp.{IsTotalOrder}
use Rattle.std.specs.Cmp.Lexicographic.{slice_cmp, bytes_decides}
use Rattle.std.proofs.lemmas.Cmp.{on_total}
use Rattle.std.proofs.lemmas.Bool.{eq-eqb, ne_eqb, eqb-true}
use Rattle.std.proofs.lemmas.Map.Lookups.{exact_unsigned}
use Rattle.std.proofs.lemmas.List.{append-nil}
use Rattle.std.proofs.lemmas.List.Elements.{filter_map-append}
use Rattle.std.proofs.lemmas.List.Sums.{fold_push}
use Rattle.card_type.specs.declared.card.Card.{Card}
use Rattle.card_type.specs.Spots.{spot_cmp}
use Rattle.card_type.proofs.Orders.{spots_total}
use Rattle.mailbox_model.specs.declared.change.Fault.{Fault}
use Rattle.mailbox_model.specs.declared.change.Change.TheVariants.{Arrive, ArriveFault, Expunge, Seen}
use Rattle.lists.specs.Sorted.{insert_by, sorted_by}
use Rattle.mailbox_model.specs.Lists.{Bytes}
use Rattle.mailbox_model.specs.Mailbox.{Mailbox, Entry, after, new_entry, has_uid, mark_entry, RiseBelow}
use Rattle.mailbox_model.specs.Present.{Mail, placed_by, mail_by, mail_of, spot, mail_cmp, mails, same_id, same_uid}
use Rattle.mailbox_model.specs.Turns.{arriving, is_mail, mark_mail}
use Rattle.lists.proofs.Rising.{below_of, never_back, apart, second_Equal, Rising, IsAlike, IsBelow, filter-insert_by-kept, filter-insert_by-dropped}
use Rattle.lists.proofs.Inserts.{agree, Placed, Rising-insert_by, None_of, All-insert_by, IsDistinct-insert_by}

abbrev mail_with : Entry → Card → Mail
mail_with entry card = record { placed = placed_by entry card; seen = entry.seen }

-- ---- mail order is a strict order, and mails of one id are alike

pub order : IsTotalOrder mail_cmp
order = on_total (λ t. spot t.placed) spots_total

abbrev earlier : Mail → Mail → Bool
earlier a b = is_lt (mail_cmp a b)

pub is_below : IsBelow mail_cmp
is_below = below_of mail_cmp order

pub is_never_back : (x y : Mail) → earlier x y ≡ true → earlier y x ≡ false
is_never_back = never_back mail_cmp order

pub bytes_turn : (x y : Bytes) → bytes_eq x y ≡ bytes_eq y x
bytes_turn x y = agree (bytes_eq x y) (bytes_eq y x) (yes x y) (yes y x)
  where
    yes : (x y : Bytes) → bytes_eq x y ≡ true → bytes_eq y x ≡ true
    yes x y e = (bytes_decides y x).1 (sym ((bytes_decides x y).0 e))

pub is_alike : IsAlike same_id
is_alike =
    record { turn = λ x y. bytes_turn x.placed.card.id y.placed.card.id; alike = λ x y z e. ap (λ id. bytes_eq id z.placed.card.id) ((bytes_decides x.placed.card.id y.placed.card.id).0 e) }

pub uid_alike : IsAlike same_uid
uid_alike = record { turn = λ x y. turn x.placed.uid y.placed.uid; alike = λ x y z e. ap (λ n. n == z.placed.uid) (eqb-true x.placed.uid y.placed.uid e) }
  where
    turn : (a b : ℕ) → (a == b) ≡ (b == a)
    turn a b = agree (a == b) (b == a) (λ e. eq-eqb b a (sym (eqb-true a b e))) (λ e. eq-eqb a b (sym (eqb-true b a e)))

-- ---- mails are inserted one by one, by rising uids

-- mails with different uids don't tie
no_tie : (y z : Mail) → z.placed.uid < y.placed.uid → mail_cmp y z ≢ Equal
no_tie y z h k =
    let by_id = ordering_then (slice_cmp nat_cmp y.placed.card.id z.placed.card.id) (nat_cmp y.placed.uid z.placed.uid) in
    let same : y.placed.uid ≡ z.placed.uid = exact_unsigned y.placed.uid z.placed.uid (second_Equal (slice_cmp nat_cmp y.placed.card.id z.placed.card.id) (nat_cmp y.placed.uid z.placed.uid) (second_Equal (nat_cmp y.placed.date z.placed.date) by_id k)) in
    omega (arith, same)

abbrev pub AllUnder : ℕ → List Mail → Type 0
AllUnder low zs = AllByRecursion (λ z. z.placed.uid < low) zs

AllUnder-more : (low more : ℕ) (zs : List Mail) → low ≤ more → AllUnder low zs → AllUnder more zs
AllUnder-more low more [] h a = tt
AllUnder-more low more (z ∷ zs) h a = (let k : z.placed.uid < low = a.0 in omega arith, AllUnder-more low more zs h a.1)

new_uid : (y : Mail) (zs : List Mail) → AllUnder y.placed.uid zs → None_of (same_uid y) zs
new_uid y [] a = tt
new_uid y (z ∷ zs) a = (let k : z.placed.uid < y.placed.uid = a.0 in ne_eqb y.placed.uid z.placed.uid (λ e. omega arith), new_uid y zs a.1)

placed : (y : Mail) (zs : List Mail) → AllUnder y.placed.uid zs → Placed mail_cmp is_below is_never_back y zs
placed y [] a = tt
placed y (z ∷ zs) a = (apart mail_cmp order y z (no_tie y z a.0), placed y zs a.1)

-- those of entries whose uids rise, inserted after some with lower uids
abbrev insert_all : List Mail → List Mail → List Mail
insert_all zs ys = fold (λ sorted y. insert_by mail_cmp y sorted) zs ys

-- in order, each uid once and below a bound
pub record IsLine (bound : ℕ) (zs : List Mail) : Type 0 where
  pub rising : Rising mail_cmp zs
  pub once : IsDistinct same_uid zs
  pub under : AllUnder bound zs

no_mails : (bound : ℕ) → IsLine bound []
unfolding IsDistinct
no_mails bound = record { rising = tt; once = tt; under = tt }

line_with : (bound : ℕ) (y : Mail) (zs : List Mail) → bound ≤ y.placed.uid → IsLine bound zs
    → IsLine (y.placed.uid + 1) (insert_by mail_cmp y zs)
line_with bound y zs h line =
    let low : AllUnder y.placed.uid zs = AllUnder-more bound y.placed.uid zs h line.under in
    record {
      rising = Rising-insert_by mail_cmp is_below is_never_back y zs (placed y zs low) line.rising;
      once = IsDistinct-insert_by mail_cmp same_uid uid_alike.turn y zs (new_uid y zs low) line.once;
      under = All-insert_by mail_cmp (λ z. z.placed.uid < y.placed.uid + 1) y zs (omega arith) (AllUnder-more y.placed.uid (y.placed.uid + 1) zs (omega arith) low);
    }

line_more : (low more : ℕ) (zs : List Mail) → low ≤ more → IsLine low zs → IsLine more zs
line_more low more zs h line =
    record { rising = line.rising; once = line.once; under = AllUnder-more low more zs h line.under }

line_from : (low next : ℕ) (zs : List Mail) (entries : List Entry) → RiseBelow low entries next → IsLine low zs
    → IsLine next (insert_all zs (filter_map mail_of entries))
line_from low next zs [] u line = line_more low next zs u line
line_from low next zs (entry ∷ entries) u line =
    elim entry.read as (λ read. IsLine next (insert_all zs (cons_option (mail_by entry read) (filter_map mail_of entries)))) [
      | Ok card ↦ line_from (entry.uid + 1) next (insert_by mail_cmp (mail_with entry card) zs) entries u.1 (line_with low (mail_with entry card) zs u.0 line)
      | Err fault ↦ line_from (entry.uid + 1) next zs entries u.1 (let first : low ≤ entry.uid = u.0 in line_more low (entry.uid + 1) zs (omega arith) line)
    ]

pub line_of : (m : Mailbox) → RiseBelow 1 m.entries m.next_uid → IsLine m.next_uid (mails m)
line_of m u = line_from 1 m.next_uid [] m.entries u (no_mails 1)

-- ---- an new_entry

pub mails-arrive : (m : Mailbox) (card : Card) → mails (after m (Arrive card)) ≡ insert_by mail_cmp (arriving m card) (mails m)
mails-arrive m card =
    ap (sorted_by mail_cmp) (filter_map-append mail_of m.entries (new_entry m (Ok card) ∷ []))
    ∙ fold_push (λ sorted y. insert_by mail_cmp y sorted) [] (filter_map mail_of m.entries) (arriving m card)

pub mails-fault : (m : Mailbox) (fault : Fault) → mails (after m (ArriveFault fault)) ≡ mails m
mails-fault m fault =
    ap (sorted_by mail_cmp) (filter_map-append mail_of m.entries (new_entry m (Err fault) ∷ []) ∙ append-nil (filter_map mail_of m.entries))

-- ---- an expunge

abbrev pub but_uid : ℕ → List Mail → List Mail
but_uid uid zs = filter (λ z. not (is_mail uid z)) zs

abbrev left : ℕ → List Entry → List Entry
left uid entries = filter (λ entry. not (has_uid uid entry)) entries

expunged_from : (uid low next : ℕ) (zs : List Mail) (entries : List Entry) → RiseBelow low entries next → IsLine low zs →
    but_uid uid (insert_all zs (filter_map mail_of entries)) ≡ insert_all (but_uid uid zs) (filter_map mail_of (left uid entries))
expunged_from uid low next zs [] u line = refl
expunged_from uid low next zs (entry ∷ entries) u line =
    elim entry.read as (λ read. but_uid uid (insert_all zs (cons_option (mail_by entry read) (filter_map mail_of entries))) ≡ insert_all (but_uid uid zs) (rest read (not (has_uid uid entry)))) [
      | Ok card ↦
          let y = mail_with entry card in
          expunged_from uid (entry.uid + 1) next (insert_by mail_cmp y zs) entries u.1 (line_with low y zs u.0 line)
          ∙ by (not (has_uid uid entry)) refl card
      | Err fault ↦
          let first : low ≤ entry.uid = u.0 in
          expunged_from uid (entry.uid + 1) next zs entries u.1 (line_more low (entry.uid + 1) zs (omega arith) line) ∙ skip fault (not (has_uid uid entry))
    ] ∙ ap (λ ys. insert_all (but_uid uid zs) ys) (whole (not (has_uid uid entry)))
  where
    rest : Result Card Fault → Bool → List Mail
    rest read b =
        cond b (cons_option (mail_by entry read) (filter_map mail_of (left uid entries))) (filter_map mail_of (left uid entries))

    by : (b : Bool) → not (has_uid uid entry) ≡ b → (card : Card)
        → insert_all (but_uid uid (insert_by mail_cmp (mail_with entry card) zs)) (filter_map mail_of (left uid entries)) ≡ insert_all (but_uid uid zs) (rest (Ok card) b)
    by true e card =
        ap (λ s. insert_all s (filter_map mail_of (left uid entries))) (filter-insert_by-kept mail_cmp is_below.trans (λ z. not (is_mail uid z)) (mail_with entry card) zs e line.rising)
    by false e card =
        ap (λ s. insert_all s (filter_map mail_of (left uid entries))) (filter-insert_by-dropped mail_cmp (λ z. not (is_mail uid z)) (mail_with entry card) zs e)

    skip : (fault : Fault) (b : Bool)
        → insert_all (but_uid uid zs) (filter_map mail_of (left uid entries)) ≡ insert_all (but_uid uid zs) (rest (Err fault) b)
    skip fault true = refl
    skip fault false = refl

    whole : (b : Bool) → rest entry.read b ≡ filter_map mail_of (cond b (entry ∷ left uid entries) (left uid entries))
    whole true = refl
    whole false = refl

pub mails-expunge : (m : Mailbox) (uid : ℕ) → RiseBelow 1 m.entries m.next_uid
    → mails (after m (Expunge uid)) ≡ but_uid uid (mails m)
mails-expunge m uid u = sym (expunged_from uid 1 m.next_uid [] m.entries u (no_mails 1))

-- ---- a seen mark

insert_by-seen : (uid now : ℕ) (y : Mail) (zs : List Mail)
    → map (mark_mail uid now) (insert_by mail_cmp y zs) ≡ insert_by mail_cmp (mark_mail uid now y) (map (mark_mail uid now) zs)
insert_by-seen uid now y [] = refl
insert_by-seen uid now y (z ∷ zs) =
    turn (earlier y z) _ _ (insert_by-seen uid now y zs) ∙ ap (λ o. if is_lt o then mark_mail uid now y ∷ mark_mail uid now z ∷ map (mark_mail uid now) zs else mark_mail uid now z ∷ insert_by mail_cmp (mark_mail uid now y) (map (mark_mail uid now) zs)) (λ i. spot_cmp (spots y i) (spots z i))
  where
    spots : (t : Mail) → spot t.placed ≡ spot (mark_mail uid now t).placed
    spots t =
        elim (is_mail uid t) as (λ b. spot t.placed ≡ spot (if b then record t { seen = option_or t.seen (Some now) } else t).placed) [ true ↦ refl | false ↦ refl ]

    turn : (b : Bool) (us vs : List Mail) → map (mark_mail uid now) us ≡ vs
        → map (mark_mail uid now) (if b then y ∷ z ∷ zs else z ∷ us) ≡ (if b then mark_mail uid now y ∷ mark_mail uid now z ∷ map (mark_mail uid now) zs else mark_mail uid now z ∷ vs)
    turn true us vs h = refl
    turn false us vs h = ap (λ ws. mark_mail uid now z ∷ ws) h

seen_from : (uid now : ℕ) (zs : List Mail) (entries : List Entry)
    → map (mark_mail uid now) (insert_all zs (filter_map mail_of entries)) ≡ insert_all (map (mark_mail uid now) zs) (filter_map mail_of (map (mark_entry uid now) entries))
seen_from uid now zs [] = refl
seen_from uid now zs (entry ∷ entries) =
    elim entry.read as (λ read. map (mark_mail uid now) (insert_all zs (cons_option (mail_by entry read) (filter_map mail_of entries))) ≡ insert_all (map (mark_mail uid now) zs) (cons_option (marked_read read) (filter_map mail_of (map (mark_entry uid now) entries)))) [
      | Ok card ↦
          seen_from uid now (insert_by mail_cmp (mail_with entry card) zs) entries
          ∙ ap (λ ws. insert_all ws (filter_map mail_of (map (mark_entry uid now) entries))) (insert_by-seen uid now (mail_with entry card) zs)
      | Err fault ↦ seen_from uid now zs entries
    ] ∙ ap (λ o. insert_all (map (mark_mail uid now) zs) (cons_option o (filter_map mail_of (map (mark_entry uid now) entries)))) (same (has_uid uid entry))
  where
    mark : Bool → Mail → Mail
    mark b t = if b then record t { seen = option_or t.seen (Some now) } else t

    by : Bool → Result Card Fault → Option Mail
    by b (Ok card) = Some (mark b (mail_with entry card))
    by b (Err fault) = None

    marked_read : Result Card Fault → Option Mail
    marked_read read = by (has_uid uid entry) read

    made : (b : Bool) → Entry → Entry
    made b i = if b then record i { seen = option_or i.seen (Some now) } else i

    same : (b : Bool) → by b entry.read ≡ mail_of (made b entry)
    same true = at entry.read
      where
        at : (read : Result Card Fault) → by true read ≡ mail_by (made true entry) read
        at (Ok card) = refl
        at (Err fault) = refl
    same false = at entry.read
      where
        at : (read : Result Card Fault) → by false read ≡ mail_by entry read
        at (Ok card) = refl
        at (Err fault) = refl

pub mails-seen : (m : Mailbox) (uid : ℕ) → mails (after m (Seen uid)) ≡ map (mark_mail uid m.now) (mails m)
mails-seen m uid = sym (seen_from uid m.now [] m.entries)
