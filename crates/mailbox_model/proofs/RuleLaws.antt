-- Each change that is valid and not full keeps the rules of a mailbox.
use Rattle.std.proofs.Common.{◌≡◌, refl, sym, ◌∙◌, ℕ, ◌+◌, ◌≤◌, Bool, true, false, not, ◌||◌, cond, Option, Some, None, Result, Ok, Err, List, [], ◌∷◌, ◌++◌, length, map, max, arith}
use Rattle.std.specs.Prelude.{if◌then◌else◌, IfSome, IfOk, IsTrue, filter, nat_le, nat_lt}
use Rattle.std.specs.List.{AllByRecursion}
use Rattle.std.specs.Option.{option_or}
use Rattle.std.specs.Result.{result_ok}
use Rattle.std.proofs.lemmas.Bool.{or_parts, leb-false, ltb-false}
use Rattle.std.proofs.lemmas.List.{length-append, length-map}
use Rattle.std.proofs.lemmas.List.Filters.{length-filter_both, sum_by-filter_both}
use Rattle.std.proofs.lemmas.List.Sums.{sum_by-cons, sum_by_push}
use Rattle.kit.specs.Moments.{last_moment}
use Rattle.card_type.specs.declared.card.Card.{Card}
use Rattle.card_type.specs.Rules.{is_valid}
use Rattle.mailbox_model.specs.declared.change.Fault.{Fault}
use Rattle.mailbox_model.specs.declared.change.Change.{Change}
use Rattle.mailbox_model.specs.declared.change.Change.TheVariants.{Arrive, ArriveFault, Expunge, Seen, At}
use Rattle.mailbox_model.specs.Lists.{Bytes}
use Rattle.mailbox_model.specs.Mailbox.{Mailbox, Entry, entry_of, item_of, empty_mailbox, new_entry, with_arrival, has_uid, mark_entry, after, after_all, weight_read, weights, lacks_room, full, max_entries, max_total_weight, end_of_uids, RiseBelow, IsEntry, IsMailbox, IsValidChange, AreAllowed}
use Rattle.lists.proofs.Inserts.{All-filter}
use Rattle.mailbox_model.proofs.Elements.{All-append}

pub entry_again : (entry : Entry) → entry_of (item_of entry) (result_ok entry.read) ≡ Some entry
entry_again entry = by entry.read
  where
    with_read : Result Card Fault → Entry
    with_read read = record entry { read = read }

    by : (read : Result Card Fault) → entry_of (item_of (with_read read)) (result_ok read) ≡ Some (with_read read)
    by (Ok card) = refl
    by (Err fault) = refl

pub empty_keeps : (me : Bytes) → IsMailbox (empty_mailbox me)
empty_keeps me =
    record { moment = omega arith; uids = omega arith; next = omega arith; each = tt; count_fits = omega arith; weight_fits = omega arith }

-- ---- an new_entry

rise_push : (low next : ℕ) (entries : List Entry) (entry : Entry) → RiseBelow low entries next → entry.uid ≡ next
    → RiseBelow low (entries ++ entry ∷ []) (next + 1)
rise_push low next [] entry r e = (let h : low ≤ next = r in omega (arith, e), omega (arith, e))
rise_push low next (x ∷ entries) entry r e = (r.0, rise_push (x.uid + 1) next entries entry r.1 e)

arrival_keeps : (m : Mailbox) (read : Result Card Fault) → IsMailbox m → lacks_room m (weight_read read) ≡ false
    → IfOk read (λ card. IsTrue (is_valid card)) → IsMailbox (with_arrival m read)
arrival_keeps m read k room valid =
    let crowded = nat_le max_entries (length m.entries) in
    let last = nat_le end_of_uids m.next_uid in
    let parts = or_parts (crowded || last) (nat_lt max_total_weight (weights m.entries + weight_read read)) room in
    let first = or_parts crowded last parts.0 in
    record {
      moment = k.moment;
      uids = rise_push 1 m.next_uid m.entries (new_entry m read) k.uids refl;
      next = omega (arith, leb-false end_of_uids m.next_uid first.1);
      each = All-append (IsEntry m.now) m.entries (new_entry m read ∷ []) k.each (record { arrived = omega arith; seen_after = tt; seen_by = tt; valid = valid }, tt);
      count_fits = omega (arith, leb-false max_entries (length m.entries) first.0, length-append m.entries (new_entry m read ∷ []));
      weight_fits = omega (arith, ltb-false max_total_weight (weights m.entries + weight_read read) parts.1, sum_by_push (λ entry. weight_read entry.read) m.entries (new_entry m read));
    }

-- ---- an expunge

rise_filter : (p : Entry → Bool) (low more next : ℕ) (entries : List Entry) → more ≤ low → RiseBelow low entries next
    → RiseBelow more (filter p entries) next
rise_filter p low more next [] h r = let k : low ≤ next = r in omega arith
rise_filter p low more next (x ∷ entries) h r =
    let first : low ≤ x.uid = r.0 in
    elim (p x) as (λ b. RiseBelow more (cond b (x ∷ filter p entries) (filter p entries)) next) [
      | true ↦ (omega arith, rise_filter p (x.uid + 1) (x.uid + 1) next entries (omega arith) r.1)
      | false ↦ rise_filter p (x.uid + 1) more next entries (omega arith) r.1
    ]

expunge_keeps : (m : Mailbox) (uid : ℕ) → IsMailbox m → IsMailbox (after m (Expunge uid))
expunge_keeps m uid k =
    let p : Entry → Bool = λ entry. not (has_uid uid entry) in
    record {
      moment = k.moment;
      uids = rise_filter p 1 1 m.next_uid m.entries (omega arith) k.uids;
      next = k.next;
      each = All-filter (IsEntry m.now) p m.entries k.each;
      count_fits = omega (arith, k.count_fits, length-filter_both p (λ entry. not (p entry)) (λ entry. refl) m.entries);
      weight_fits = omega (arith, k.weight_fits, sum_by-filter_both p (λ entry. not (p entry)) (λ entry. refl) (λ entry. weight_read entry.read) m.entries);
    }

-- ---- a seen mark

-- a mark changes no more than the seen moment of an entry that has none, and to now
marked_as : (P : Entry → Type 0) (uid now : ℕ) (entry : Entry) → P entry → P (record entry { seen = option_or entry.seen (Some now) }) → P (mark_entry uid now entry)
marked_as P uid now entry h k =
    elim (has_uid uid entry) as (λ b. P (if b then record entry { seen = option_or entry.seen (Some now) } else entry)) [ true ↦ k | false ↦ h ]

rise_marked : (uid now low next : ℕ) (entries : List Entry) → RiseBelow low entries next
    → RiseBelow low (map (mark_entry uid now) entries) next
rise_marked uid now low next [] r = r
rise_marked uid now low next (x ∷ entries) r =
    let rest = rise_marked uid now (x.uid + 1) next entries r.1 in
    marked_as (λ y. (low ≤ y.uid) × RiseBelow (y.uid + 1) (map (mark_entry uid now) entries) next) uid now x (r.0, rest) (r.0, rest)

entry_marked : (uid now : ℕ) (entry : Entry) → IsEntry now entry → IsEntry now (mark_entry uid now entry)
entry_marked uid now entry k = marked_as (IsEntry now) uid now entry k (by entry.seen k.seen_after k.seen_by)
  where
    by : (o : Option ℕ) → IfSome o (λ seen. entry.arrival ≤ seen) → IfSome o (λ seen. seen ≤ now) → IsEntry now (record entry { seen = option_or o (Some now) })
    by None a b = record { arrived = k.arrived; seen_after = k.arrived; seen_by = omega arith; valid = k.valid }
    by (Some s) a b = record { arrived = k.arrived; seen_after = a; seen_by = b; valid = k.valid }

each_marked : (uid now : ℕ) (entries : List Entry) → AllByRecursion (IsEntry now) entries
    → AllByRecursion (IsEntry now) (map (mark_entry uid now) entries)
each_marked uid now [] a = tt
each_marked uid now (x ∷ entries) a = (entry_marked uid now x a.0, each_marked uid now entries a.1)

weights_marked : (uid now : ℕ) (entries : List Entry) → weights (map (mark_entry uid now) entries) ≡ weights entries
weights_marked uid now [] = refl
weights_marked uid now (x ∷ entries) =
    sum_by-cons (λ entry. weight_read entry.read) (mark_entry uid now x) (map (mark_entry uid now) entries)
    ∙ (λ i. marked_as (λ y. weight_read y.read ≡ weight_read x.read) uid now x refl refl i + weights_marked uid now entries i)
    ∙ sym (sum_by-cons (λ entry. weight_read entry.read) x entries)

seen_keeps : (m : Mailbox) (uid : ℕ) → IsMailbox m → IsMailbox (after m (Seen uid))
seen_keeps m uid k =
    record {
      moment = k.moment;
      uids = rise_marked uid m.now 1 m.next_uid m.entries k.uids;
      next = k.next;
      each = each_marked uid m.now m.entries k.each;
      count_fits = omega (arith, k.count_fits, length-map m.entries (mark_entry uid m.now));
      weight_fits = omega (arith, k.weight_fits, weights_marked uid m.now m.entries);
    }

-- ---- a moment

entry_later : (now more : ℕ) (entry : Entry) → now ≤ more → IsEntry now entry → IsEntry more entry
entry_later now more entry h k =
    record { arrived = omega (arith, k.arrived); seen_after = k.seen_after; seen_by = by entry.seen k.seen_by; valid = k.valid }
  where
    by : (o : Option ℕ) → IfSome o (λ seen. seen ≤ now) → IfSome o (λ seen. seen ≤ more)
    by None b = tt
    by (Some s) b = let c : s ≤ now = b in omega arith

each_later : (now more : ℕ) (entries : List Entry) → now ≤ more → AllByRecursion (IsEntry now) entries
    → AllByRecursion (IsEntry more) entries
each_later now more [] h a = tt
each_later now more (x ∷ entries) h a = (entry_later now more x h a.0, each_later now more entries h a.1)

at_keeps : (m : Mailbox) (moment : ℕ) → moment ≤ last_moment → IsMailbox m → IsMailbox (after m (At moment))
at_keeps m moment h k =
    record {
      moment = omega (arith, k.moment);
      uids = k.uids;
      next = k.next;
      each = each_later m.now (max m.now moment) m.entries (omega arith) k.each;
      count_fits = k.count_fits;
      weight_fits = k.weight_fits;
    }

pub change_keeps : (m : Mailbox) (change : Change) → IsMailbox m → IsValidChange change → full m change ≡ false
    → IsMailbox (after m change)
change_keeps m (Arrive card) k valid room = arrival_keeps m (Ok card) k room valid
change_keeps m (ArriveFault fault) k valid room = arrival_keeps m (Err fault) k room tt
change_keeps m (Expunge uid) k valid room = expunge_keeps m uid k
change_keeps m (Seen uid) k valid room = seen_keeps m uid k
change_keeps m (At moment) k valid room = at_keeps m moment valid k

pub changes_keep : (m : Mailbox) (changes : List Change) → IsMailbox m → AreAllowed m changes → IsMailbox (after_all m changes)
changes_keep m [] k a = k
changes_keep m (change ∷ changes) k a = changes_keep (after m change) changes (change_keeps m change k a.0 a.1) a.2
