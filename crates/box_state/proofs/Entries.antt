-- The items and cards of a mailbox, and what each change does to them.
use Rattle.std.proofs.Common.{◌≡◌, ◌≢◌, refl, sym, ap, ◌∙◌, subst, ℕ, ◌+◌, ◌<◌, ◌≤◌, ◌==◌, Bool, true, false, not, cond, nat_eq, Option, Some, None, List, [], ◌∷◌, ◌++◌, map, arith}
use Rattle.std.specs.Prelude.{if◌then◌else◌, filter, find, option_map}
use Rattle.std.specs.List.{AllByRecursion}
use Rattle.std.specs.Option.{option_or}
use Rattle.std.specs.Result.{result_ok}
use Rattle.std.proofs.lemmas.Bool.{eq-eqb, eqb-true, ne_eqb}
use Rattle.std.proofs.lemmas.List.{map-append}
use Rattle.std.proofs.lemmas.List.Folds.{find-append}
use Rattle.std.proofs.lemmas.List.Sums.{sum_by-cons}
use Rattle.kit.specs.Options.{◌>>=◌}
use Rattle.card_type.specs.declared.card.Card.{Card}
use Rattle.lists.proofs.Inserts.{None_of, none_found, none_filtered, none_from_found, filter_none, find-filter}
use Rattle.mailbox_model.specs.declared.change.Change.TheVariants.{Expunge, Seen}
use Rattle.mailbox_model.specs.declared.item.Item.{Item}
use Rattle.mailbox_model.specs.Mailbox.{Mailbox, Entry, item_of, has_uid, entry_at, mark_entry, marked_at, after, weight_read, weights, RiseBelow}
use Rattle.mailbox_model.proofs.ChatLaws.{or_none}
use Rattle.mailbox_model.proofs.RuleLaws.{entry_again}
use Rattle.mailbox_model.proofs.UidLaws.{below, each_found, card-marked}
use Rattle.box_state.specs.Kept.{with_entry}
use Rattle.box_state.specs.Inside.{entries_by, AreEntries}

abbrev pub Cards : Type 0
Cards = ℕ → Option Card

-- ---- items and cards make the entries again

again : (card_of : Cards) (entries : List Entry) → AllByRecursion (λ e. card_of e.uid ≡ result_ok e.read) entries
    → entries_by card_of (map item_of entries) ≡ entries
again card_of [] a = refl
again card_of (e ∷ es) a = rw a.0 (rw (entry_again e) (ap (λ rest. e ∷ rest) (again card_of es a.1)))

pub rebuilt : (m : Mailbox) (items : List Item) (card_of : Cards) → RiseBelow 1 m.entries m.next_uid → AreEntries m items card_of
    → entries_by card_of items ≡ m.entries
rebuilt m items card_of rises are =
    subst (λ is. entries_by card_of is ≡ m.entries) are.items (again card_of m.entries (own m.entries (each_found 1 m.next_uid m.entries rises)))
  where
    own : (entries : List Entry) → AllByRecursion (λ e. entry_at m e.uid ≡ Some e) entries
        → AllByRecursion (λ e. card_of e.uid ≡ result_ok e.read) entries
    own [] a = tt
    own (e ∷ es) a = (are.cards e.uid ∙ ap (λ o. o >>= λ x. result_ok x.read) a.0, own es a.1)

-- ---- an entry more

-- the uids of a mailbox with an entry more are below the uid of that entry
pub rise_put : (low next : ℕ) (entries : List Entry) (e : Entry) → RiseBelow low (entries ++ e ∷ []) next
    → RiseBelow low entries e.uid
rise_put low next [] e r = r.0
rise_put low next (x ∷ xs) e r = (r.0, rise_put (x.uid + 1) next xs e r.1)

abbrev pub AllBelow : ℕ → List Entry → Type 0
AllBelow uid entries = AllByRecursion (λ e. e.uid < uid) entries

pub put_below : (next : ℕ) (entries : List Entry) (e : Entry) → RiseBelow 1 (entries ++ e ∷ []) next → AllBelow e.uid entries
put_below next entries e r = (below 1 e.uid entries (rise_put 1 next entries e r)).1

none_has : (uid : ℕ) (entries : List Entry) → AllBelow uid entries → None_of (has_uid uid) entries
none_has uid [] a = tt
none_has uid (e ∷ es) a = (let k : e.uid < uid = a.0 in ne_eqb e.uid uid (λ same. omega arith), none_has uid es a.1)

pub not_there : (uid : ℕ) (entries : List Entry) → AllBelow uid entries → find (has_uid uid) entries ≡ None
not_there uid entries a = none_found (has_uid uid) entries (none_has uid entries a)

pub entry_put : (m : Mailbox) (e : Entry) → AllBelow e.uid m.entries → (uid : ℕ)
    → entry_at (with_entry m e) uid ≡ cond (nat_eq e.uid uid) (Some e) (entry_at m uid)
entry_put m e a uid =
    find-append (has_uid uid) m.entries (e ∷ [])
    ∙ elim (nat_eq e.uid uid) as (λ b. nat_eq e.uid uid ≡ b → option_or (entry_at m uid) (cond b (Some e) None) ≡ cond b (Some e) (entry_at m uid)) [
      | true ↦ λ k. let none = subst (λ u. find (has_uid u) m.entries ≡ None) (eqb-true e.uid uid k) (not_there e.uid m.entries a) in rw none refl
      | false ↦ λ k. or_none (entry_at m uid)
    ] refl

-- what is under a uid, of an entry or of others
module _ {X : Type 0} (f : Entry → Option X) where
  pub under_put : (b : Bool) (e : Entry) (o : Option Entry) → (cond b (Some e) o >>= f) ≡ cond b (f e) (o >>= f)
  under_put true e o = refl
  under_put false e o = refl

  pub under_left : (b : Bool) (o : Option Entry) → (cond b None o >>= f) ≡ cond b None (o >>= f)
  under_left true o = refl
  under_left false o = refl

pub entries_put : (m : Mailbox) (items : List Item) (card_of now_of : Cards) (e : Entry) → AllBelow e.uid m.entries
    → AreEntries m items card_of → ((uid : ℕ) → now_of uid ≡ cond (nat_eq e.uid uid) (result_ok e.read) (card_of uid))
    → AreEntries (with_entry m e) (items ++ item_of e ∷ []) now_of
entries_put m items card_of now_of e a are is = record {
  items = map-append item_of m.entries (e ∷ []) ∙ ap (λ is. is ++ item_of e ∷ []) are.items;
  cards = λ uid.
      is uid ∙ ap (cond (nat_eq e.uid uid) (result_ok e.read)) (are.cards uid)
      ∙ sym (ap (λ o. o >>= λ x. result_ok x.read) (entry_put m e a uid) ∙ under_put (λ x. result_ok x.read) (nat_eq e.uid uid) e (entry_at m uid));
}

-- a card that is not there stays so
pub none_put : (m : Mailbox) (items : List Item) (card_of : Cards) (uid : ℕ) → AllBelow uid m.entries → AreEntries m items card_of
    → (q : ℕ) → card_of q ≡ cond (nat_eq uid q) None (card_of q)
none_put m items card_of uid a are q =
    elim (nat_eq uid q) as (λ b. nat_eq uid q ≡ b → card_of q ≡ cond b None (card_of q)) [
      | true ↦ λ k. subst (λ u. card_of u ≡ None) (eqb-true uid q k) (are.cards uid ∙ ap (λ o. o >>= λ x. result_ok x.read) (not_there uid m.entries a))
      | false ↦ λ k. refl
    ] refl

-- ---- an entry less

pub entry_left : (m : Mailbox) (gone uid : ℕ) → entry_at (after m (Expunge gone)) uid ≡ cond (nat_eq gone uid) None (entry_at m uid)
entry_left m gone uid =
    elim (nat_eq gone uid) as (λ b. nat_eq gone uid ≡ b → find (has_uid uid) (filter (λ e. not (has_uid gone e)) m.entries) ≡ cond b None (entry_at m uid)) [
      | true ↦ λ k. let same = eqb-true gone uid k in subst (λ u. find (has_uid u) (filter (λ e. not (has_uid gone e)) m.entries) ≡ None) same (none_found (has_uid gone) (filter (λ e. not (has_uid gone e)) m.entries) (filter_none (has_uid gone) m.entries))
      | false ↦ λ k. find-filter (has_uid uid) (λ e. not (has_uid gone e)) (λ e h. ap not (ne_eqb e.uid gone (λ same. apart k (sym same ∙ eqb-true e.uid uid h)))) m.entries
    ] refl
  where
    apart : nat_eq gone uid ≡ false → gone ≢ uid
    apart k same = absurd (let t = eq-eqb gone uid same in let f : true ≡ false = sym t ∙ k in cc)

map_left : (gone : ℕ) (entries : List Entry)
    → map item_of (filter (λ e. not (has_uid gone e)) entries) ≡ filter (λ item. not (item.uid == gone)) (map item_of entries)
map_left gone [] = refl
map_left gone (e ∷ es) =
    elim (has_uid gone e) as (λ b. map item_of (cond (not b) (e ∷ filter (λ e. not (has_uid gone e)) es) (filter (λ e. not (has_uid gone e)) es)) ≡ cond (not b) (item_of e ∷ filter (λ item. not (item.uid == gone)) (map item_of es)) (filter (λ item. not (item.uid == gone)) (map item_of es))) [
      | true ↦ map_left gone es
      | false ↦ ap (λ is. item_of e ∷ is) (map_left gone es)
    ]

pub entries_left : (m : Mailbox) (items : List Item) (card_of now_of : Cards) (gone : ℕ) → AreEntries m items card_of
    → ((uid : ℕ) → now_of uid ≡ cond (nat_eq gone uid) None (card_of uid))
    → AreEntries (after m (Expunge gone)) (filter (λ item. not (item.uid == gone)) items) now_of
entries_left m items card_of now_of gone are is = record {
  items = map_left gone m.entries ∙ ap (filter (λ item. not (item.uid == gone))) are.items;
  cards = λ uid.
      is uid ∙ ap (cond (nat_eq gone uid) None) (are.cards uid)
      ∙ sym (ap (λ o. o >>= λ x. result_ok x.read) (entry_left m gone uid) ∙ under_left (λ x. result_ok x.read) (nat_eq gone uid) (entry_at m uid));
}

-- no entry has the uid: the same mailbox
pub all_left : (gone : ℕ) (entries : List Entry) → find (has_uid gone) entries ≡ None → filter (λ e. not (has_uid gone e)) entries ≡ entries
all_left gone entries none = none_filtered (has_uid gone) entries (none_from_found (has_uid gone) entries none)

pub none_above : (gone low next : ℕ) (entries : List Entry) → RiseBelow low entries next → gone < low → None_of (has_uid gone) entries
none_above gone low next [] r h = tt
none_above gone low next (e ∷ es) r h =
    (let k : low ≤ e.uid = r.0 in ne_eqb e.uid gone (λ same. omega arith), none_above gone (e.uid + 1) next es r.1 (let k : low ≤ e.uid = r.0 in omega arith))

pub weights_left : (gone low next : ℕ) (entries : List Entry) (e : Entry) → RiseBelow low entries next → find (has_uid gone) entries ≡ Some e
    → weights (filter (λ e. not (has_uid gone e)) entries) + weight_read e.read ≡ weights entries
weights_left gone low next [] e r h = cc
weights_left gone low next (x ∷ xs) e r h =
    elim (has_uid gone x) as (λ b. has_uid gone x ≡ b → cond b (Some x) (find (has_uid gone) xs) ≡ Some e → weights (cond (not b) (x ∷ left) left) + weight_read e.read ≡ weights (x ∷ xs)) [
      | true ↦ λ k found.
          let here : x ≡ e = cc in
          let same = eqb-true x.uid gone k in
          let rest = none_filtered (has_uid gone) xs (none_above gone (x.uid + 1) next xs r.1 (omega (arith, same))) in
          omega (arith, ap weights rest, ap (λ y. weight_read y.read) here, sum_by-cons (λ y. weight_read y.read) x xs)
      | false ↦ λ k found.
          omega (arith, weights_left gone (x.uid + 1) next xs e r.1 found, sum_by-cons (λ y. weight_read y.read) x xs, sum_by-cons (λ y. weight_read y.read) x left)
    ] refl h
  where
    left : List Entry
    left = filter (λ e. not (has_uid gone e)) xs

-- ---- a seen mark

pub entry_marked : (m : Mailbox) (uid q : ℕ) → entry_at (after m (Seen uid)) q ≡ option_map (mark_entry uid m.now) (entry_at m q)
entry_marked m uid q = by m.entries
  where
    mark : Entry → Entry
    mark = mark_entry uid m.now

    same_uid : (b : Bool) (e : Entry) → (if b then record e { seen = marked_at m.now e.seen } else e).uid ≡ e.uid
    same_uid true e = refl
    same_uid false e = refl

    at : (b : Bool) (e : Entry) (us vs : Option Entry) → us ≡ option_map mark vs
        → cond b (Some (mark e)) us ≡ option_map mark (cond b (Some e) vs)
    at true e us vs h = refl
    at false e us vs h = h

    by : (entries : List Entry) → find (has_uid q) (map (mark_entry uid m.now) entries) ≡ option_map (mark_entry uid m.now) (find (has_uid q) entries)
    by [] = refl
    by (e ∷ es) =
        ap (λ u. cond (u == q) (Some (mark e)) (find (has_uid q) (map mark es))) (same_uid (has_uid uid e) e)
        ∙ at (has_uid q e) e (find (has_uid q) (map mark es)) (find (has_uid q) es) (by es)

abbrev pub mark_item : ℕ → ℕ → Item → Item
mark_item uid moment item = if item.uid == uid then record item { seen = marked_at moment item.seen } else item

map_marked : (uid moment : ℕ) (entries : List Entry)
    → map item_of (map (mark_entry uid moment) entries) ≡ map (mark_item uid moment) (map item_of entries)
map_marked uid moment [] = refl
map_marked uid moment (e ∷ es) = λ i. at (has_uid uid e) i ∷ map_marked uid moment es i
  where
    at : (b : Bool) → item_of (if b then record e { seen = marked_at moment e.seen } else e) ≡ (if b then record (item_of e) { seen = marked_at moment e.seen } else item_of e)
    at true = refl
    at false = refl

pub entries_marked : (m : Mailbox) (items : List Item) (card_of : Cards) (uid : ℕ) → AreEntries m items card_of
    → AreEntries (after m (Seen uid)) (map (mark_item uid m.now) items) card_of
entries_marked m items card_of uid are = record {
  items = map_marked uid m.now m.entries ∙ ap (map (mark_item uid m.now)) are.items;
  cards = λ q. are.cards q ∙ sym (card-marked q uid m.now m.entries);
}

pub weights_marked : (uid moment : ℕ) (entries : List Entry) → weights (map (mark_entry uid moment) entries) ≡ weights entries
weights_marked uid moment [] = refl
weights_marked uid moment (e ∷ es) =
    omega (arith, sum_by-cons (λ y. weight_read y.read) (mark_entry uid moment e) (map (mark_entry uid moment) es), sum_by-cons (λ y. weight_read y.read) e es, weights_marked uid moment es, at (has_uid uid e))
  where
    at : (b : Bool) → weight_read (if b then record e { seen = marked_at moment e.seen } else e).read ≡ weight_read e.read
    at true = refl
    at false = refl

-- no entry has the uid: the same mailbox
pub none_marked : (uid moment : ℕ) (entries : List Entry) → find (has_uid uid) entries ≡ None → map (mark_entry uid moment) entries ≡ entries
none_marked uid moment entries none = by entries (none_from_found (has_uid uid) entries none)
  where
    by : (es : List Entry) → None_of (has_uid uid) es → map (mark_entry uid moment) es ≡ es
    by [] n = refl
    by (e ∷ es) n = rw n.0 (ap (λ xs. e ∷ xs) (by es n.1))
