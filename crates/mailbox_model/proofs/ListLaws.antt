-- The list has one row for each chat that has a card, in its order.
use Rattle.std.proofs.Common.{◌≡◌, ◌≢◌, refl, sym, ap, ◌∙◌, subst, Bool, true, false, ◌||◌, cond, Some, None, is_some, List, [], ◌∷◌, length, map, arith}
use Rattle.std.specs.Prelude.{if◌then◌else◌, fold, filter, ◌==◌}
use Rattle.std.specs.List.{list_any, find, AllByRecursion, IsDistinct}
use Rattle.std.specs.List.Sorted.{IsStrictlySortedBy, IsPermutation}
use Rattle.std.specs.Str.{bytes_eq}
use Rattle.std.specs.declared.cmp.Ordering.TheVariants.{Equal}
use Rattle.std.specs.Cmp.{IsTotalOrder}
use Rattle.std.specs.Cmp.Lexicographic.{options_total, bytes_decides}
use Rattle.std.proofs.lemmas.Cmp.{on_total, then_total, back_total, nat_cmp_total}
use Rattle.std.proofs.lemmas.Bool.{both_ways, and_parts, and_from, eq-eqb, eqb-true, lt-ltb}
use Rattle.std.proofs.lemmas.List.Sorted.{list_any-IsPermutation}
use Rattle.card_type.specs.declared.key.ChatKey.{ChatKey}
use Rattle.card_type.specs.Keys.{key_rank, key_bytes, key_cmp, key_eq, key_at, key_at-parts}
use Rattle.card_type.specs.Kinds.{has_some, kind_of, is_content}
use Rattle.card_type.proofs.Orders.{keys_total, keys_exact}
use Rattle.mailbox_model.specs.declared.list.ListRow.{ListRow}
use Rattle.lists.specs.Sorted.{insert_by, sorted_by}
use Rattle.mailbox_model.specs.Lists.{Bytes}
use Rattle.mailbox_model.specs.Mailbox.{Mailbox}
use Rattle.mailbox_model.specs.Present.{Mail, mails, same_id, present, contents}
use Rattle.mailbox_model.specs.Chats.{Known, known_chat, chats, chat, is_chat, cites, chat_mails}
use Rattle.mailbox_model.specs.Pages.{keys, page_of, page}
use Rattle.mailbox_model.specs.ChatList.{list_page, list_row, list_cmp, latest_cmp}
use Rattle.lists.proofs.DistinctLaws.{IsDistinct-filter, IsDistinct-firsts}
use Rattle.lists.proofs.Rising.{Rising, below_of, never_back, apart, second_Equal, sorted_from}
use Rattle.lists.proofs.Inserts.{agree, None_of, All-insert_by, Placed, Rising-insert_by, find-firsts, list_any-found}
use Rattle.mailbox_model.proofs.PresentLaws.{permuted}
use Rattle.mailbox_model.proofs.ChatLaws.{same_bytes, ids-known_after, cites_at}
use Rattle.mailbox_model.proofs.MailLaws.{bytes_turn}

-- ---- keys that are alike are one

pub key_same : (a b : ChatKey) → key_eq a b ≡ true → a ≡ b
key_same a b e =
    let parts = and_parts (key_rank a == key_rank b) (bytes_eq (key_bytes a) (key_bytes b)) e in
    sym (key_at-parts a) ∙ (λ i. key_at (eqb-true (key_rank a) (key_rank b) parts.0 i) ((bytes_decides (key_bytes a) (key_bytes b)).0 parts.1 i)) ∙ key_at-parts b

pub key_self : (a : ChatKey) → key_eq a a ≡ true
key_self a =
    and_from (key_rank a == key_rank a) (bytes_eq (key_bytes a) (key_bytes a)) (eq-eqb (key_rank a) (key_rank a) refl) (same_bytes (key_bytes a))

pub key_turn : (a b : ChatKey) → key_eq a b ≡ key_eq b a
key_turn a b = agree (key_eq a b) (key_eq b a) (turned a b) (turned b a)
  where
    turned : (a b : ChatKey) → key_eq a b ≡ true → key_eq b a ≡ true
    turned a b e = subst (λ c. key_eq c a ≡ true) (key_same a b e) (key_self a)

-- ---- the order of rows

list_total : IsTotalOrder list_cmp
list_total =
    then_total (on_total (λ (r : ListRow). r.time) (back_total (options_total nat_cmp_total))) (on_total (λ (r : ListRow). r.key) keys_total)

abbrev same_key : ListRow → ListRow → Bool
same_key a b = key_eq a.key b.key

no_tie : (a b : ListRow) → same_key a b ≡ false → list_cmp a b ≢ Equal
no_tie a b h k =
    both_ways (same_key a b) h (subst (λ c. key_eq a.key c ≡ true) (keys_exact a.key b.key (second_Equal (latest_cmp a.time b.time) (key_cmp a.key b.key) k)) (key_self a.key))

placed : (x : ListRow) (zs : List ListRow) → None_of (same_key x) zs
    → Placed list_cmp (below_of list_cmp list_total) (never_back list_cmp list_total) x zs
placed x [] n = tt
placed x (z ∷ zs) n = (apart list_cmp list_total x z (no_tie x z n.0), placed x zs n.1)

-- rows that differ in their keys, inserted one by one
rising_from : (zs xs : List ListRow) → IsDistinct same_key xs → AllByRecursion (λ x. None_of (same_key x) zs) xs
    → Rising list_cmp zs → Rising list_cmp (fold (λ sorted x. insert_by list_cmp x sorted) zs xs)
unfolding IsDistinct
rising_from zs [] d n r = r
rising_from zs (x ∷ xs) d n r =
    rising_from (insert_by list_cmp x zs) xs d.1 (still xs d.0 n.1) (Rising-insert_by list_cmp (below_of list_cmp list_total) (never_back list_cmp list_total) x zs (placed x zs n.0) r)
  where
    still : (ys : List ListRow) → AllByRecursion (λ y. same_key x y ≡ false) ys
        → AllByRecursion (λ y. None_of (same_key y) zs) ys
        → AllByRecursion (λ y. None_of (same_key y) (insert_by list_cmp x zs)) ys
    still [] a b = tt
    still (y ∷ ys) a b = (All-insert_by list_cmp (λ z. same_key y z ≡ false) x zs (key_turn y.key x.key ∙ a.0) b.0, still ys a.1 b.1)

distinct_rows : (m : Mailbox) (ks : List ChatKey) → IsDistinct key_eq ks → IsDistinct same_key (map (list_row m) ks)
unfolding IsDistinct
distinct_rows m [] d = tt
distinct_rows m (k ∷ ks) d = (others ks d.0, distinct_rows m ks d.1)
  where
    others : (ls : List ChatKey) → AllByRecursion (λ l. key_eq k l ≡ false) ls
        → AllByRecursion (λ row. same_key (list_row m k) row ≡ false) (map (list_row m) ls)
    others [] a = tt
    others (l ∷ ls) a = (a.0, others ls a.1)

none_yet : (xs : List ListRow) → AllByRecursion (λ x. None_of (same_key x) []) xs
none_yet [] = tt
none_yet (x ∷ xs) = (tt, none_yet xs)

pub rows_sorted : (m : Mailbox) → IsStrictlySortedBy list_cmp (list_page m).rows
rows_sorted m =
    let rows = map (list_row m) (keys m) in
    sorted_from list_cmp list_total (sorted_by list_cmp rows) (rising_from [] rows (distinct_rows m (keys m) (IsDistinct-firsts key_eq (map (λ k. k.1) (chats m)))) (none_yet rows) tt)

pub rows_all : (m : Mailbox) → IsPermutation (map (list_row m) (keys m)) (list_page m).rows
rows_all m = permuted list_cmp (map (list_row m) (keys m))

pub keys_once : (m : Mailbox) → IsDistinct key_eq (keys m)
keys_once m = IsDistinct-firsts key_eq (map (λ k. k.1) (chats m))

-- ---- which chats there are

-- in a table of distinct ids each is found
abbrev OnceKnown : Known → Type 0
OnceKnown ks = IsDistinct bytes_eq (map (λ k. k.0) ks)

each_found : (ks : Known) → OnceKnown ks → AllByRecursion (λ k. known_chat ks k.0 ≡ Some k.1) ks
unfolding IsDistinct
each_found [] d = tt
each_found (k ∷ ks) d = (rw (same_bytes k.0, find) refl, after ks d.0 (each_found ks d.1))
  where
    after : (js : Known) → AllByRecursion (λ id. bytes_eq k.0 id ≡ false) (map (λ j. j.0) js)
        → AllByRecursion (λ j. known_chat ks j.0 ≡ Some j.1) js → AllByRecursion (λ j. known_chat (k ∷ ks) j.0 ≡ Some j.1) js
    after [] a b = tt
    after (j ∷ js) a b = (rw (bytes_turn j.0 k.0 ∙ a.0, find) b.0, after js a.1 b.1)

any_known : (key : ChatKey) (whole ks : Known) → AllByRecursion (λ k. known_chat whole k.0 ≡ Some k.1) ks
    → list_any (λ k. key_eq key k.1) ks ≡ list_any (λ id. is_chat key (known_chat whole id)) (map (λ k. k.0) ks)
any_known key whole [] a = refl
any_known key whole (k ∷ ks) a = λ i. is_chat key (sym a.0 i) || any_known key whole ks a.1 i

any_map : {X Y : Type 0} (p : Y → Bool) (f : X → Y) (xs : List X) → list_any p (map f xs) ≡ list_any (λ x. p (f x)) xs
any_map p f [] = refl
any_map p f (x ∷ xs) = ap (λ b. p (f x) || b) (any_map p f xs)

some_filter : {X : Type 0} (p : X → Bool) (xs : List X) → list_any p xs ≡ has_some (filter p xs)
some_filter p [] = refl
some_filter p (x ∷ xs) = elim (p x) as (λ b. (b || list_any p xs) ≡ has_some (cond b (x ∷ filter p xs) (filter p xs))) [ true ↦ sym (lt-ltb 0 (length (x ∷ filter p xs)) (omega arith)) | false ↦ some_filter p xs ]

ids_of : (me : Bytes) (ts : List Mail) → map (λ t. t.spot.id) (map (cites_at me) ts) ≡ map (λ t. t.placed.card.id) ts
ids_of me [] = refl
ids_of me (t ∷ ts) = ap (λ ids. t.placed.card.id ∷ ids) (ids_of me ts)

distinct_ids : (ts : List Mail) → IsDistinct same_id ts → IsDistinct bytes_eq (map (λ t. t.placed.card.id) ts)
unfolding IsDistinct
distinct_ids [] d = tt
distinct_ids (t ∷ ts) d = (others ts d.0, distinct_ids ts d.1)
  where
    others : (us : List Mail) → AllByRecursion (λ u. same_id t u ≡ false) us
        → AllByRecursion (λ id. bytes_eq t.placed.card.id id ≡ false) (map (λ u. u.placed.card.id) us)
    others [] a = tt
    others (u ∷ us) a = (a.0, others us a.1)

ids_known : (m : Mailbox) → map (λ k. k.0) (chats m) ≡ map (λ t. t.placed.card.id) (contents m)
ids_known m = ids-known_after [] (cites m) ∙ ids_of m.me (contents m)

once_known : (m : Mailbox) → OnceKnown (chats m)
once_known m =
    subst (IsDistinct bytes_eq) (sym (ids_known m)) (distinct_ids (contents m) (IsDistinct-filter same_id (λ t. is_content (kind_of t.placed.card)) (present m) (IsDistinct-firsts same_id (mails m))))

pub keys_are : (m : Mailbox) (key : ChatKey) → list_any (key_eq key) (keys m) ≡ has_some (chat_mails m key)
keys_are m key =
    let all = map (λ k. k.1) (chats m) in
    list_any-found (key_eq key) (keys m)
    ∙ ap is_some (find-firsts key_eq (key_eq key) (λ x y e. ap (key_eq key) (key_same x y e)) all)
    ∙ sym (list_any-found (key_eq key) all)
    ∙ any_map (key_eq key) (λ k. k.1) (chats m)
    ∙ any_known key (chats m) (chats m) (each_found (chats m) (once_known m))
    ∙ ap (list_any (λ id. is_chat key (chat m id))) (ids_known m)
    ∙ any_map (λ id. is_chat key (chat m id)) (λ t. t.placed.card.id) (contents m)
    ∙ some_filter (λ t. is_chat key (chat m t.placed.card.id)) (contents m)

pub rows_are : (m : Mailbox) (key : ChatKey)
    → list_any (λ row. key_eq key row.key) (list_page m).rows ≡ has_some (chat_mails m key)
rows_are m key =
    sym (list_any-IsPermutation (λ row. key_eq key row.key) (map (list_row m) (keys m)) (list_page m).rows (rows_all m))
    ∙ any_map (λ row. key_eq key row.key) (list_row m) (keys m)
    ∙ keys_are m key

pub pages_are : (m : Mailbox) (key : ChatKey) → is_some (page m key) ≡ list_any (λ row. key_eq key row.key) (list_page m).rows
pages_are m key =
    elim (list_any (key_eq key) (keys m)) as (λ b. is_some (if b then Some (page_of m key) else None) ≡ b) [ true ↦ refl | false ↦ refl ]
    ∙ keys_are m key ∙ sym (rows_are m key)
