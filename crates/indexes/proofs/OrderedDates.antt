-- The dates of chats, which are put into the order of the list by key.
use Rattle.std.proofs.Common.{Bor, ◌≡◌, refl, sym, ap, ◌∙◌, subst, Bool, true, false, cond, Option, Some, None, List, [], ◌∷◌, ◌++◌, map, T}
use Rattle.std.specs.Prelude.{if◌then◌else◌}
use Rattle.std.specs.FinMap as map_of
use Rattle.std.specs.FinMap.Entries.{below_all, find-append}
use Rattle.std.specs.Iterator.{Yields}
use Rattle.std.specs.Map.Iter.{TakesFirst, deref_pair}
use Rattle.std.specs.Option.{option_map}
use Rattle.std.specs.Ordering.{is_eq, is_lt, eq_by_cmp, ordering_reverse}
use Rattle.std.specs.Cmp.{IsTotalOrder}
use Rattle.std.specs.declared.cmp.Ordering.{Ordering}
use Rattle.std.specs.declared.cmp.Ordering.TheVariants.{Less, Equal, Greater}
use Rattle.std.proofs.lemmas.Bool.{and_parts, false≢true}
use Rattle.std.proofs.lemmas.Cmp.{tied_itself}
use Rattle.std.proofs.lemmas.Map.Iter.{rest_more, rest_so_far}
use Rattle.lists.proofs.Inserts.{agree}
use Rattle.card_type.specs.declared.key.ChatKey.{ChatKey}
use Rattle.card_type.specs.Keys.{key_cmp, key_eq}
use Rattle.card_type.proofs.Orders.{keys_total, keys_exact}
use Rattle.chat_view.specs.declared.state.ChatState.{ChatState}
use Rattle.chatlist.specs.Places.{with_place}
use Rattle.mailbox_model.specs.ChatList.{Dated}
use Rattle.mailbox_model.proofs.ListLaws.{key_same, key_self}
use Rattle.chat_view.specs.Standing.{last_date}
use Rattle.indexes.specs.Kept.{date_at}
use Rattle.indexes.proofs.Ordered.{date_with}

-- ---- no key comes twice where keys rise

module _ {K X : Type 0} (cmp : K → K → Ordering) (total : IsTotalOrder cmp) (k : K) (x : X) (later : List (K × X)) where
  below_it : (before : K) (es : List (K × X)) → below_all cmp before (es ++ (k, x) ∷ later) ≡ true → is_lt (cmp before k) ≡ true
  below_it before [] h = (and_parts (is_lt (cmp before k)) (below_all cmp before later) h).0
  below_it before (e ∷ es) h = below_it before es (and_parts (is_lt (cmp before e.0)) (below_all cmp before (es ++ (k, x) ∷ later)) h).1

  apart : (before : K) → is_lt (cmp before k) ≡ true → eq_by_cmp cmp k before ≡ false
  apart before h =
      ap is_eq (total.antisymm k before)
      ∙ elim (cmp before k) as (λ o. is_lt o ≡ true → is_eq (ordering_reverse o) ≡ false) [
        | Less ↦ λ e. refl
        | Equal ↦ λ e. absurd (false≢true e)
        | Greater ↦ λ e. refl
      ] h

  pub key_is_new : (es : List (K × X)) → map_of.is_sorted cmp (es ++ (k, x) ∷ later) ≡ true → map_of.find cmp k es ≡ None
  key_is_new [] h = refl
  key_is_new (e ∷ es) h =
      let parts = and_parts (below_all cmp e.0 (es ++ (k, x) ∷ later)) (map_of.is_sorted cmp (es ++ (k, x) ∷ later)) h in
      ap (λ b. cond b (Some e.1) (map_of.find cmp k es)) (apart e.0 (below_it e.0 es parts.0)) ∙ key_is_new es parts.1

pub entries_rise : {K X : Type 0} (cmp : K → K → Ordering) (values : map_of.FinMap cmp X) → map_of.is_sorted cmp (map_of.entries values) ≡ true
entries_rise cmp values = holds (map_of.is_sorted cmp (map_of.entries values)) (map_of.entries_sorted values)
  where
    holds : (b : Bool) → T b → b ≡ true
    holds true h = refl
    holds false h = absurd h

-- where a walk over the entries of a map has come after those of xs, and e is the next
pub walk_rises : {K X : Type 0} (cmp : K → K → Ordering) (values : map_of.FinMap cmp X) (start rest later : List (K × X)) → start ≡ map_of.entries values
    → (xs : List (Bor K × Bor X)) → Yields (TakesFirst deref_pair) start xs rest
    → (r : Option (Bor K × Bor X)) (e : Bor K × Bor X) → r ≡ Some e → TakesFirst deref_pair rest r later
    → map_of.is_sorted cmp (map deref_pair xs ++ deref_pair e ∷ later) ≡ true
walk_rises cmp values start rest later starts xs yielded r e is steps =
    ap (map_of.is_sorted cmp) (sym (sym starts ∙ rest_so_far deref_pair xs start rest yielded ∙ ap (λ es. map deref_pair xs ++ es) (rest_more deref_pair rest later r e is steps)))
    ∙ entries_rise cmp values

-- ---- keys that tie are alike

is_Equal : (o : Ordering) → is_eq o ≡ true → o ≡ Equal
is_Equal Less e = absurd (false≢true e)
is_Equal Equal e = refl
is_Equal Greater e = absurd (false≢true e)

pub keys_tie : (a b : ChatKey) → eq_by_cmp key_cmp a b ≡ key_eq a b
keys_tie a b =
    agree (eq_by_cmp key_cmp a b) (key_eq a b) (λ e. subst (λ c. key_eq a c ≡ true) (keys_exact a b (is_Equal (key_cmp a b) e)) (key_self a))
    (λ e. subst (λ c. eq_by_cmp key_cmp a c ≡ true) (key_same a b e) (ap is_eq (tied_itself keys_total a)))

-- ---- the dates of the states so far

abbrev pub AreDates : List (ChatKey × ChatState) → List Dated → Type 0
AreDates states order = (key : ChatKey) → date_at order key ≡ option_map last_date (map_of.find key_cmp key states)

pub dates_more : (states : List (ChatKey × ChatState)) (key : ChatKey) (state : ChatState) (later : List (ChatKey × ChatState)) (order : List Dated)
    → map_of.is_sorted key_cmp (states ++ (key, state) ∷ later) ≡ true → AreDates states order
    → AreDates (states ++ (key, state) ∷ []) (with_place key (last_date state) order)
dates_more states key state later order sorted are other =
    date_with key (last_date state) order other
    ∙ ap (λ o. if key_eq other key then Some (last_date state) else o) (are other)
    ∙ ap (λ b. if b then Some (last_date state) else option_map last_date (map_of.find key_cmp other states)) (sym (keys_tie other key))
    ∙ moved (eq_by_cmp key_cmp other key) state (map_of.find key_cmp other states)
    ∙ ap (option_map last_date) (sym (find-append key_cmp keys_total states key state other (key_is_new key_cmp keys_total key state later states sorted)))
  where
    moved : (b : Bool) (x : ChatState) (o : Option ChatState) → (if b then Some (last_date x) else option_map last_date o) ≡ option_map last_date (cond b (Some x) o)
    moved true x o = refl
    moved false x o = refl
