-- What is among ids and keys where one more is put in.
use Rattle.std.proofs.Common.{Bor, is_some, ◌≡◌, refl, sym, ap, ◌∙◌, subst, Bool, true, false, cond, ◌||◌, Option, Some, None, List}
use Rattle.std.specs.Prelude.{IfSome}
use Rattle.std.specs.List.{list_any, IsDistinct}
use Rattle.std.specs.List.Sorted.{IsStrictlySortedBy}
use Rattle.std.specs.Option.{option_copied}
use Rattle.std.specs.Ordering.{nat_cmp}
use Rattle.std.specs.declared.cmp.Ordering.{Ordering}
use Rattle.std.specs.Cmp.Lexicographic.{slice_cmp}
use Rattle.std.specs.BTreeMap.{is_at}
use Rattle.std.specs.Str.{bytes_eq}
use Rattle.std.proofs.Math.Bool.{or_comm}
use Rattle.std.proofs.lemmas.Map.Keys.{IsDistinct-from_sorted}
use Rattle.std.proofs.lemmas.Map.Text.{is_eq-slice_cmp}
use Rattle.card_type.specs.declared.key.ChatKey.{ChatKey}
use Rattle.card_type.specs.Effects.{is_among}
use Rattle.card_type.specs.Keys.{key_cmp, key_eq}
use Rattle.mailbox_model.specs.Lists.{Bytes}
use Rattle.mailbox_model.proofs.ChatLaws.{same_bytes}
use Rattle.mailbox_model.proofs.ListLaws.{key_turn}
use Rattle.mailbox_model.proofs.MailLaws.{bytes_turn}
use Rattle.indexes.proofs.OrderedDates.{keys_tie}

either : (b c : Bool) → cond b true c ≡ (b || c)
either true c = refl
either false c = refl

-- where all that tie are equal
module _ {K : Type 0} (cmp : K → K → Ordering) (same : K → K → Bool) (ties : (x y : K) → is_at (cmp x) y ≡ same x y)
    (turn : (x y : K) → same x y ≡ same y x) where
  one_more : (old new : List K) (one : K)
      → ((q : K) → list_any (is_at (cmp q)) new ≡ cond (is_at (cmp one) q) true (list_any (is_at (cmp q)) old))
      → (q : K) → list_any (same q) new ≡ (list_any (same q) old || same q one)
  one_more old new one updates q =
      sym (among new) ∙ updates q ∙ (λ i. cond (ties one q i) true (among old i))
      ∙ either (same one q) (list_any (same q) old) ∙ or_comm (same one q) (list_any (same q) old)
      ∙ ap (λ b. list_any (same q) old || b) (turn one q)
    where
      among : (ks : List K) → list_any (is_at (cmp q)) ks ≡ list_any (same q) ks
      among ks i = list_any (λ k. ties q k i) ks

pub id_more : (old new : List Bytes) (one : Bytes)
    → ((q : Bytes) → list_any (is_at (slice_cmp nat_cmp q)) new
    ≡ cond (is_at (slice_cmp nat_cmp one) q) true (list_any (is_at (slice_cmp nat_cmp q)) old))
    → (q : Bytes) → is_among new q ≡ (is_among old q || bytes_eq q one)
id_more = one_more (slice_cmp nat_cmp) bytes_eq is_eq-slice_cmp bytes_turn

pub key_more : (old new : List ChatKey) (one : ChatKey)
    → ((q : ChatKey) → list_any (is_at (key_cmp q)) new ≡ cond (is_at (key_cmp one) q) true (list_any (is_at (key_cmp q)) old))
    → (q : ChatKey) → list_any (key_eq q) new ≡ (list_any (key_eq q) old || key_eq q one)
key_more = one_more key_cmp key_eq keys_tie key_turn

-- one that is taken out is not left
pub id_gone : (old new : List Bytes) (o : Option Bytes)
    → IfSome o (λ one. (q : Bytes) → list_any (is_at (slice_cmp nat_cmp q)) new ≡ cond (is_at (slice_cmp nat_cmp one) q) false (list_any (is_at (slice_cmp nat_cmp q)) old))
    → IfSome o (λ one. is_among new one ≡ false)
id_gone old new None h = tt
id_gone old new (Some one) h =
    sym (λ i. list_any (λ k. is_eq-slice_cmp one k i) new) ∙ h one ∙ ap (λ b. cond b false (list_any (is_at (slice_cmp nat_cmp one)) old)) (is_eq-slice_cmp one one ∙ same_bytes one)

-- what is lent is there
pub still_some : {X : Type 0} (o : Option (Bor X)) → is_some (option_copied o) ≡ is_some o
still_some None = refl
still_some (Some x) = refl

-- ---- in order, none is there twice

pub ids_once : (ids : List Bytes) → IsStrictlySortedBy (slice_cmp nat_cmp) ids → IsDistinct bytes_eq ids
ids_once ids sorted = subst (λ same. IsDistinct same ids) (λ i a b. is_eq-slice_cmp a b i) (IsDistinct-from_sorted (slice_cmp nat_cmp) ids sorted)

pub keys_once : (keys : List ChatKey) → IsStrictlySortedBy key_cmp keys → IsDistinct key_eq keys
keys_once keys sorted = subst (λ same. IsDistinct same keys) (λ i a b. keys_tie a b i) (IsDistinct-from_sorted key_cmp keys sorted)
